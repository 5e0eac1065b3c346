-- While a router loses what is lost, and after its prefixes are assigned, what it holds stays, and words are only taken.
use Rattle.hn_base.proofs.Names.{◌≡◌, ◌∙◌, ℕ, List, [], ◌∷◌, ◌++◌, Option, Some, None, sym, ap, inl, inr, append-nil, append_assoc, Then, Each, OnSome, KeepsBy}
use Rattle.hn_base.proofs.RulesKeepPart.{kept_then, kept_each, kept_on}
use Rattle.hn_base.specs.declared.ids.EpId.{EpId}
use Rattle.hn_dncp.specs.declared.port.Port.{Port}
use Rattle.hn_pair.specs.declared.held.Held.{Held}
use Rattle.hn_own.specs.Ports.{endpoints_of, port_at}
use Rattle.hn_rules.specs.declared.running.Running.{Running}
use Rattle.hn_rules.specs.Delegating.{ending}
use Rattle.hn_rules.specs.Refresh.{IsPublishing, IsReaching, IsPortReset, IsHashing, IsRefresh, network_state_hash}
use Rattle.hn_rules.specs.Rules.{Rule, AtPort, words_taken}
use Rattle.hn_rules.specs.Tick.{IsPortExpiry, IsExpiry, IsPortMoving, IsPortSending, IsPortTick, IsPortsTick}
use Rattle.hn_rules.specs.Ticks.{IsLosing}

-- what is held, and the moment
abbrev pub held_at : Running → Held × ℕ
held_at r = (r.state.held, r.state.moment)

at_port : (rule : Port → Rule) → ((port : Port) → KeepsBy held_at (rule port)) → (at : EpId) → KeepsBy held_at (AtPort at rule)
at_port rule each at before after h = kept_on held_at rule each (port_at at before.state.ports) before after h

at_ports : (rule : Port → Rule) → ((port : Port) → KeepsBy held_at (rule port)) → (before after : Running)
    → Each (λ at. AtPort at rule) (endpoints_of before.state.ports) before after → held_at after ≡ held_at before
at_ports rule each before after h = kept_each held_at (λ at. AtPort at rule) (at_port rule each) (endpoints_of before.state.ports) before after h

-- ---- a refresh

publishing_holds : KeepsBy held_at IsPublishing
publishing_holds before after (inl h) = ap held_at h.1
publishing_holds before after (inr h) = ap held_at h.1.gives

reset_holds : (port : Port) → KeepsBy held_at (IsPortReset port)
reset_holds port before after (inl h) = ap held_at h.1
reset_holds port before after (inr h) = ap held_at h.1.1

hashing_holds : KeepsBy held_at IsHashing
hashing_holds before after (inl h) = ap held_at h.1
hashing_holds before after (inr h) = at_ports IsPortReset reset_holds (record before { state = record before.state { net = network_state_hash before.state } }) after h.1

pub refresh_holds : KeepsBy held_at IsRefresh
refresh_holds = kept_then held_at IsPublishing (Then IsReaching IsHashing) publishing_holds (kept_then held_at IsReaching IsHashing (λ before after h. ap held_at h.gives) hashing_holds)

-- ---- what is lost

expiry_holds : KeepsBy held_at IsExpiry
expiry_holds before after h = at_ports IsPortExpiry (λ port b a g. ap held_at g.gives) before after h

pub losing_holds : KeepsBy held_at IsLosing
losing_holds = kept_then held_at IsExpiry (Then (λ b a. a ≡ ending b) IsRefresh) expiry_holds (kept_then held_at (λ b a. a ≡ ending b) IsRefresh (λ b a h. ap held_at h) refresh_holds)

-- ---- what is due at the endpoints

sending_holds : (port : Port) → KeepsBy held_at (IsPortSending port)
sending_holds port before after (inl h) = ap held_at h.1.gives
sending_holds port before after (inr h) = ap held_at h.1

pub ports_hold : KeepsBy held_at IsPortsTick
ports_hold before after h =
    at_ports IsPortTick (λ port. kept_then held_at (IsPortMoving port) (IsPortSending port) (λ b a g. ap held_at g.gives) (sending_holds port)) before after h

-- ---- words

-- a rule only takes more words
abbrev Takes : Rule → Type 0
Takes rule = (before after : Running) → rule before after → (words : List ℕ) × (words_taken after ≡ words_taken before ++ words)

takes_none : (before after : Running) → words_taken after ≡ words_taken before → (words : List ℕ) × (words_taken after ≡ words_taken before ++ words)
takes_none before after same = ([], same ∙ sym (append-nil (words_taken before)))

takes_then : (first second : Rule) → Takes first → Takes second → Takes (Then first second)
takes_then first second one other before after h =
    let (v, is) = one before h.0 h.1 in
    let (w, more) = other h.0 after h.2 in
    (v ++ w, more ∙ ap (λ (ws : List ℕ). ws ++ w) is ∙ append_assoc (words_taken before) v w)

takes_each : {A : Type 0} (rule : A → Rule) → ((x : A) → Takes (rule x)) → (xs : List A) → Takes (Each rule xs)
takes_each rule all [] before after h = takes_none before after (ap words_taken h)
takes_each rule all (x ∷ xs) before after h = takes_then (rule x) (Each rule xs) (all x) (takes_each rule all xs) before after h

takes_on : {A : Type 0} (rule : A → Rule) → ((x : A) → Takes (rule x)) → (found : Option A) → Takes (OnSome rule found)
takes_on rule all None before after h = takes_none before after (ap words_taken h)
takes_on rule all (Some x) before after h = all x before after h

takes_ports : (rule : Port → Rule) → ((port : Port) → Takes (rule port)) → (before after : Running)
    → Each (λ at. AtPort at rule) (endpoints_of before.state.ports) before after → (words : List ℕ) × (words_taken after ≡ words_taken before ++ words)
takes_ports rule each before after h =
    takes_each (λ at. AtPort at rule) (λ at b a g. takes_on rule each (port_at at b.state.ports) b a g) (endpoints_of before.state.ports) before after h

reset_takes : (port : Port) → Takes (IsPortReset port)
reset_takes port before after (inl h) = takes_none before after (ap words_taken h.1)
reset_takes port before after (inr h) = (h.1.0 ∷ [], ap words_taken h.1.1)

publishing_takes : Takes IsPublishing
publishing_takes before after (inl h) = takes_none before after (ap words_taken h.1)
publishing_takes before after (inr h) = takes_none before after (ap words_taken h.1.gives)

hashing_takes : Takes IsHashing
hashing_takes before after (inl h) = takes_none before after (ap words_taken h.1)
hashing_takes before after (inr h) = takes_ports IsPortReset reset_takes (record before { state = record before.state { net = network_state_hash before.state } }) after h.1

pub refresh_takes : (before after : Running) → IsRefresh before after → (words : List ℕ) × (words_taken after ≡ words_taken before ++ words)
refresh_takes =
    takes_then IsPublishing (Then IsReaching IsHashing) publishing_takes
    (takes_then IsReaching IsHashing (λ before after h. takes_none before after (ap words_taken h.gives)) hashing_takes)

sending_takes : (port : Port) → Takes (IsPortSending port)
sending_takes port before after (inl h) = takes_none before after (ap words_taken h.1.gives)
sending_takes port before after (inr h) = takes_none before after (ap words_taken h.1)

pub ports_take : (before after : Running) → IsPortsTick before after → (words : List ℕ) × (words_taken after ≡ words_taken before ++ words)
ports_take before after h =
    takes_ports IsPortTick (λ port. takes_then (IsPortMoving port) (IsPortSending port) (λ b a g. (g.words, ap words_taken g.gives)) (sending_takes port)) before after h
