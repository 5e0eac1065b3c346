-- After an event a router's moment is the event's, and its endpoints change only where one is attached or detached.
use Rattle.hn_base.proofs.Names.{◌≡◌, ◌∙◌, Bool, cond, List, ◌∷◌, ◌++◌, map, filter, nat_lt, inl, inr, refl, sym, ap, map-append, Then}
use Rattle.hn_router.proofs.Names.{EpId, PlainTlv, Port, endpoints_of, State, Running, Origin, IsArrival, IsAssigning, ending, IsRestarting, IsRefresh, Rule, begun_at, IsExpiry, forgetting}
use Rattle.hn_router.proofs.Names.{IsPortsTick, PlainEvent, Arrive, Tick, Attach, Restart, is_refused, IsEdit, IsEventRule, IsEvent, endpoints_by, IsTick}
use Rattle.hn_dncp.specs.Port.{attached_port}
use Rattle.hn_own.specs.Ports.{attached}
use Rattle.hn_rules.specs.Laws.{KeepsEndpoints}
use Rattle.hn_router.specs.Act.{Happened}
use Rattle.hn_router.proofs.Edits.{filter_parts, plain_edit}
use Rattle.hn_router.proofs.Refused.{refused_then}
use Rattle.hn_router.specs.Laws.{MomentIsNow, EndpointsFollow}
use Rattle.hn_rules.specs.Ticks.{IsLosing, IsSettling}

-- what the laws say of the rules
pub record MomentLaws : Type 0 where
  pub refresh : KeepsEndpoints IsRefresh
  pub arrival : (from : Origin) (tlvs : List PlainTlv) → KeepsEndpoints (IsArrival from tlvs)
  pub expiry : KeepsEndpoints IsExpiry
  pub assigning : KeepsEndpoints IsAssigning
  pub ports : KeepsEndpoints IsPortsTick
  pub restarting : KeepsEndpoints IsRestarting

-- ---- composition

keeps_both : (first second : Rule) → KeepsEndpoints first → KeepsEndpoints second → KeepsEndpoints (Then first second)
keeps_both first second one two before after (between, h, k) =
    let left = one before between h in
    let right = two between after k in
    (right.0 ∙ left.0, right.1 ∙ left.1)

keeps_plain : (step : Running → Running) → ((r : Running) → (step r).state.moment ≡ r.state.moment) → ((r : Running) → endpoints_of (step r).state.ports ≡ endpoints_of r.state.ports)
    → KeepsEndpoints (λ b a. a ≡ step b)
keeps_plain step moment ends before after is =
    (ap (λ (r : Running). r.state.moment) is ∙ moment before, ap (λ (r : Running). endpoints_of r.state.ports) is ∙ ends before)

tick_keeps_endpoints : MomentLaws → KeepsEndpoints IsTick
tick_keeps_endpoints laws =
    let losing = keeps_both IsExpiry (Then (λ b a. a ≡ ending b) IsRefresh) laws.expiry (keeps_both (λ b a. a ≡ ending b) IsRefresh (keeps_plain ending (λ r. refl) (λ r. refl)) laws.refresh) in
    let settling = keeps_both IsAssigning IsRefresh laws.assigning laws.refresh in
    keeps_both IsLosing (Then (λ b a. a ≡ forgetting b) (Then IsSettling IsPortsTick)) losing
    (keeps_both (λ b a. a ≡ forgetting b) (Then IsSettling IsPortsTick) (keeps_plain forgetting (λ r. refl) (λ r. refl))
    (keeps_both IsSettling IsPortsTick settling laws.ports))

-- ---- the endpoints after one is attached or detached

attached_endpoints : (port : Port) (ports : List Port) → endpoints_of (attached port ports) ≡ endpoints_by (Attach port.id) (endpoints_of ports)
attached_endpoints port ports =
    let number = λ (p : Port). p.id in
    let below = filter (λ (p : Port). nat_lt p.id.0 port.id.0) ports in
    let above = filter (λ (p : Port). nat_lt port.id.0 p.id.0) ports in
    map-append number below (port ∷ above)
    ∙ ap (λ (es : List EpId). es ++ port.id ∷ map number above) (filter_parts (λ (e : EpId). nat_lt e.0 port.id.0) number ports)
    ∙ ap (λ (es : List EpId). filter (λ (e : EpId). nat_lt e.0 port.id.0) (map number ports) ++ port.id ∷ es) (filter_parts (λ (e : EpId). nat_lt port.id.0 e.0) number ports)

-- ---- an event

-- the moment and the endpoints after an event
abbrev Follows : PlainEvent → Running → Running → Type 0
Follows event r a = (a.state.moment ≡ r.state.moment) × (endpoints_of a.state.ports ≡ endpoints_by event (endpoints_of r.state.ports))

module _ (laws : MomentLaws) where
  -- an edit
  follows_edit : (event : PlainEvent) (r a : Running) → IsEdit event r a → Follows event r a
  follows_edit (Attach at) r a is =
      (ap (λ (x : Running). x.state.moment) is.gives, ap (λ (x : Running). endpoints_of x.state.ports) is.gives ∙ attached_endpoints (attached_port at r.state.moment is.word) r.state.ports)
  follows_edit Restart r a restarts = laws.restarting r a restarts
  follows_edit event r a is = let leaves = plain_edit event r a is in (leaves.1, leaves.2)

  -- and then a refresh
  follows_then : (event : PlainEvent) (r a : Running) → Then (IsEdit event) IsRefresh r a → Follows event r a
  follows_then event r a (between, edits, refreshes) =
      let follows = follows_edit event r between edits in
      let kept = laws.refresh between a refreshes in
      (kept.0 ∙ follows.0, kept.1 ∙ follows.1)

  follows_rule : (event : PlainEvent) (r a : Running) → IsEventRule event r a → Follows event r a
  follows_rule (Arrive from bytes) r a (inl far) = (ap (λ (x : Running). x.state.moment) far.gives, ap (λ (x : Running). endpoints_of x.state.ports) far.gives)
  follows_rule (Arrive from bytes) r a (inr (inl malformed)) =
      (ap (λ (x : Running). x.state.moment) malformed.gives, ap (λ (x : Running). endpoints_of x.state.ports) malformed.gives)
  follows_rule (Arrive from bytes) r a (inr (inr read)) = laws.arrival from read.tlvs r a read.arrives
  follows_rule Tick r a holds = tick_keeps_endpoints laws r a holds
  follows_rule event r a holds = follows_then event r a holds

  pub moment_of_event : (event : PlainEvent) (r a : Running) → IsEvent event r a → a.state.moment ≡ r.state.moment
  moment_of_event event r a (inl (refused, is)) = ap (λ (x : Running). x.state.moment) is
  moment_of_event event r a (inr (accepted, holds)) = (follows_rule event r a holds).0

  pub moment_of : MomentIsNow
  unfolding Happened
  moment_of now event s next done (after, holds, (due, is_due, is_next), is_done) = ap (λ (x : State). x.moment) is_next ∙ moment_of_event event (begun_at now s) after holds

  endpoints_of_event : (event : PlainEvent) (r a : Running) → IsEvent event r a
      → endpoints_of a.state.ports ≡ cond (is_refused event r.state) (endpoints_of r.state.ports) (endpoints_by event (endpoints_of r.state.ports))
  endpoints_of_event event r a (inl (refused, is)) =
      ap (λ (x : Running). endpoints_of x.state.ports) is ∙ sym (ap (λ (b : Bool). cond b (endpoints_of r.state.ports) (endpoints_by event (endpoints_of r.state.ports))) refused)
  endpoints_of_event event r a (inr (accepted, holds)) =
      (follows_rule event r a holds).1 ∙ sym (ap (λ (b : Bool). cond b (endpoints_of r.state.ports) (endpoints_by event (endpoints_of r.state.ports))) accepted)

pub ends_follow : MomentLaws → EndpointsFollow
unfolding Happened
ends_follow laws now event s next done (after, holds, (due, is_due, is_next), is_done) =
    ap (λ (x : State). endpoints_of x.ports) is_next ∙ endpoints_of_event laws event (begun_at now s) after holds
    ∙ ap (λ (b : Bool). cond b (endpoints_of s.ports) (endpoints_by event (endpoints_of s.ports))) (refused_then event now s)
