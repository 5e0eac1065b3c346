-- What a router sends when a datagram arrives goes back to where it came from.
use Rattle.hn_base.proofs.Names.{◌≡◌, ◌∙◌, ◌⊎◌, ℕ, Bool, true, false, cond, List, [], ◌∷◌, ◌++◌, map, is_some, Option, Some, None, sym, ap, subst, refl, inl, inr, All-nil, Then, Each, OnSome, KeepsBy}
use Rattle.hn_sync.proofs.Names.{◌==◌, All, EpId, NodeId, Contains-from_map, all_of, Port, endpoints_of, port_at, Arrive, IsEvent, Subject, Done, Outgoing, Origin, Running, State, IsItemRule}
use Rattle.hn_sync.proofs.Names.{IsTlvRule, IsArrival, IsClaim, network_state, node_endpoint, named, met, IsTaken, IsPublishing, IsReaching, IsPortReset, IsHashing, IsRefresh, IsNetworkRequest}
use Rattle.hn_sync.proofs.Names.{request_node, with_some_answer, with_state, is_reached, state_item, AtPort, begun_at, noted, PlainState, Took, PlainTlv, PlainItem}
use Rattle.hn_dncp.specs.declared.greet.Greet.{Greet}
use Rattle.hn_dncp.specs.declared.greet.Greet.TheVariants as greet
use Rattle.hn_dncp.specs.Ask.{may_ask}
use Rattle.hn_dncp.specs.Greet.{greeting}
use Rattle.hn_router.specs.Act.{IsFar, IsMalformed, IsRead, Happened}
use Rattle.hn_rules.specs.declared.answers.Subject.TheVariants as subject
use Rattle.hn_rules.specs.declared.done.Note.TheVariants as note
use Rattle.hn_rules.specs.Arrival.{IsTlvs}
use Rattle.hn_rules.specs.NodeEndpoint.{asking}
use Rattle.hn_rules.specs.Rules.{Rule}
use Rattle.hn_store.specs.declared.state.Took.TheVariants as took
use Rattle.hn_typed.specs.Item as item

-- ---- rules that send nothing

abbrev sends : Running → List Outgoing
sends r = r.done.sends

abbrev SendsNothing : Rule → Type 0
SendsNothing rule = KeepsBy sends rule

nothing_by_both : (first second : Rule) → SendsNothing first → SendsNothing second → SendsNothing (Then first second)
nothing_by_both first second one other before after h = other h.0 after h.2 ∙ one before h.0 h.1

nothing_by_each : {A : Type 0} (rule : A → Rule) → ((x : A) → SendsNothing (rule x)) → (xs : List A) → SendsNothing (Each rule xs)
nothing_by_each rule all [] before after h = ap sends h
nothing_by_each rule all (x ∷ xs) before after h = nothing_by_each rule all xs h.0 after h.2 ∙ all x before h.0 h.1

nothing_at_port : (at : EpId) (rule : Port → Rule) → ((port : Port) → SendsNothing (rule port)) → SendsNothing (AtPort at rule)
nothing_at_port at rule all before after h = by_port (port_at at before.state.ports) h
  where
    by_port : (o : Option Port) → OnSome rule o before after → sends after ≡ sends before
    by_port None k = ap sends k
    by_port (Some port) k = all port before after k

-- one of two that are alike
either : (b : Bool) (r s : Running) (ss : List Outgoing) → sends r ≡ ss → sends s ≡ ss → sends (cond b r s) ≡ ss
either true r s ss one other = one
either false r s ss one other = other

-- ---- a refresh

publishing_sends_nothing : SendsNothing IsPublishing
publishing_sends_nothing before after (inl h) = ap sends h.1
publishing_sends_nothing before after (inr h) = ap sends h.1.gives

reset_sends_nothing : (port : Port) → SendsNothing (IsPortReset port)
reset_sends_nothing port before after (inl h) = ap sends h.1
reset_sends_nothing port before after (inr h) = ap sends h.1.1

hashing_sends_nothing : SendsNothing IsHashing
hashing_sends_nothing before after (inl h) = ap sends h.1
hashing_sends_nothing before after (inr h) = nothing_by_each (λ at. AtPort at IsPortReset) (λ at. nothing_at_port at IsPortReset reset_sends_nothing) (endpoints_of before.state.ports) _ after h.1

refresh_sends_nothing : SendsNothing IsRefresh
refresh_sends_nothing =
    nothing_by_both IsPublishing (Then IsReaching IsHashing) publishing_sends_nothing
    (nothing_by_both IsReaching IsHashing (λ before after h. ap sends h.gives) hashing_sends_nothing)

-- ---- the rules of the items

asking_sends_nothing : (port : Port) (r : Running) → sends (asking port r) ≡ sends r
asking_sends_nothing port r = either (may_ask r.state.moment port.asked) _ r (sends r) refl refl

met_sends_nothing : (how : Greet) (port : Port) (r : Running) → sends (met how port r) ≡ sends r
met_sends_nothing greet.Full port r = refl
met_sends_nothing greet.Unknown port r = asking_sends_nothing port r
met_sends_nothing greet.Known port r = refl
met_sends_nothing greet.Added port r = refl

named_sends_nothing : (from : Origin) (node : NodeId) (endpoint : EpId) (port : Port) (r : Running) → sends (named from node endpoint port r) ≡ sends r
named_sends_nothing from node endpoint port r = met_sends_nothing (greeting node endpoint from.multicast port.peers) _ _

endpoint_sends_nothing : (from : Origin) (node : NodeId) (endpoint : EpId) (port : Port) (r : Running) → sends (node_endpoint from node endpoint port r) ≡ sends r
endpoint_sends_nothing from node endpoint port r =
    let greets : Running = named from node endpoint port r in
    let third : Running = cond (is_some r.sender) (noted (note.Ignored 3 5) r) greets in
    let second : Running = cond (node.0 == r.state.id.0) (noted (note.Ignored 3 6) r) third in
    either (endpoint.0 == 0) (noted (note.Ignored 3 7) r) second (sends r) refl
    (either (node.0 == r.state.id.0) (noted (note.Ignored 3 6) r) third (sends r) refl
    (either (is_some r.sender) (noted (note.Ignored 3 5) r) greets (sends r) refl (named_sends_nothing from node endpoint port r)))

some_sends_nothing : (about : Subject) (o : Option PlainItem) (r : Running) → sends (with_some_answer about o r) ≡ sends r
some_sends_nothing about None r = refl
some_sends_nothing about (Some i) r = refl

request_sends_nothing : SendsNothing IsNetworkRequest
request_sends_nothing before after h =
    nothing_by_each (λ id b a. a ≡ with_state id b) (λ id b a k. ap sends k ∙ some_sends_nothing (subject.NodeState id) (state_item false b.state id) b) before.state.reach _ after h

node_sends_nothing : (id : NodeId) (r : Running) → sends (request_node id r) ≡ sends r
node_sends_nothing id r =
    either (is_reached id r.state.reach) (with_some_answer (subject.NodeData id) (state_item true r.state id) r) r (sends r)
    (some_sends_nothing (subject.NodeData id) (state_item true r.state id) r) refl

state_sends_nothing : (hash : List ℕ) (port : Port) (r : Running) → sends (network_state hash port r) ≡ sends r
state_sends_nothing hash port r = either _ _ _ (sends r) refl refl

claim_sends_nothing : (number : ℕ) → SendsNothing (IsClaim number)
claim_sends_nothing number before after (inl h) = ap sends h.publishes.gives
claim_sends_nothing number before after (inr h) = ap sends h.publishes.gives

taken_sends_nothing : (carried : PlainState) (how : Took) → SendsNothing (IsTaken carried how)
taken_sends_nothing carried took.Own before after h = claim_sends_nothing carried.number _ after h
taken_sends_nothing carried took.Ask before after h = ap sends h
taken_sends_nothing carried took.Kept before after h = ap sends h
taken_sends_nothing carried took.Renumbered before after h = ap sends h
taken_sends_nothing carried took.Stale before after h = ap sends h
taken_sends_nothing carried took.BadHash before after h = ap sends h
taken_sends_nothing carried took.BadBody before after h = ap sends h
taken_sends_nothing carried took.TooLong before after h = ap sends h
taken_sends_nothing carried took.Full before after h = ap sends h

item_sends_nothing : (from : Origin) (i : PlainItem) → SendsNothing (IsItemRule from i)
item_sends_nothing from (item.NodeEndpoint node endpoint subs) before after h =
    nothing_at_port from.endpoint (λ port b a. a ≡ node_endpoint from (record { 0 = node }) (record { 0 = endpoint }) port b)
    (λ port b a k. ap sends k ∙ endpoint_sends_nothing from (record { 0 = node }) (record { 0 = endpoint }) port b) before after h
item_sends_nothing from (item.RequestNetwork subs) before after h = request_sends_nothing before after h
item_sends_nothing from (item.RequestNode node subs) before after h = ap sends h ∙ node_sends_nothing (record { 0 = node }) before
item_sends_nothing from (item.NetworkState hash subs) before after h =
    nothing_at_port from.endpoint (λ port b a. a ≡ network_state hash port b) (λ port b a k. ap sends k ∙ state_sends_nothing hash port b) before after h
item_sends_nothing from (item.NodeState node number age hash body) before after h =
    taken_sends_nothing (record { node = node; number = number; age = age; hash = hash; body = body }) h.how _ after h.taken
item_sends_nothing from _ before after h = ap sends h

tlv_sends_nothing : (from : Origin) (tlv : PlainTlv) → SendsNothing (IsTlvRule from tlv)
tlv_sends_nothing from tlv before after (inl h) = item_sends_nothing from h.0 before after h.2
tlv_sends_nothing from tlv before after (inr h) = ap sends h.2

pub tlvs_send_nothing : (from : Origin) (tlvs : List PlainTlv) → SendsNothing (IsTlvs from tlvs)
tlvs_send_nothing from tlvs =
    nothing_by_each (λ tlv. Then (IsTlvRule from tlv) IsRefresh) (λ tlv. nothing_by_both (IsTlvRule from tlv) IsRefresh (tlv_sends_nothing from tlv) refresh_sends_nothing) tlvs

-- ---- an arrival

-- it goes back to where it came from
abbrev pub GoesBack : Origin → Outgoing → Type 0
GoesBack from send = (send.endpoint ≡ from.endpoint) × (send.to ≡ Some from.from)

back_to : (from : Origin) (datagrams : List (List ℕ)) → All (GoesBack from) (map (λ bytes. record { endpoint = from.endpoint; to = Some from.from; bytes = bytes }) datagrams)
back_to from datagrams =
    let made : List ℕ → Outgoing = λ bytes. record { endpoint = from.endpoint; to = Some from.from; bytes = bytes } in
    all_of (GoesBack from) (map made datagrams) (λ send there. let one = Contains-from_map made datagrams send there in
    (sym (ap (λ (o : Outgoing). o.endpoint) one.2), sym (ap (λ (o : Outgoing). o.to) one.2)))

arrival_goes_back : (from : Origin) (tlvs : List PlainTlv) (before after : Running) → sends before ≡ [] → IsArrival from tlvs before after → All (GoesBack from) (sends after)
arrival_goes_back from tlvs before after none h =
    let made : List ℕ → Outgoing = λ bytes. record { endpoint = from.endpoint; to = Some from.from; bytes = bytes } in
    let first : sends h.0 ≡ [] = tlvs_send_nothing from tlvs before h.0 h.1 ∙ none in
    let all : sends after ≡ map made h.2.datagrams = ap sends h.2.gives ∙ ap (λ (ss : List Outgoing). ss ++ map made h.2.datagrams) first in
    subst (All (GoesBack from)) (sym all) (back_to from h.2.datagrams)

event_goes_back : (from : Origin) (bytes : List ℕ) (before after : Running) → sends before ≡ [] → IsEvent (Arrive from bytes) before after → All (GoesBack from) (sends after)
event_goes_back from bytes before after none (inl h) = subst (All (GoesBack from)) (sym (ap sends h.1 ∙ none)) (All-nil (GoesBack from))
event_goes_back from bytes before after none (inr h) = by_rule h.1
  where
    by_rule : IsFar from before after ⊎ (IsMalformed from bytes before after ⊎ IsRead from bytes before after) → All (GoesBack from) (sends after)
    by_rule (inl k) = subst (All (GoesBack from)) (sym (ap sends k.gives ∙ none)) (All-nil (GoesBack from))
    by_rule (inr (inl k)) = subst (All (GoesBack from)) (sym (ap sends k.gives ∙ none)) (All-nil (GoesBack from))
    by_rule (inr (inr k)) = arrival_goes_back from k.tlvs before after none k.arrives

pub answers_go_back : (now : ℕ) (from : Origin) (bytes : List ℕ) (s next : State) (done : Done) → Happened now (Arrive from bytes) s next done → All (GoesBack from) done.sends
unfolding Happened
answers_go_back now from bytes s next done h =
    subst (All (GoesBack from)) (sym (ap (λ (d : Done). d.sends) h.3)) (event_goes_back from bytes (begun_at now s) h.0 refl h.1)
