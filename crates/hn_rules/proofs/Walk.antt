-- The one walk over the rules: what each elementary change keeps, each rule keeps.
use Rattle.hn_base.proofs.Names.{◌≡◌, ◌<◌, ◌+◌, ◌%◌, ◌^◌, ℕ, Bool, true, false, cond, List, [], ◌∷◌, map, Option, Some, None, inl, inr, refl, sym, subst, arith, All, find, nat_eq, ◌==◌, option_eq}
use Rattle.hn_base.proofs.Names.{bytes_eq, cond_both, eqb-false, eq-eqb, All-nil, PlainPrefix, Then, Each}
use Rattle.hn_rules.proofs.Names.{Contains, is_some, Caps, NodeId, EpId, PlainTlv, PlainItem, Port, Greet, Known, Added, Full, Unknown, may_ask, asked, greeting, hashed, asks_for_state, Took}
use Rattle.hn_rules.proofs.Names.{PlainState, is_port, port_at, put_port, endpoints_of, OwnAddress, may_address, IsRangedAddress, Running, Origin, Subject, with_answer, Rule, AtPort, noted, with_port}
use Rattle.hn_rules.proofs.Names.{Publishes, next_number, IsPublishing, IsReaching, IsPortReset, IsHashing, IsRefresh, greeting_port, with_some_answer, state_item, with_state, is_reached}
use Rattle.hn_rules.proofs.Names.{request_node, IsNetworkRequest, network_state, IsFirstClaim, IsSecondClaim, IsClaim, took_noted, IsTaken, IsNodeState, IsItemRule, IsTlvRule, IsTlvs, IsAnswering}
use Rattle.hn_rules.proofs.Names.{IsArrival, IsPrivateLength, withdrawing, ending, IsAssigning, IsPortExpiry, IsExpiry, forgetting, IsPortMoving, IsPortSending, IsPortTick, IsPortsTick, setting_caps}
use Rattle.hn_rules.proofs.Names.{setting_private, IsPortRestart, emptied, IsRestarting, IsSaid, Reset, Meet, Ask, Hear, Expire, Move, Begin, Accept, Mark, Forget, Empty, Delegate, Withdraw, End}
use Rattle.hn_rules.proofs.Names.{IsAnswerAbout, Change, ChangePort, ChangeTable, ChangePrefixes, PutReach, PutHash, PutPairs, ForgetPairs, PutPrivate, PutAddresses, PutId, PutClaimed, PutCaps}
use Rattle.hn_rules.proofs.Names.{Publish, AddAnswer, AddSends, ForgetAnswers, TakeNote, TakeWords, change, Leads, EachKeeps}
use Rattle.hn_typed.specs.Item as item
use Rattle.hn_store.specs.declared.state.Took.TheVariants as took
use Rattle.hn_own.specs.OwnPrefixes.{may_delegate}
use Rattle.hn_rules.specs.declared.done.Note.TheVariants as note
use Rattle.hn_rules.specs.declared.answers.Subject.TheVariants as subject
use Rattle.hn_rules.specs.NodeEndpoint as rule
use Rattle.hn_rules.specs.Given.{IsRangedDelegation}
use Rattle.hn_rules.specs.Delegating.{delegating}
use Rattle.hn_rules.specs.Events.{setting_addresses}
use Rattle.hn_rules.specs.Changes.{IsSender, IsPublishable}
use Rattle.hn_rules.specs.Changes.{NameSender}
use Rattle.hn_rules.proofs.AtPorts.{found_id}
use Rattle.hn_rules.proofs.Leads.{Keeps, keeps_plain, keeps_both, keeps_each, keeps_each_of, keeps_option, leads_keep}

-- ---- endpoints that are found

-- an endpoint that was found is found by its own number
found_own : (at : EpId) (port : Port) (ports : List Port) → port_at at ports ≡ Some port → port_at port.id ports ≡ Some port
found_own at port ports found = subst (λ (id : EpId). port_at id ports ≡ Some port) (sym (found_id at port ports (sym found))) found

-- and so is one that was put in its place
pub found_put : (old next : Port) (ports : List Port) → port_at next.id ports ≡ Some old → port_at next.id (put_port next ports) ≡ Some next
found_put old next [] found = absurd cc
found_put old next (p ∷ ports) found = by_test (is_port next.id p) refl found (found_put old next ports)
  where
    by_test : (b : Bool) → is_port next.id p ≡ b → cond b (Some p) (find (is_port next.id) ports) ≡ Some old → (port_at next.id ports ≡ Some old → port_at next.id (put_port next ports) ≡ Some next)
        → cond (is_port next.id (cond b next p)) (Some (cond b next p)) (find (is_port next.id) (put_port next ports)) ≡ Some next
    by_test true is found more = rw (eq-eqb next.id.0 next.id.0 refl) refl
    by_test false is found more = rw is (more found)

-- ---- requests: answers are all that comes of them

module _ (P : Running → Type 0) (answer : (about : Subject) (i : PlainItem) (r : Running) → IsAnswerAbout about r.state i → P r → P (with_answer about i r)) where
  some_answer : (about : Subject) (o : Option PlainItem) (r : Running) → ((i : PlainItem) → o ≡ Some i → IsAnswerAbout about r.state i) → P r → P (with_some_answer about o r)
  some_answer about None r is p = p
  some_answer about (Some i) r is p = answer about i r (is i refl) p

  pub network_request : Keeps P IsNetworkRequest
  network_request r a h p =
      keeps_each P (λ id b a. a ≡ with_state id b)
      (λ id. keeps_plain P (with_state id) (λ b p. some_answer (subject.NodeState id) (state_item false b.state id) b (λ i is. is) p)) r.state.reach
      (with_answer subject.NetworkState (item.NetworkState r.state.net []) r) a h (answer subject.NetworkState (item.NetworkState r.state.net []) r refl p)

  pub node_request : (id : NodeId) → Keeps P (λ r a. a ≡ request_node id r)
  node_request id = keeps_plain P (request_node id) (λ r p.
      cond_both (is_reached id r.state.reach) (with_some_answer (subject.NodeData id) (state_item true r.state id) r) r P
      (λ _. some_answer (subject.NodeData id) (state_item true r.state id) r (λ i is. is) p) (λ _. p))

-- ---- all rules

module _ (tlvs : List PlainTlv) (P : Running → Type 0) (each : EachKeeps tlvs P) where
  -- changes one after another
  by : (cs : List Change) (r a : Running) → Leads tlvs cs r a → P r → P a
  by = leads_keep tlvs P each

  abbrev pub AtEach : (Port → Rule) → Type 0
  AtEach rule = (port : Port) (r a : Running) → port_at port.id r.state.ports ≡ Some port → rule port r a → P r → P a

  -- the rule of an endpoint
  at_port : (rule : Port → Rule) → AtEach rule → (at : EpId) → Keeps P (AtPort at rule)
  at_port rule one at = keeps_option P at rule (λ port r a found. one port r a (found_own at port r.state.ports found))

  -- and of each
  pub at_ports : (rule : Port → Rule) → AtEach rule → (ats : List EpId) → Keeps P (Each (λ at. AtPort at rule) ats)
  at_ports rule one = keeps_each P (λ at. AtPort at rule) (at_port rule one)

  -- ---- a refresh

  publishes : (number : ℕ) → number < 2 ^ 32 → Keeps P (Publishes number)
  publishes number fits r a is =
      by (Publish number is.own ∷ []) r a (record { fits = fits; data_is = is.data_is; items_are = is.items_are; born_is = is.born_is }, is.gives)

  pub publishing : Keeps P IsPublishing
  publishing r a (inl (same, is)) = by [] r a is
  publishing r a (inr (other, is)) = publishes (next_number r.state.number) (omega arith) r a is

  reaching : Keeps P IsReaching
  reaching r a is = by (PutReach is.reach ∷ ChangeTable Mark ∷ []) r a (is.is_reach, (tt, is.gives))

  resetting : AtEach IsPortReset
  resetting port r a here (inl (shortest, is)) = by [] r a is
  resetting port r a here (inr (longer, (word, is))) = by (ChangePort port (Reset word) ∷ TakeWords (word ∷ []) ∷ []) r a ((here, tt), (tt, is))

  hashing : Keeps P IsHashing
  hashing r a (inl (same, is)) p = by [] r a is p
  hashing r a (inr (other, is)) p = at_ports IsPortReset resetting (endpoints_of r.state.ports) (change PutHash r) a is (each PutHash r tt p)

  pub refresh_walk : Keeps P IsRefresh
  refresh_walk = keeps_both P IsPublishing (Then IsReaching IsHashing) publishing (keeps_both P IsReaching IsHashing reaching hashing)

  -- ---- a claim, a Node State

  first_claim : (number : ℕ) → Keeps P (IsFirstClaim number)
  first_claim number r a is p = publishes ((number + 1000) % 2 ^ 32) (omega arith) (change (PutClaimed true) r) a is.publishes (each (PutClaimed true) r tt p)

  second_claim : Keeps P IsSecondClaim
  second_claim r a is =
      let id : NodeId = record { 0 = is.id } in
      let own = is.publishes in
      let fits : is.id < 2 ^ 32 = let first = is.first.is_it in omega arith in
      let claimed : Running = change (PutClaimed false) (change (TakeWords (is.word ∷ [])) r) in
      let may : IsPublishable claimed.state 1 own.own = record { fits = omega arith; data_is = own.data_is; items_are = own.items_are; born_is = own.born_is } in
      by (TakeWords (is.word ∷ []) ∷ PutClaimed false ∷ PutId id 1 own.own ∷ []) r a (tt, (tt, ((fits, is.first.free, may), own.gives)))

  claim : (number : ℕ) → Keeps P (IsClaim number)
  claim number r a (inl first) = first_claim number r a first
  claim number r a (inr second) = second_claim r a second

  took_note : (carried : PlainState) (how : Took) → Keeps P (λ r a. a ≡ took_noted carried how r)
  took_note carried how r a is = by (TakeNote (note.Took (record { 0 = carried.node }) how) ∷ []) r a (tt, is)

  taken : (carried : PlainState) (how : Took) → carried.node < 2 ^ 32 → Keeps P (IsTaken carried how)
  taken carried took.Own fits r a is p = claim carried.number (noted (note.Own carried.number) r) a is (each (TakeNote (note.Own carried.number)) r tt p)
  taken carried took.Ask fits r a is p =
      let node : NodeId = record { 0 = carried.node } in
      by (TakeNote (note.Took node took.Ask) ∷ AddAnswer (subject.NodeRequest node) (item.RequestNode carried.node []) ∷ []) r a (tt, ((refl, fits), is)) p
  taken carried took.Kept fits r a is p = took_note carried took.Kept r a is p
  taken carried took.Renumbered fits r a is p = took_note carried took.Renumbered r a is p
  taken carried took.Stale fits r a is p = took_note carried took.Stale r a is p
  taken carried took.BadHash fits r a is p = took_note carried took.BadHash r a is p
  taken carried took.BadBody fits r a is p = took_note carried took.BadBody r a is p
  taken carried took.TooLong fits r a is p = took_note carried took.TooLong r a is p
  taken carried took.Full fits r a is p = took_note carried took.Full r a is p

  node_state : (carried : PlainState) → IsSaid tlvs (item.NodeState carried.node carried.number carried.age carried.hash carried.body) → Keeps P (IsNodeState carried)
  node_state carried said r a is p =
      let accept : Change = ChangeTable (Accept carried is.how is.table) in
      taken carried is.how said.2.in_range.0 (change accept r) a is.taken (each accept r (said, is.accepts) p)

  -- ---- a Node Endpoint, a Network State

  asking : (port : Port) (r : Running) → port_at port.id r.state.ports ≡ Some port → P r → P (rule.asking port r)
  asking port r here p =
      let asks : Running = with_answer subject.NetworkRequest (item.RequestNetwork []) (with_port (asked r.state.moment port) r) in
      cond_both (may_ask r.state.moment port.asked) asks r P
      (λ _. by (ChangePort port Ask ∷ AddAnswer subject.NetworkRequest (item.RequestNetwork []) ∷ []) r asks ((here, tt), (refl, refl)) p) (λ _. p)

  met : (greet : Greet) (port : Port) (r : Running) → port_at port.id r.state.ports ≡ Some port → P r → P (rule.met greet port r)
  met Full port r here p = each (TakeNote note.PeersFull) r tt p
  met Unknown port r here p = asking port r here p
  met Known port r here p = p
  met Added port r here p = p

  named : (from : Origin) (node : NodeId) (endpoint : EpId) (port : Port) (r : Running) → port_at port.id r.state.ports ≡ Some port
      → IsSender tlvs r.state node endpoint → P r → P (rule.named from node endpoint port r)
  named from node endpoint port r here sender p =
      let start : Running = record r { sender = Some (node, endpoint) } in
      let after = greeting_port from node endpoint r.state.moment port in
      met (greeting node endpoint from.multicast port.peers) after (with_port after start) (found_put port after r.state.ports here)
      (by (NameSender node endpoint ∷ ChangePort port (Meet node endpoint from.from from.multicast) ∷ []) r (with_port after start) (sender, ((here, sender), refl)) p)

  node_endpoint : (from : Origin) (node : NodeId) (endpoint : EpId) (subs : List ℕ) → IsSaid tlvs (item.NodeEndpoint node.0 endpoint.0 subs)
      → AtEach (λ port r a. a ≡ rule.node_endpoint from node endpoint port r)
  node_endpoint from node endpoint subs said port r a here is p =
      subst P (sym is) (by_tests (endpoint.0 == 0) (node.0 == r.state.id.0) (is_some r.sender) refl refl)
    where
      by_tests : (a b c : Bool) → (endpoint.0 == 0) ≡ a → (node.0 == r.state.id.0) ≡ b
          → P (cond a (noted (note.Ignored 3 7) r) (cond b (noted (note.Ignored 3 6) r) (cond c (noted (note.Ignored 3 5) r) (rule.named from node endpoint port r))))
      by_tests true b c some other = each (TakeNote (note.Ignored 3 7)) r tt p
      by_tests false true c some other = each (TakeNote (note.Ignored 3 6)) r tt p
      by_tests false false true some other = each (TakeNote (note.Ignored 3 5)) r tt p
      by_tests false false false some other =
          named from node endpoint port r here (record { subs = subs; said = said; other = eqb-false node.0 r.state.id.0 other; some = eqb-false endpoint.0 0 some }) p

  hearing : (hash subs : List ℕ) → IsSaid tlvs (item.NetworkState hash subs) → AtEach (λ port r a. a ≡ network_state hash port r)
  hearing hash subs said port r a here is p =
      let same = bytes_eq hash r.state.net in
      let after : Running = with_port (hashed same r.sender r.state.moment port) r in
      let heard : P after = each (ChangePort port (Hear hash)) r (here, (subs, said)) p in
      subst P (sym is)
      (cond_both (asks_for_state same r.state.moment port) (with_answer subject.NetworkRequest (item.RequestNetwork []) after) after P
      (λ _. each (AddAnswer subject.NetworkRequest (item.RequestNetwork [])) after refl heard) (λ _. heard))

  -- ---- the TLVs of a datagram

  answer : (about : Subject) (i : PlainItem) (r : Running) → IsAnswerAbout about r.state i → P r → P (with_answer about i r)
  answer about i = each (AddAnswer about i)

  item_rule : (from : Origin) (i : PlainItem) → IsSaid tlvs i → Keeps P (IsItemRule from i)
  item_rule from (item.NodeEndpoint node endpoint subs) said =
      let n : NodeId = record { 0 = node } in
      let e : EpId = record { 0 = endpoint } in
      at_port (λ port r a. a ≡ rule.node_endpoint from n e port r) (node_endpoint from n e subs said) from.endpoint
  item_rule from (item.RequestNetwork subs) said = network_request P answer
  item_rule from (item.RequestNode node subs) said = node_request P answer (record { 0 = node })
  item_rule from (item.NetworkState hash subs) said = at_port (λ port r a. a ≡ network_state hash port r) (hearing hash subs said) from.endpoint
  item_rule from (item.NodeState node number age hash body) said =
      node_state (record { node = node; number = number; age = age; hash = hash; body = body }) said
  item_rule from _ said = keeps_plain P (λ r. r) (λ r p. p)

  pub tlv_walk : (from : Origin) (tlv : PlainTlv) → Contains tlvs tlv → Keeps P (IsTlvRule from tlv)
  tlv_walk from tlv there r a (inl (i, decodes, holds)) = item_rule from i (tlv, there, decodes) r a holds
  tlv_walk from tlv there r a (inr (why, fault, is)) = by (TakeNote (note.Ignored tlv.kind why) ∷ []) r a (tt, is)

  answering : (from : Origin) → Keeps P (IsAnswering from)
  answering from r a is =
      by (AddSends (map (λ bytes. record { endpoint = from.endpoint; to = Some from.from; bytes = bytes }) is.datagrams) ∷ ForgetAnswers ∷ []) r a
      (record { endpoint = from.endpoint; to = Some from.from; tlvs = map (λ a. a.tlv) r.answers; datagrams = is.datagrams; tlvs_are = inl refl; packed = is.packed; sends_are = refl }, (tt, is.gives))

  arriving : (from : Origin) → Keeps P (IsTlvs from tlvs)
  arriving from =
      keeps_each_of P (λ tlv. Then (IsTlvRule from tlv) IsRefresh) tlvs (λ tlv there. keeps_both P (IsTlvRule from tlv) IsRefresh (tlv_walk from tlv there) refresh_walk)

  pub arrival_walk : (from : Origin) → Keeps P (IsArrival from tlvs)
  arrival_walk from = keeps_both P (IsTlvs from tlvs) (IsAnswering from) (arriving from) (answering from)

  -- ---- a tick

  pub expiry_walk : Keeps P IsExpiry
  expiry_walk r a =
      at_ports IsPortExpiry (λ port r a here is. by (ChangePort port (Expire is.peers) ∷ []) r a ((here, is.without), is.gives)) (endpoints_of r.state.ports) r a

  pub ending_walk : Keeps P (λ r a. a ≡ ending r)
  ending_walk r a is = by (ChangePrefixes End ∷ []) r a (tt, is)

  pub forgetting_walk : Keeps P (λ r a. a ≡ forgetting r)
  forgetting_walk r a is = by (ChangeTable Forget ∷ []) r a (tt, is)

  pub assigning_walk : Keeps P IsAssigning
  assigning_walk r a is = by (PutPairs is.ran ∷ TakeWords is.ran.words ∷ []) r a (is.is_assigned, (tt, is.gives))

  moving : AtEach IsPortMoving
  moving port r a here is = by (ChangePort port (Move is.words) ∷ TakeWords is.words ∷ []) r a ((here, is.as_many), (tt, is.gives))

  sending : (port : Port) → Keeps P (IsPortSending port)
  sending port r a (inl (due, is)) =
      by (AddSends (map (λ bytes. record { endpoint = port.id; to = None; bytes = bytes }) is.datagrams) ∷ []) r a
      (record { endpoint = port.id; to = None; tlvs = _; datagrams = is.datagrams; tlvs_are = inr refl; packed = is.packed; sends_are = refl }, is.gives)
  sending port r a (inr (none, is)) = by [] r a is

  pub ports_walk : Keeps P IsPortsTick
  ports_walk r a = at_ports IsPortTick (λ port r a here h p. sending port h.0 a h.2 (moving port r h.0 here h.1 p)) (endpoints_of r.state.ports) r a

  -- ---- events beside arrivals and ticks

  pub delegating_walk : (prefix : PlainPrefix) (valid preferred : ℕ) (r : Running) → IsRangedDelegation prefix valid preferred
      → may_delegate prefix r.state.delegated ≡ true → P r → P (delegating prefix valid preferred r)
  delegating_walk prefix valid preferred r fits may = each (ChangePrefixes (Delegate prefix valid preferred)) r (fits, may)

  pub withdrawing_walk : (prefix : PlainPrefix) → Keeps P (λ r a. a ≡ withdrawing prefix r)
  withdrawing_walk prefix r a is = by (ChangePrefixes (Withdraw prefix) ∷ []) r a (tt, is)

  pub caps_walk : (caps : Caps) → Keeps P (λ r a. a ≡ setting_caps caps r)
  caps_walk caps r a is = by (PutCaps caps ∷ []) r a (tt, is)

  pub private_walk : (private : Option ℕ) → IsPrivateLength private → Keeps P (λ r a. a ≡ setting_private private r)
  private_walk private fits r a is p = subst P (sym is) (by_test (option_eq nat_eq private r.state.private))
    where
      by_test : (same : Bool) → P (cond same r (change (PutPrivate private) r))
      by_test true = p
      by_test false = each (PutPrivate private) r fits p

  pub addressing_walk : (list : List OwnAddress) (r : Running) → All IsRangedAddress list → may_address list r.state.ports ≡ true → P r → P (setting_addresses list r)
  addressing_walk list r fit may = each (PutAddresses list) r (fit, may)

  pub emptied_walk : (r : Running) → P r → P (emptied r)
  emptied_walk r = by (ChangeTable Empty ∷ ForgetPairs ∷ PutClaimed false ∷ PutAddresses [] ∷ []) r (emptied r) (tt, (tt, (tt, ((All-nil IsRangedAddress, refl), refl))))

  pub beginning : AtEach IsPortRestart
  beginning port r a here is = by (ChangePort port (Begin is.word) ∷ TakeWords (is.word ∷ []) ∷ []) r a ((here, tt), (tt, is.gives))

  pub restarting_walk : Keeps P IsRestarting
  restarting_walk r a h p =
      keeps_both P (Each (λ at. AtPort at IsPortRestart) (endpoints_of r.state.ports)) (Publishes 1)
      (at_ports IsPortRestart beginning (endpoints_of r.state.ports)) (publishes 1 (omega arith)) (emptied r) a h (emptied_walk r p)
