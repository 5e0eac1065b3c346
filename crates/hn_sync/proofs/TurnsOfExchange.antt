-- The turns of an exchange: the question, requests at the router that is asked, and states at the one that asks.
use Rattle.hn_base.proofs.Names.{◌≡◌, ◌∙◌, ◌<◌, ◌^◌, ℕ, true, false, List, [], ◌∷◌, map, Contains, sym, ap, subst, refl, inl, inr, IsStrictlySortedBy, All-nil, All-contains, node_cmp, Each}
use Rattle.hn_sync.proofs.Names.{All, nothing_in, Contains-one, all_of, EpId, NodeId, Entry, Port, IsPacking, sender_tlv, ArePorts, NetworkRequest, NetworkState, NodeRequest, NodeState, NodeData}
use Rattle.hn_sync.proofs.Names.{Done, Origin, Running, State, IsTlvRule, RefreshRests, IsPublished, IsRefresh, IsNetworkRequest, state_item, with_state, IsRouter, IsSole, begun_at, IsTable, IsHash}
use Rattle.hn_rules.specs.Laws.{ItemsArePublished}
use Rattle.hn_typed.specs.Item as item
use Rattle.hn_sync.proofs.Answered.{AnswersAre}
use Rattle.hn_sync.proofs.Arrivals.{sends_of, HasArrived}
use Rattle.hn_sync.proofs.Asking.{replies}
use Rattle.hn_sync.proofs.NodeStatesSaid.{IsFit, Knows, Says, Asks, EntryLaws, can_say, can_ask}
use Rattle.hn_sync.proofs.Greetings.{IsHeard, endpoint_heard, ports_from_signs}
use Rattle.hn_sync.proofs.AskerLearns.{Learns, learns_heard, learns_refreshed}
use Rattle.hn_sync.proofs.NothingToRefresh.{IsQuiet, quiet_after, quiet_rests, IsRefreshing, refresh_leaves}
use Rattle.hn_sync.proofs.Replies.{Below, Ascends, network_requested}
use Rattle.hn_sync.proofs.Sayings.{ReadLaws, rule_of, can_say_endpoint, can_say_request, Saying, tlv_said, CanAllBeSaid, AreSaid, packed_said}
use Rattle.hn_sync.proofs.PeersSaid.{signs, Ascend, ascend_from_signs, knows_at, knows_from_signs}
use Rattle.hn_sync.proofs.AskedStays.{IsAskedAsBefore, still_self, still_quiet, some_state}
use Rattle.hn_sync.proofs.StatesInTurn.{TableLaws, walk}

pub record TurnLaws : Type 0 where
  pub read : ReadLaws
  pub entries : EntryLaws
  pub tables : TableLaws
  pub rests : RefreshRests
  pub sole : IsSole IsRefresh
  pub items : ItemsArePublished

-- ---- a router is fit

fit_of : TurnLaws → (s : State) → IsRouter s → IsFit s
fit_of laws s router =
    let items = laws.items s router in
    record {
      table = router.well.table;
      own = router.well.own;
      numbered = router.well.numbered;
      listed = (items.1.tlvs, items.1.list);
      hash = subst IsHash (sym router.refreshed.hashed) (laws.entries.eight _);
    }

fit_with : (s : State) (ports : List Port) (due : ℕ) → IsFit (record s { ports = ports; due = due }) → IsFit s
fit_with s ports due h = record {
  table = h.table;
  own = h.own;
  numbered = record { own = h.numbered.own; held = h.numbered.held; own_id = h.numbered.own_id; held_ids = h.numbered.held_ids };
  listed = h.listed;
  hash = h.hash;
}

still_fit : TurnLaws → (start s : State) → IsAskedAsBefore start s → IsRouter s → IsFit start
still_fit laws start s still router = fit_with start s.ports still.due (subst IsFit still.gives (fit_of laws s router))

-- ---- the sender is heard

sender_heard : TurnLaws → (from : Origin) (node : NodeId) (endpoint : EpId) (r b : Running) → node.0 < 2 ^ 32 → endpoint.0 < 2 ^ 32
    → from.multicast ≡ false → Ascend r.state.ports → knows_at from.endpoint node endpoint r.state.ports ≡ true
    → IsTlvRule from (sender_tlv node endpoint) r b → IsHeard r b
sender_heard laws from node endpoint r b fits too unicast up knows rule =
    endpoint_heard from node endpoint r b unicast up knows (rule_of laws.read from (item.NodeEndpoint node.0 endpoint.0 []) r b (can_say_endpoint node.0 endpoint.0 fits too) rule)

states_same : (ids : List NodeId) (r a : Running) → Each (λ id b a. a ≡ with_state id b) ids r a → a.state ≡ r.state
states_same [] r a h = ap (λ (x : Running). x.state) h
states_same (id ∷ ids) r a h = states_same ids h.0 a h.2 ∙ (ap (λ (x : Running). x.state) h.1 ∙ some_state (NodeState id) (state_item false r.state id) r)

can_all_say : TurnLaws → (start : State) → IsFit start → (said : List Saying) → All (Says start) said → CanAllBeSaid said
can_all_say laws start fit said all =
    all_of _ said (λ s there. can_say laws.entries start fit.hash s.about s.item (All-contains (Says start) said s all there))

can_all_ask : (said : List Saying) → All Asks said → CanAllBeSaid said
can_all_ask said all = all_of _ said (λ s there. can_ask s.about s.item (All-contains Asks said s all there))

-- ---- the question

abbrev pub question : Saying
question = record { about = NetworkRequest; item = item.RequestNetwork [] }

pub record IsQuestioned (now : ℕ) (from : Origin) (s next : State) (done : Done) : Type 0 where
  pub start : State
  pub quiet : IsQuiet start
  pub fit : IsFit start
  pub still : IsAskedAsBefore start next
  pub named : start.id ≡ s.id
  pub moment : start.moment ≡ now
  pub signed : signs start.ports ≡ signs s.ports
  pub said : List Saying
  pub all : All (Says start) said
  pub ascends : Ascends said
  pub each : (id : NodeId) (n : Entry) → Contains start.reach id → Knows start id n → (x : Saying) × Contains said x × (x.about ≡ NodeState id)
  pub datagrams : List (List ℕ)
  pub are_said : AreSaid start.id from.endpoint said datagrams
  pub sends : done.sends ≡ sends_of from datagrams

pub question_arrives : TurnLaws → (now : ℕ) (from : Origin) (node : NodeId) (endpoint : EpId) (s next : State) (done : Done) → node.0 < 2 ^ 32
    → endpoint.0 < 2 ^ 32 → from.multicast ≡ false → ArePorts s.ports
    → knows_at from.endpoint node endpoint s.ports ≡ true → HasArrived now from (sender_tlv node endpoint ∷ map tlv_said (question ∷ [])) s next done
    → IsRouter next → IsQuestioned now from s next done
question_arrives laws now from node endpoint s next done fits too unicast ports knows h router =
    let r1 : Running = h.walked.0 in
    let b1 : Running = h.walked.1.0 in
    let b2 : Running = h.walked.2.1.0 in
    let heard : IsHeard (begun_at now s) b1 = sender_heard laws from node endpoint (begun_at now s) b1 fits too unicast ports.ascending knows h.walked.1.1 in
    let same_b1 : signs b1.state.ports ≡ signs s.ports = ap (λ (x : Running). signs x.state.ports) heard.gives ∙ heard.signed in
    let ports_b1 : ArePorts b1.state.ports = ports_from_signs b1.state.ports s.ports same_b1 ports in
    let leaves : IsRefreshing b1 r1 = refresh_leaves b1 r1 ports_b1.ascending h.walked.1.2 in
    let quiet : IsQuiet r1.state = quiet_after laws.rests b1 r1 ports_b1 h.walked.1.2 in
    let asks : IsNetworkRequest r1 b2 = rule_of laws.read from (item.RequestNetwork []) r1 b2 can_say_request h.walked.2.1.1 in
    let same_b2 : b2.state ≡ r1.state = states_same r1.state.reach _ b2 asks in
    let rest : h.walked.2.0 ≡ b2 = quiet_rests laws.sole b2 h.walked.2.0 (subst IsQuiet (sym same_b2) quiet) h.walked.2.1.2 in
    let last : h.last ≡ b2 = h.walked.2.2 ∙ rest in
    let last_state : (h.last).state ≡ r1.state = ap (λ (x : Running). x.state) last ∙ same_b2 in
    let next_is : next ≡ record r1.state { due = h.due } = h.is_next ∙ ap (λ (x : State). let y : State = record x { due = h.due } in y) last_state in
    let same_ports : next.ports ≡ r1.state.ports = ap (λ (x : State). x.ports) next_is in
    let still : IsAskedAsBefore r1.state next = record { due = h.due; gives = next_is ∙ (λ i. record r1.state { ports = sym same_ports i; due = h.due }); signed = ap signs same_ports } in
    let fit : IsFit r1.state = still_fit laws r1.state next still router in
    let none : AnswersAre r1 [] = ap (λ (x : Running). x.answers) leaves.gives ∙ ap (λ (x : Running). x.answers) heard.gives in
    let got = network_requested laws.entries.of_entry r1.state fit [] r1 b2 (still_self r1.state) none (All-nil (Says r1.state)) asks in
    let first_is : got.0 ≡ record { about = NetworkState; item = item.NetworkState r1.state.net [] } ∷ [] = got.2 refl in
    record {
      start = r1.state;
      quiet = quiet;
      fit = fit;
      still = still;
      named = ap (λ (x : Running). x.state.id) leaves.gives ∙ ap (λ (x : Running). x.state.id) heard.gives;
      moment = ap (λ (x : Running). x.state.moment) leaves.gives ∙ ap (λ (x : Running). x.state.moment) heard.gives;
      signed = leaves.signed ∙ same_b1;
      said = got.3.next;
      all = got.3.all;
      ascends = got.3.ascends (subst Ascends (sym first_is) (λ t there. absurd (nothing_in t there), tt)) (subst (IsStrictlySortedBy node_cmp) (sym quiet.same_reach) quiet.is_reach.ascending)
          (λ x id old there. subst (λ (y : Saying). Below y.about (NodeState id)) (Contains-one _ x (subst (λ (xs : List Saying). Contains xs x) first_is old)) tt);
      each = λ id n there known. let x = got.3.each id n there known in (x.0, x.1, x.2);
      datagrams = h.datagrams;
      are_said = packed_said laws.read r1.state.id from.endpoint (h.last).answers got.3.next h.datagrams
          (ap (λ (x : Running). x.answers) last ∙ got.3.are) (can_all_say laws r1.state fit got.3.next got.3.all)
          (subst (λ (x : NodeId). IsPacking x from.endpoint (map (λ a. a.tlv) (h.last).answers) h.datagrams) (ap (λ (x : State). x.id) last_state) h.packed);
      sends = h.sends;
    }

-- ---- requests

pub record IsReplied (start : State) (from : Origin) (asked : List Saying) (next : State) (done : Done) : Type 0 where
  pub still : IsAskedAsBefore start next
  pub said : List Saying
  pub all : All (Says start) said
  pub answered : (s : Saying) (id : NodeId) (n : Entry) → Contains asked s → s.about ≡ NodeRequest id → Contains start.reach id → Knows start id n
      → (x : Saying) × Contains said x × (x.about ≡ NodeData id)
  pub datagrams : List (List ℕ)
  pub are_said : AreSaid start.id from.endpoint said datagrams
  pub sends : done.sends ≡ sends_of from datagrams

still_later : (start s : State) (now : ℕ) → start.moment ≡ now → IsAskedAsBefore start s → IsAskedAsBefore start (record s { moment = now })
still_later start s now moment h = record {
  due = h.due;
  gives = ap (λ (x : State). let y : State = record x { moment = now } in y) h.gives ∙ (λ i. record start { ports = s.ports; due = h.due; moment = sym moment i });
  signed = h.signed;
}

still_heard : (start : State) (r b : Running) → IsHeard r b → IsAskedAsBefore start r.state → IsAskedAsBefore start b.state
still_heard start r b heard h = subst (λ (x : Running). IsAskedAsBefore start x.state) (sym heard.gives) (record {
  due = h.due;
  gives = ap (λ (x : State). let y : State = record x { ports = heard.ports } in y) h.gives;
  signed = heard.signed ∙ h.signed;
})

pub requests_arrive : TurnLaws → (start : State) → IsFit start → IsQuiet start
    → (now : ℕ) (from : Origin) (node : NodeId) (endpoint : EpId) (asked : List Saying) (s next : State) (done : Done) → start.moment ≡ now
    → node.0 < 2 ^ 32 → endpoint.0 < 2 ^ 32 → from.multicast ≡ false → Ascend s.ports → knows_at from.endpoint node endpoint s.ports ≡ true → All Asks asked → IsAskedAsBefore start s
    → HasArrived now from (sender_tlv node endpoint ∷ map tlv_said asked) s next done → IsReplied start from asked next done
requests_arrive laws start fit quiet now from node endpoint asked s next done moment fits too unicast up knows asks still h =
    let r1 : Running = h.walked.0 in
    let b1 : Running = h.walked.1.0 in
    let heard : IsHeard (begun_at now s) b1 = sender_heard laws from node endpoint (begun_at now s) b1 fits too unicast up knows h.walked.1.1 in
    let still_b1 : IsAskedAsBefore start b1.state = still_heard start (begun_at now s) b1 heard (still_later start s now moment still) in
    let same : r1 ≡ b1 = quiet_rests laws.sole b1 r1 (still_quiet start b1.state still_b1 quiet) h.walked.1.2 in
    let none : AnswersAre r1 [] = ap (λ (x : Running). x.answers) same ∙ ap (λ (x : Running). x.answers) heard.gives in
    let got = replies laws.read laws.sole laws.entries.of_entry start fit quiet from asked asks [] r1 h.last
    (subst (λ (x : Running). IsAskedAsBefore start x.state) (sym same) still_b1) none (All-nil (Says start)) h.walked.2 in
    let same_id : (h.last).state.id ≡ start.id = ap (λ (x : State). x.id) got.still.gives in
    record {
      still = subst (IsAskedAsBefore start) (sym h.is_next) (record {
        due = h.due;
        gives = ap (λ (x : State). let y : State = record x { due = h.due } in y) got.still.gives;
        signed = got.still.signed;
      });
      said = got.next;
      all = got.all;
      answered = got.answered;
      datagrams = h.datagrams;
      are_said = packed_said laws.read start.id from.endpoint (h.last).answers got.next h.datagrams got.are (can_all_say laws start fit got.next got.all)
          (subst (λ (x : NodeId). IsPacking x from.endpoint (map (λ a. a.tlv) (h.last).answers) h.datagrams) same_id h.packed);
      sends = h.sends;
    }

-- ---- states

module _ (laws : TurnLaws) (start before : State) (ports : List Port) (Elsewhere : Entry → Type 0) (Later : Type 0) (fit : IsFit start) (before_table : IsTable before.table) (up : Ascend ports) where
  abbrev pub Learnt : Running → List Saying → Type 0
  Learnt r rest = Learns laws.tables.of_entry laws.tables.marks start before ports Elsewhere Later r rest

  pub record IsTaught (from : Origin) (next : State) (done : Done) : Type 0 where
    pub last : Running
    pub learnt : Learnt last []
    pub published : IsPublished last.state
    pub due : ℕ
    pub is_next : next ≡ record last.state { due = due }
    pub datagrams : List (List ℕ)
    pub are_said : AreSaid before.id from.endpoint learnt.said datagrams
    pub sends : done.sends ≡ sends_of from datagrams

  pub states_arrive : (now : ℕ) (from : Origin) (node : NodeId) (endpoint : EpId) (group : List Saying) (s next : State) (done : Done) → node.0 < 2 ^ 32 → endpoint.0 < 2 ^ 32 → from.multicast ≡ false
      → knows_at from.endpoint node endpoint ports ≡ true → All (Says start) group → Learnt (begun_at now s) group → next.id ≡ before.id
      → HasArrived now from (sender_tlv node endpoint ∷ map tlv_said group) s next done → IsTaught from next done
  states_arrive now from node endpoint group s next done fits too unicast knows says learnt named h =
      let r1 : Running = h.walked.0 in
      let b1 : Running = h.walked.1.0 in
      let up_s : Ascend s.ports = ascend_from_signs s.ports ports learnt.signed up in
      let knows_s : knows_at from.endpoint node endpoint s.ports ≡ true = knows_from_signs from.endpoint node endpoint s.ports ports learnt.signed ∙ knows in
      let heard : IsHeard (begun_at now s) b1 = sender_heard laws from node endpoint (begun_at now s) b1 fits too unicast up_s knows_s h.walked.1.1 in
      let first : Learnt b1 group = learns_heard laws.tables.of_entry laws.tables.marks start before ports Elsewhere Later (begun_at now s) b1 group heard learnt in
      let then = learns_refreshed laws.tables.of_entry laws.tables.marks start before ports Elsewhere Later b1 r1 group up first h.walked.1.2 in
      elim (walk laws.tables start before ports Elsewhere Later fit before_table up laws.read laws.entries fit.hash from group says r1 h.last then.1 then.0 h.walked.2) [
        | inl k ↦ taught k.0 k.1
        | inr renamed ↦ absurd (renamed.other (ap (λ (x : NodeId). x.0) (sym (ap (λ (x : State). x.id) h.is_next) ∙ named)))
      ]
    where
      taught : Learnt h.last [] → IsPublished (h.last).state → IsTaught from next done
      taught k published = record {
        last = h.last;
        learnt = k;
        published = published;
        due = h.due;
        is_next = h.is_next;
        datagrams = h.datagrams;
        are_said = packed_said laws.read before.id from.endpoint (h.last).answers k.said h.datagrams k.are (can_all_ask k.said k.all)
            (subst (λ (x : NodeId). IsPacking x from.endpoint (map (λ a. a.tlv) (h.last).answers) h.datagrams) k.named h.packed);
        sends = h.sends;
      }
