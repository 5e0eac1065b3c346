-- The router that is asked is still: after the first TLV of the question, what it knows, reaches and says stays.
use Rattle.hn_base.proofs.Names.{◌≡◌, ◌∙◌, ◌⊎◌, ℕ, Bool, true, false, cond, List, Contains, Option, Some, None, sym, ap, subst, refl, inl, inr, eq-eqb, eqb-true}
use Rattle.hn_sync.proofs.Names.{◌==◌, All, any_of, any_from, same_node, NodeId, Entry, Port, links_of, Subject, NodeState, NodeData, Running, State, is_reached, request_node, state_item}
use Rattle.hn_sync.proofs.Names.{with_some_answer, HeldIsOfAnEntry, PlainItem}
use Rattle.hn_sync.proofs.Answered.{AnswersAre, More, with_more}
use Rattle.hn_sync.proofs.NodeStatesSaid.{IsFit, Knows, KnowsNot, knows_or_not, knows_one, item_of, IsSaidOf, Says}
use Rattle.hn_sync.proofs.NothingToRefresh.{IsQuiet}
use Rattle.hn_sync.proofs.Sayings.{Saying}
use Rattle.hn_sync.proofs.PeersSaid.{signs, links_from_signs}

-- endpoints changed since, but for what their signs say, and nothing else
pub record IsAskedAsBefore (start s : State) : Type 0 where
  pub due : ℕ
  pub gives : s ≡ record start { ports = s.ports; due = due }
  pub signed : signs s.ports ≡ signs start.ports

pub still_self : (s : State) → IsAskedAsBefore s s
still_self s = record { due = s.due; gives = refl; signed = refl }

quiet_with : (s : State) (ports : List Port) (due : ℕ) → links_of ports ≡ links_of s.ports → IsQuiet s → IsQuiet (record s { ports = ports; due = due })
quiet_with s ports due same h = record {
  published = record { same = rw same h.published.same; young = h.published.young };
  reach = h.reach;
  is_reach = record { ascending = h.is_reach.ascending; exactly = h.is_reach.exactly };
  same_reach = h.same_reach;
  same_table = h.same_table;
  same_hash = h.same_hash;
}

pub still_quiet : (start s : State) → IsAskedAsBefore start s → IsQuiet start → IsQuiet s
still_quiet start s still h =
    subst IsQuiet (sym still.gives) (quiet_with start s.ports still.due (links_from_signs s.ports start.ports still.signed) h)

-- the router stays where an answer comes up
pub some_state : (about : Subject) (o : Option PlainItem) (r : Running) → (with_some_answer about o r).state ≡ r.state
some_state about None r = refl
some_state about (Some i) r = refl

-- ---- a request for the state of a node

module _ (of_entry : HeldIsOfAnEntry) (start : State) (fit : IsFit start) where
  -- what is said of a node is what is known of it
  pub data_said : (id : NodeId) (n : Entry) (x : Saying) → Knows start id n → NodeData id ≡ x.about → Says start x → x.item ≡ item_of true n
  data_said id n x knows about says =
      let s = subst (λ (o : Subject). IsSaidOf start o x.item) (sym about) says in
      s.3 ∙ ap (item_of true) (knows_one of_entry start fit id s.0 n s.2 knows)

  pub state_said : (id : NodeId) (n : Entry) (x : Saying) → Knows start id n → NodeState id ≡ x.about → Says start x → x.item ≡ item_of false n
  state_said id n x knows about says =
      let s = subst (λ (o : Subject). IsSaidOf start o x.item) (sym about) says in
      s.3 ∙ ap (item_of false) (knows_one of_entry start fit id s.0 n s.2 knows)

  pub some_more : (about : Subject) (with_data : Bool) (id : NodeId) (said : List Saying) (r : Running)
      → ((n : Entry) → Contains start.reach id → Knows start id n → IsSaidOf start about (item_of with_data n))
      → IsAskedAsBefore start r.state → AnswersAre r said → All (Says start) said → Contains start.reach id
      → ((n : Entry) × Knows start id n × More (Says start) said about (item_of with_data n) (with_some_answer about (state_item with_data r.state id) r))
      ⊎ (KnowsNot start id × (with_some_answer about (state_item with_data r.state id) r ≡ r))
  some_more about with_data id said r is still are all there = elim (knows_or_not of_entry start fit id) [
    | inl some ↦ inl (
      some.0,
      some.1,
      subst (λ (o : Option PlainItem). More (Says start) said about (item_of with_data some.0) (with_some_answer about o r)) (sym (same_item ∙ some.1.said with_data))
          (with_more (Says start) said about (item_of with_data some.0) r are all (is some.0 there some.1)),
    )
    | inr none ↦ inr (none, ap (λ (o : Option PlainItem). with_some_answer about o r) (same_item ∙ none.said with_data))
  ]
    where
      same_item : state_item with_data r.state id ≡ state_item with_data start id
      same_item = ap (λ (s : State). state_item with_data s id) still.gives

  reached : (id : NodeId) → is_reached id start.reach ≡ true → Contains start.reach id
  reached id is =
      let found = any_of (λ (r : NodeId). r.0 == id.0) start.reach is in
      subst (Contains start.reach) (same_node found.0 id (eqb-true found.0.0 id.0 found.2)) found.1

  is_reached_there : (id : NodeId) → Contains start.reach id → is_reached id start.reach ≡ true
  is_reached_there id there = any_from (λ (r : NodeId). r.0 == id.0) start.reach id there (eq-eqb id.0 id.0 refl)

  -- what comes of a request for the state of a node
  pub record Requested (id : NodeId) (said : List Saying) (r a : Running) : Type 0 where
    pub state : a.state ≡ r.state
    pub next : List Saying
    pub are : AnswersAre a next
    pub all : All (Says start) next
    pub keeps : (y : Saying) → Contains said y → Contains next y
    pub answered : (n : Entry) → Contains start.reach id → Knows start id n → (x : Saying) × Contains next x × (x.about ≡ NodeData id)

  pub node_requested : (id : NodeId) (said : List Saying) (r : Running) → IsAskedAsBefore start r.state → AnswersAre r said → All (Says start) said → Requested id said r (request_node id r)
  node_requested id said r still are all = by_test (is_reached id start.reach) refl
    where
      same_reach : is_reached id r.state.reach ≡ is_reached id start.reach
      same_reach = ap (λ (s : State). is_reached id s.reach) still.gives

      chosen : Bool → Running
      chosen b = cond b (with_some_answer (NodeData id) (state_item true r.state id) r) r

      by_knows : ((n : Entry) × Knows start id n × More (Says start) said (NodeData id) (item_of true n) (with_some_answer (NodeData id) (state_item true r.state id) r))
          ⊎ (KnowsNot start id × (with_some_answer (NodeData id) (state_item true r.state id) r ≡ r)) → Requested id said r (with_some_answer (NodeData id) (state_item true r.state id) r)
      by_knows (inl k) = record {
        state = some_state (NodeData id) (state_item true r.state id) r;
        next = k.2.next;
        are = k.2.are;
        all = k.2.all;
        keeps = k.2.keeps;
        answered = λ n there knows. (k.2.one, k.2.there, sym k.2.subject);
      }
      by_knows (inr k) = record {
        state = some_state (NodeData id) (state_item true r.state id) r;
        next = said;
        are = ap (λ (x : Running). x.answers) k.1 ∙ are;
        all = all;
        keeps = λ y h. h;
        answered = λ n there knows. absurd (let clash : None ≡ Some n = sym k.0.entry ∙ knows.entry in cc);
      }

      by_test : (b : Bool) → is_reached id start.reach ≡ b → Requested id said r (cond (is_reached id r.state.reach) (with_some_answer (NodeData id) (state_item true r.state id) r) r)
      by_test true is = subst (λ (b : Bool). Requested id said r (cond b (with_some_answer (NodeData id) (state_item true r.state id) r) r)) (sym (same_reach ∙ is))
          (by_knows (some_more (NodeData id) true id said r (λ n there knows. (n, there, knows, refl)) still are all (reached id is)))
      by_test false is = subst (λ (b : Bool). Requested id said r (cond b (with_some_answer (NodeData id) (state_item true r.state id) r) r)) (sym (same_reach ∙ is)) (record {
        state = refl;
        next = said;
        are = are;
        all = all;
        keeps = λ y h. h;
        answered = λ n there knows. absurd (let clash : true ≡ false = sym (is_reached_there id there) ∙ is in cc);
      })
