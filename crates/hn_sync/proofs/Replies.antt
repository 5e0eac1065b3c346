-- What a router that is still replies to requests.
use Rattle.hn_base.proofs.Names.{◌≡◌, ◌∙◌, ◌<◌, ℕ, false, List, [], ◌∷◌, ◌++◌, Contains, Some, None, sym, ap, subst, refl, inl, inr, IsStrictlySortedBy, All-contains, Contains-append_cases}
use Rattle.hn_base.proofs.Names.{sorted_tail, node_cmp, Each}
use Rattle.hn_sync.proofs.Names.{All, nothing_in, Contains-head, Contains-tail, Contains-cases, Contains-one, lt_from_less, NodeId, Entry, Subject, NetworkState, NodeState, Running, State}
use Rattle.hn_sync.proofs.Names.{with_answer, entry_of, IsNetworkRequest, with_state, HeldIsOfAnEntry}
use Rattle.hn_base.proofs.AscendingLists.{below_head}
use Rattle.hn_typed.specs.Item as item
use Rattle.hn_sync.proofs.Answered.{AnswersAre, with_more}
use Rattle.hn_sync.proofs.NodeStatesSaid.{IsFit, Knows, item_of, Says}
use Rattle.hn_sync.proofs.Sayings.{Saying, IsPart}
use Rattle.hn_sync.proofs.AskedStays.{IsAskedAsBefore, state_said, some_more, some_state}

-- ---- a list of states, in ascending order of the nodes

abbrev pub Below : Subject → Subject → Type 0
Below NetworkState (NodeState id) = Unit {0}
Below (NodeState x) (NodeState y) = x.0 < y.0
Below _ _ = ⊥

abbrev pub Ascends : List Saying → Type 0
Ascends [] = Unit {0}
Ascends (s ∷ said) = ((t : Saying) → Contains said t → Below s.about t.about) × Ascends said

ascends_push : (said : List Saying) (t : Saying) → Ascends said → ((s : Saying) → Contains said s → Below s.about t.about) → Ascends (said ++ t ∷ [])
ascends_push [] t up below = (λ s there. absurd (nothing_in s there), tt)
ascends_push (x ∷ said) t up below = (
  λ s there. elim (Contains-append_cases said (t ∷ []) s there) [
    | inl old ↦ up.0 s old
    | inr new ↦ subst (λ (y : Saying). Below x.about y.about) (Contains-one t s new) (below x (Contains-head x said))
  ],
  ascends_push said t up.1 (λ s there. below s (Contains-tail x said s there)),
)

ascends_front : (xs ys : List Saying) → Ascends (xs ++ ys) → Ascends xs
ascends_front [] ys up = tt
ascends_front (x ∷ xs) ys up = (λ s there. up.0 s (contains_left xs ys s there), ascends_front xs ys up.1)
  where
    contains_left : (xs ys : List Saying) (s : Saying) → Contains xs s → Contains (xs ++ ys) s
    contains_left [] ys s there = absurd (nothing_in s there)
    contains_left (z ∷ zs) ys s there = elim (Contains-cases z zs s there) [
      | inl here ↦ subst (Contains (z ∷ (zs ++ ys))) here (Contains-head z (zs ++ ys))
      | inr later ↦ Contains-tail z (zs ++ ys) s (contains_left zs ys s later)
    ]

ascends_back : (xs ys : List Saying) → Ascends (xs ++ ys) → Ascends ys
ascends_back [] ys up = up
ascends_back (x ∷ xs) ys up = ascends_back xs ys up.1

pub ascends_part : (part whole : List Saying) → IsPart part whole → Ascends whole → Ascends part
ascends_part part whole h up = ascends_front part h.rest (ascends_back h.front (part ++ h.rest) (subst Ascends h.parts up))

module _ (of_entry : HeldIsOfAnEntry) (start : State) (fit : IsFit start) where
  -- ---- a request for the network state

  pub record States (ids : List NodeId) (said : List Saying) (r a : Running) : Type 0 where
    pub state : a.state ≡ r.state
    pub next : List Saying
    pub are : AnswersAre a next
    pub all : All (Says start) next
    pub keeps : (y : Saying) → Contains said y → Contains next y
    pub each : (id : NodeId) (n : Entry) → Contains ids id → Knows start id n → (x : Saying) × Contains next x × (x.about ≡ NodeState id) × (x.item ≡ item_of false n)
    pub ascends : Ascends said → IsStrictlySortedBy node_cmp ids → ((s : Saying) (id : NodeId) → Contains said s → Contains ids id → Below s.about (NodeState id)) → Ascends next

  pub states : (ids : List NodeId) → ((id : NodeId) → Contains ids id → Contains start.reach id) → (said : List Saying) (r a : Running)
      → IsAskedAsBefore start r.state → AnswersAre r said → All (Says start) said
      → Each (λ id b a. a ≡ with_state id b) ids r a → States ids said r a
  states [] within said r a still are all h = record {
    state = ap (λ (x : Running). x.state) h;
    next = said;
    are = ap (λ (x : Running). x.answers) h ∙ are;
    all = all;
    keeps = λ y k. k;
    each = λ id n there. absurd (nothing_in id there);
    ascends = λ up _ _. up;
  }
  states (id ∷ ids) within said r a still are all h =
      elim (some_more of_entry start fit (NodeState id) false id said r (λ n there knows. (n, there, knows, refl)) still are all (within id (Contains-head id ids))) [
        | inl k ↦
            let state : (h.0).state ≡ r.state = ap (λ (x : Running). x.state) h.1 ∙ some_state (NodeState id) _ r in
            let rest = states ids (λ x there. within x (Contains-tail id ids x there)) k.2.next h.0 a (subst (IsAskedAsBefore start) (sym state) still)
            (ap (λ (x : Running). x.answers) h.1 ∙ k.2.are) k.2.all h.2 in
            record {
              state = rest.state ∙ state;
              next = rest.next;
              are = rest.are;
              all = rest.all;
              keeps = λ y old. rest.keeps y (k.2.keeps y old);
              each = λ x n there knows. elim (Contains-cases id ids x there) [
                | inl here ↦ (
                  k.2.one,
                  rest.keeps k.2.one k.2.there,
                  sym k.2.subject ∙ ap NodeState here,
                  state_said of_entry start fit x n k.2.one knows (ap NodeState (sym here) ∙ k.2.subject) (All-contains (Says start) k.2.next k.2.one k.2.all k.2.there),
                )
                | inr later ↦ rest.each x n later knows
              ];
              ascends = λ up sorted below. elim k.2.shape [
                | inl same ↦ rest.ascends (subst Ascends (sym same) up) (sorted_tail node_cmp id ids sorted)
                    (λ s x old later. below s x (subst (λ (xs : List Saying). Contains xs s) same old) (Contains-tail id ids x later))
                | inr more ↦ rest.ascends (subst Ascends (sym more) (ascends_push said _ up (λ s old. below s id old (Contains-head id ids)))) (sorted_tail node_cmp id ids sorted)
                    (λ s x old later. elim (Contains-append_cases said (record { about = NodeState id; item = item_of false k.0 } ∷ []) s (subst (λ (xs : List Saying). Contains xs s) more old)) [
                      | inl before ↦ below s x before (Contains-tail id ids x later)
                      | inr new ↦ subst (λ (y : Saying). Below y.about (NodeState x))
                          (Contains-one (record { about = NodeState id; item = item_of false k.0 }) s new) (lt_from_less id.0 x.0 (below_head node_cmp id ids sorted x later))
                    ])
              ];
            }
        | inr k ↦
            let same : h.0 ≡ r = h.1 ∙ k.1 in
            let rest = states ids (λ x there. within x (Contains-tail id ids x there)) said h.0 a
            (subst (λ (x : Running). IsAskedAsBefore start x.state) (sym same) still) (ap (λ (x : Running). x.answers) same ∙ are) all h.2 in
            record {
              state = rest.state ∙ ap (λ (x : Running). x.state) same;
              next = rest.next;
              are = rest.are;
              all = rest.all;
              keeps = rest.keeps;
              each = λ x n there knows. elim (Contains-cases id ids x there) [
                | inl here ↦ absurd (let none : None ≡ Some n = sym (subst (λ (y : NodeId). entry_of start y ≡ None) here k.0.entry) ∙ knows.entry in cc)
                | inr later ↦ rest.each x n later knows
              ];
              ascends = λ up sorted below. rest.ascends up (sorted_tail node_cmp id ids sorted) (λ s x old later. below s x old (Contains-tail id ids x later));
            }
      ]

  pub network_requested : (said : List Saying) (r a : Running) → IsAskedAsBefore start r.state → AnswersAre r said → All (Says start) said → IsNetworkRequest r a
      → (first : List Saying) × ((s : Saying) → Contains said s → Contains first s)
      × ((said ≡ []) → first ≡ record { about = NetworkState; item = item.NetworkState start.net [] } ∷ []) × States start.reach first r a
  network_requested said r a still are all h =
      let same_net : r.state.net ≡ start.net = ap (λ (s : State). s.net) still.gives in
      let same_reach : r.state.reach ≡ start.reach = ap (λ (s : State). s.reach) still.gives in
      let more = with_more (Says start) said NetworkState (item.NetworkState r.state.net []) r are all (ap (λ (net : List ℕ). item.NetworkState net []) same_net) in
      let each : Each (λ id b a. a ≡ with_state id b) start.reach (with_answer NetworkState (item.NetworkState r.state.net []) r) a
      = subst (λ (ids : List NodeId). Each (λ id b a. a ≡ with_state id b) ids (with_answer NetworkState (item.NetworkState r.state.net []) r) a) same_reach h in
      let rest = states start.reach (λ id there. there) more.next (with_answer NetworkState (item.NetworkState r.state.net []) r) a still more.are more.all each in (
        more.next,
        more.keeps,
        λ none. elim more.shape [
          | inl same ↦ absurd (nothing_in more.one (subst (λ (xs : List Saying). Contains xs more.one) (same ∙ none) more.there))
          | inr new ↦ new ∙ (λ i. none i ++ record { about = NetworkState; item = item.NetworkState (same_net i) [] } ∷ [])
        ],
        record { state = rest.state; next = rest.next; are = rest.are; all = rest.all; keeps = rest.keeps; each = rest.each; ascends = rest.ascends },
      )
