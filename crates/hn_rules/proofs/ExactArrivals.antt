-- An arrival has at most one result over a stream of words, and where its TLVs are some it has one.
use Rattle.hn_base.proofs.Names.{◌≡◌, ◌<◌, ◌+◌, ◌%◌, ◌^◌, ◌∙◌, ◌⊎◌, ℕ, Bool, true, false, List, [], ◌∷◌, ◌++◌, Option, Some, None, length, map, slice_index, ap, refl, sym, subst, inl, inr, arith, All, cases_Bool}
use Rattle.hn_base.proofs.Names.{All-contains, bytes_eq, cases_lt, Some!, Then, Each}
use Rattle.hn_rules.proofs.Names.{Contains-head, NodeId, some_then, total_word, total_from, total_by, total_both, total_each, PlainTlv, IsTlv, ItemOrFault, PlainItem, IsItem, ItemIsUnique, ItemHasNoFault}
use Rattle.hn_rules.proofs.Names.{PackingExists, Port, asks_for_state, Nodes, IsTable, PlainState, Accepts, Took, Running, Origin, State, with_answer, IsItemRule, IsTlvRule, IsTlvs, IsAnswering}
use Rattle.hn_rules.proofs.Names.{IsArrival, IsSaid, ChangeTable, Accept, IsFirstFreeId, IsClaim, is_taken, is_reached, network_state, node_endpoint, own_leaf, took_noted, IsTaken}
use Rattle.hn_rules.proofs.Names.{IsNodeState, Publishes, IsRefresh, state_item, with_state, IsNetworkRequest, request_node, IsSole, IsTotal, noted, with_words, words_taken}
use Rattle.std.proofs.Common.{if◌then◌else◌}
use Rattle.hn_base.proofs.ExactRules.{exact_given, exact_plain, exact_by, exact_like, exact_each, exact_start, exact_after, exact_test}
use Rattle.hn_base.proofs.OneResult.{sole_drawn, sole_both, sole_each, sole_or, sole_some, sole_plain}
use Rattle.hn_base.proofs.SomeExists.{IsFirstIfAny, some_first}
use Rattle.hn_base.proofs.SomeResult.{total_some, total_after, total_plain}
use Rattle.hn_typed.specs.Item as item
use Rattle.hn_typed.specs.Fault.{IsItemFault}
use Rattle.hn_typed.specs.Laws.{ItemFaultIsUnique}
use Rattle.hn_dncp.specs.Laws.{PackingIsUnique}
use Rattle.hn_store.specs.Laws.{AcceptanceExists, AcceptanceIsUnique}
use Rattle.hn_store.specs.declared.state.Took.TheVariants as took
use Rattle.hn_rules.specs.declared.done.Note.TheVariants as note
use Rattle.hn_rules.specs.declared.answers.Subject.TheVariants as subject
use Rattle.hn_rules.specs.Rules.{IsExactRule}
use Rattle.hn_rules.proofs.Arriving.{some_answer_words, node_endpoint_words}
use Rattle.hn_rules.proofs.FreeIds.{free-after}
use Rattle.hn_rules.proofs.ExactRefreshes.{RefreshLaws, Well, Any, CanPublish, can_publish, some_published, one_published, published_words, exact_at, exact_publishes, exact_refresh}
use Rattle.hn_rules.proofs.Walk.{tlv_walk, refresh_walk}

-- the laws of the crates below on which it rests
pub record ArrivalLaws : Type 0 where
  pub refresh : RefreshLaws
  pub acceptance : AcceptanceExists
  pub one_acceptance : AcceptanceIsUnique
  pub packing : PackingExists
  pub one_packing : PackingIsUnique
  pub item : ItemOrFault
  pub one_item : ItemIsUnique
  pub no_item : ItemHasNoFault
  pub one_fault : ItemFaultIsUnique

-- ---- a claim

module _ (s : State) (word : ℕ) where
  abbrev IsFree : ℕ → Type 0
  IsFree j = is_taken ((word + j) % 2 ^ 32) s ≡ false

  abbrev IsTakenAt : ℕ → Type 0
  IsTakenAt j = is_taken ((word + j) % 2 ^ 32) s ≡ true

  free_or_taken : (j : ℕ) → ¬ (IsFree j) → ¬ (IsTakenAt j) → ⊥
  free_or_taken j not_free not_taken = elim (cases_Bool (is_taken ((word + j) % 2 ^ 32) s)) [ inl is ↦ not_taken is | inr is ↦ not_free is ]

  -- there are fewer nodes than identifiers
  few_nodes : IsTable s.table → length s.table.entries + 2 < 2 ^ 32
  few_nodes table =
      let within = table.within in
      elim table.limit_is [ inl is ↦ omega arith | inr is ↦ omega arith ]

  some_free : IsTable s.table → Some! (IsFirstFreeId s word)
  some_free table = some_then (some_first IsFree IsTakenAt free_or_taken (length s.table.entries + 3)) first
    where
      first : (o : Option ℕ) → IsFirstIfAny IsFree IsTakenAt (length s.table.entries + 3) o → Some! (IsFirstFreeId s word)
      first (Some k) is none = none ((word + k) % 2 ^ 32) (record { steps = k; is_it = refl; free = is.1; taken_before = is.2 })
      first None all none =
          let free = free-after s.id.0 s.table.entries word (length s.table.entries + 2) refl (few_nodes table) (λ j less. all j (omega arith)) in
          let clash : false ≡ true = sym free ∙ all (length s.table.entries + 2) (omega arith) in
          absurd cc

never_before : (s : State) (word i j : ℕ) (h : IsFirstFreeId s word i) (k : IsFirstFreeId s word j) → h.steps < k.steps → ⊥
never_before s word i j h k less =
    let clash : false ≡ true = sym h.free ∙ ap (λ (id : ℕ). is_taken id s) h.is_it ∙ k.taken_before h.steps less in
    absurd cc

one_free : (s : State) (word i j : ℕ) → IsFirstFreeId s word i → IsFirstFreeId s word j → i ≡ j
one_free s word i j h k =
    let same : h.steps ≡ k.steps =
    elim (cases_lt h.steps k.steps) [
      | inl less ↦ absurd (never_before s word i j h k less)
      | inr no_less ↦ elim (cases_lt k.steps h.steps) [ inl less ↦ absurd (never_before s word j i k h less) | inr no_more ↦ omega arith ]
    ] in
    h.is_it ∙ ap (λ (n : ℕ). (word + n) % 2 ^ 32) same ∙ sym k.is_it

-- the router with a new identifier
abbrev claiming : ℕ → ℕ → Running → Running
claiming word id r = with_words (word ∷ []) (record r { state = record r.state { id = record { 0 = id }; claimed = false } })

abbrev HasClaimed : ℕ → Running → Running → Type 0
HasClaimed word r a = (id : ℕ) × IsFirstFreeId r.state word id × Publishes 1 (claiming word id r) a

some_claimed : RefreshLaws → (word : ℕ) (r : Running) → Well r → Some! (HasClaimed word r)
some_claimed laws word r is =
    some_then (some_free r.state word is.table) (λ id first.
    some_then (some_published laws 1 (claiming word id r) (can_publish laws r is)) (λ a publishes none. none a (id, first, publishes)))

one_claimed : RefreshLaws → (r a b : Running) (h : (word : ℕ) × HasClaimed word r a) (k : (word : ℕ) × HasClaimed word r b) → h.0 ∷ [] ≡ k.0 ∷ [] → a ≡ b
one_claimed laws r a b (w, (i, first, publishes)) (v, (j, other, also)) same =
    let word : w ≡ v = ap (λ (ws : List ℕ). slice_index ws 0) same in
    let id : i ≡ j = one_free r.state v i j (subst (λ (x : ℕ). IsFirstFreeId r.state x i) word first) other in
    let start : claiming w i r ≡ claiming v j r = λ n. claiming (word n) (id n) r in
    one_published laws 1 (claiming v j r) a b (subst (λ (m : Running). Publishes 1 m a) start publishes) also

-- a new identifier
exact_second : RefreshLaws → IsExactRule Well (λ r a. (word : ℕ) × HasClaimed word r a)
exact_second laws = record {
  sole = sole_drawn words_taken (λ r a. (word : ℕ) × HasClaimed word r a) (λ r a h. h.0 ∷ []) (λ r a h. published_words 1 (claiming h.0 h.1.0 r) a h.1.2) (λ r a b h k. refl)
      (one_claimed laws);
  total = total_word words_taken Well HasClaimed (λ word r a h. published_words 1 (claiming word h.0 r) a h.2) (some_claimed laws);
}

-- a router that was claimed once
abbrev once_claimed : Running → Running
once_claimed r = record r { state = record r.state { claimed = true } }

-- a new identifier where it was claimed before, and else a greater number
abbrev IsAnswered : ℕ → Running → Running → Type 0
IsAnswered number r a =
    ((r.state.claimed ≡ true) × ((word : ℕ) × HasClaimed word r a)) ⊎ ((r.state.claimed ≡ false) × Publishes ((number + 1000) % 2 ^ 32) (once_claimed r) a)

exact_claim : RefreshLaws → (number : ℕ) → IsExactRule Well (IsClaim number)
exact_claim laws number =
    let greater = (number + 1000) % 2 ^ 32 in
    let first = exact_after words_taken Well CanPublish once_claimed (Publishes greater) (λ r. refl) (can_publish laws) (exact_publishes laws greater) in
    exact_like words_taken Well (IsAnswered number) (IsClaim number) back along
    (exact_test words_taken Well (λ r. r.state.claimed) (λ r a. (word : ℕ) × HasClaimed word r a) (λ r a. Publishes greater (once_claimed r) a)
    (exact_by words_taken (λ r. Well r × (r.state.claimed ≡ true)) Well (λ r a. (word : ℕ) × HasClaimed word r a) (λ r is. is.0) (exact_second laws))
    (exact_by words_taken (λ r. Well r × (r.state.claimed ≡ false)) Well (λ r a. Publishes greater (once_claimed r) a) (λ r is. is.0) first))
  where
    back : (r a : Running) → IsClaim number r a → IsAnswered number r a
    back r a (inl h) = inr (h.none_before, h.publishes)
    back r a (inr h) = inl (h.one_before, (h.word, (h.id, h.first, h.publishes)))

    along : (r a : Running) → Well r → IsAnswered number r a → IsClaim number r a
    along r a is (inl (one, (word, has))) = inr (record { one_before = one; word = word; id = has.0; first = has.1; publishes = has.2 })
    along r a is (inr (none, publishes)) = inl (record { none_before = none; publishes = publishes })

-- ---- a Node State

exact_taken : RefreshLaws → (carried : PlainState) (how : Took) → IsExactRule Well (IsTaken carried how)
exact_taken laws carried took.Own = exact_after words_taken Well Well (noted (note.Own carried.number)) (IsClaim carried.number) (λ r. refl) (λ r is. is) (exact_claim laws carried.number)
exact_taken laws carried took.Ask =
    exact_plain words_taken Well (λ r. with_answer (subject.NodeRequest (record { 0 = carried.node })) (item.RequestNode carried.node []) (took_noted carried took.Ask r)) (λ r. refl)
exact_taken laws carried how = exact_plain words_taken Well (took_noted carried how) (λ r. refl)

abbrev with_table : Nodes → Running → Running
with_table table r = record r { state = record r.state { table = table } }

abbrev IsAccepted : PlainState → Nodes × Took → Running → Type 0
IsAccepted carried x r = Accepts r.state.table (own_leaf r.state) carried r.state.moment x.0 x.1

sole_node_state : ArrivalLaws → (carried : PlainState) → IsSole (IsNodeState carried)
sole_node_state laws carried = record {
  grows = λ stream r a h. (exact_taken laws.refresh carried h.how).sole.grows stream (with_table h.table r) a h.taken;
  one = λ stream r a b h k.
      let same = laws.one_acceptance r.state.table (own_leaf r.state) carried r.state.moment k.table h.table k.how h.how k.accepts h.accepts in
      let taken = subst (λ (how : Took). IsTaken carried how (with_table h.table r) b) same.1 (subst (λ (table : Nodes). IsTaken carried k.how (with_table table r) b) same.0 k.taken) in
      (exact_taken laws.refresh carried h.how).sole.one stream (with_table h.table r) a b h.taken taken;
}

total_node_state : ArrivalLaws → (tlvs : List PlainTlv) (carried : PlainState) → IsSaid tlvs (item.NodeState carried.node carried.number carried.age carried.hash carried.body)
    → IsTotal Well (IsNodeState carried)
total_node_state laws tlvs carried said =
    total_from words_taken Well (λ r a. (x : Nodes × Took) × IsAccepted carried x r × IsTaken carried x.1 (with_table x.0 r) a) (IsNodeState carried)
    (λ r a is h. record { table = h.0.0; how = h.0.1; accepts = h.1; taken = h.2 })
    (total_some words_taken Well (IsAccepted carried) (λ x r a. IsTaken carried x.1 (with_table x.0 r) a)
    (λ r is none. let (next, how, accepts) = laws.acceptance r.state.table (own_leaf r.state) carried r.state.moment in none (next, how) accepts)
    (λ x. total_after words_taken (λ r. Well r × IsAccepted carried x r) Well (with_table x.0) (IsTaken carried x.1) (λ r. refl)
    (λ r is. laws.refresh.keeps tlvs (ChangeTable (Accept carried x.1 x.0)) r (said, is.1) is.0) (exact_taken laws.refresh carried x.1).total))

-- ---- the items of TLVs

if_words : (b : Bool) (x y r : Running) → x.done.words ≡ r.done.words → y.done.words ≡ r.done.words → (if b then x else y).done.words ≡ r.done.words
if_words true x y r one other = one
if_words false x y r one other = other

network_state_words : (hash : List ℕ) (port : Port) (r : Running) → (network_state hash port r).done.words ≡ r.done.words
network_state_words hash port r = if_words (asks_for_state (bytes_eq hash r.state.net) r.state.moment port) _ _ r refl refl

request_node_words : (id : NodeId) (r : Running) → (request_node id r).done.words ≡ r.done.words
request_node_words id r = if_words (is_reached id r.state.reach) _ _ r (some_answer_words (subject.NodeData id) (state_item true r.state id) r) refl

-- the states of what is reached, behind one answer
exact_states : (s : Running) → IsExactRule Any (Each (λ id b c. c ≡ with_state id b) s.state.reach)
exact_states s =
    let each = λ (id : NodeId). exact_plain words_taken Any (with_state id) (λ r. some_answer_words (subject.NodeState id) (state_item false r.state id) r) in
    exact_each words_taken Any (λ id b c. c ≡ with_state id b) s.state.reach (λ id. (each id).sole) (λ id there b a p is. tt) (λ id there. (each id).total)

exact_answers : (s : Running)
    → IsExactRule Any (λ r a. Each (λ id b c. c ≡ with_state id b) s.state.reach (with_answer subject.NetworkState (item.NetworkState s.state.net []) r) a)
exact_answers s =
    exact_after words_taken Any Any (with_answer subject.NetworkState (item.NetworkState s.state.net [])) (Each (λ id b c. c ≡ with_state id b) s.state.reach)
    (λ r. refl) (λ r p. tt) (exact_states s)

exact_network_request : IsExactRule Any IsNetworkRequest
exact_network_request =
    exact_start words_taken Any (λ s r a. Each (λ id b c. c ≡ with_state id b) s.state.reach (with_answer subject.NetworkState (item.NetworkState s.state.net []) r) a)
    (λ s. (exact_answers s).sole) (λ s p. (exact_answers s).total)

-- an item that is no Node State
exact_endpoint : (from : Origin) (node endpoint : ℕ) → IsExactRule Well (IsItemRule from (item.NodeEndpoint node endpoint []))
exact_endpoint from node endpoint =
    exact_at Well from.endpoint (λ port b a. a ≡ node_endpoint from (record { 0 = node }) (record { 0 = endpoint }) port b)
    (λ port. exact_plain words_taken Well (node_endpoint from (record { 0 = node }) (record { 0 = endpoint }) port) (node_endpoint_words from (record { 0 = node }) (record { 0 = endpoint }) port))

exact_hash : (from : Origin) (hash : List ℕ) → IsExactRule Well (IsItemRule from (item.NetworkState hash []))
exact_hash from hash = exact_at Well from.endpoint (λ port b a. a ≡ network_state hash port b) (λ port. exact_plain words_taken Well (network_state hash port) (network_state_words hash port))

exact_node_request : (from : Origin) (node : ℕ) → IsExactRule Well (IsItemRule from (item.RequestNode node []))
exact_node_request from node = exact_plain words_taken Well (request_node (record { 0 = node })) (request_node_words (record { 0 = node }))

sole_item : ArrivalLaws → (from : Origin) (i : PlainItem) → IsSole (IsItemRule from i)
sole_item laws from (item.NodeEndpoint node endpoint subs) = (exact_endpoint from node endpoint).sole
sole_item laws from (item.RequestNetwork subs) = exact_network_request.sole
sole_item laws from (item.RequestNode node subs) = (exact_node_request from node).sole
sole_item laws from (item.NetworkState hash subs) = (exact_hash from hash).sole
sole_item laws from (item.NodeState node number age hash body) = sole_node_state laws (record { node = node; number = number; age = age; hash = hash; body = body })
sole_item laws from _ = sole_plain words_taken (λ r. r) (λ r. refl)

total_item : ArrivalLaws → (from : Origin) (tlvs : List PlainTlv) (i : PlainItem) → IsSaid tlvs i → IsTotal Well (IsItemRule from i)
total_item laws from tlvs (item.NodeEndpoint node endpoint subs) said = (exact_endpoint from node endpoint).total
total_item laws from tlvs (item.RequestNetwork subs) said = total_by words_taken Well Any IsNetworkRequest (λ r is. tt) exact_network_request.total
total_item laws from tlvs (item.RequestNode node subs) said = (exact_node_request from node).total
total_item laws from tlvs (item.NetworkState hash subs) said = (exact_hash from hash).total
total_item laws from tlvs (item.NodeState node number age hash body) said =
    total_node_state laws tlvs (record { node = node; number = number; age = age; hash = hash; body = body }) said
total_item laws from tlvs _ said = total_plain words_taken Well (λ r. r) (λ r. refl)

sole_tlv : ArrivalLaws → (from : Origin) (tlv : PlainTlv) → IsSole (IsTlvRule from tlv)
sole_tlv laws from tlv =
    sole_or words_taken (λ r a. (i : PlainItem) × IsItem tlv i × IsItemRule from i r a) (λ r a. (why : ℕ) × IsItemFault tlv why × (a ≡ noted (note.Ignored tlv.kind why) r))
    (sole_some words_taken (IsItem tlv) (IsItemRule from) (laws.one_item tlv) (sole_item laws from))
    (sole_some words_taken (IsItemFault tlv) (λ why r a. a ≡ noted (note.Ignored tlv.kind why) r) (laws.one_fault tlv) (λ why. sole_plain words_taken (noted (note.Ignored tlv.kind why)) (λ r. refl)))
    (λ r a b h k. laws.no_item tlv h.0 k.0 h.1 k.1)

total_tlv : ArrivalLaws → (from : Origin) (tlv : PlainTlv) → IsTlv tlv → IsTotal Well (IsTlvRule from tlv)
total_tlv laws from tlv valid = elim (laws.item tlv valid) [
  | inl (i, is) ↦ total_from words_taken Well (IsItemRule from i) (IsTlvRule from tlv) (λ r a p h. inl (i, is, h)) (total_item laws from (tlv ∷ []) i (tlv, Contains-head tlv [], is))
  | inr (why, is) ↦ total_from words_taken Well (λ r a. a ≡ noted (note.Ignored tlv.kind why) r) (IsTlvRule from tlv) (λ r a p h. inr (why, is, h))
      (total_plain words_taken Well (noted (note.Ignored tlv.kind why)) (λ r. refl))
]

-- ---- a datagram

module _ (laws : ArrivalLaws) (from : Origin) where
  keeps_tlv : (tlv : PlainTlv) (r a : Running) → Well r → IsTlvRule from tlv r a → Well a
  keeps_tlv tlv r a is holds = tlv_walk (tlv ∷ []) Well (laws.refresh.keeps (tlv ∷ [])) from tlv (Contains-head tlv []) r a holds is

  sole_tlvs : (tlvs : List PlainTlv) → IsSole (IsTlvs from tlvs)
  sole_tlvs tlvs =
      sole_each words_taken (λ tlv. Then (IsTlvRule from tlv) IsRefresh)
      (λ tlv. sole_both words_taken (IsTlvRule from tlv) IsRefresh (sole_tlv laws from tlv) (exact_refresh laws.refresh).sole) tlvs

  total_tlvs : (tlvs : List PlainTlv) → All IsTlv tlvs → IsTotal Well (IsTlvs from tlvs)
  total_tlvs tlvs valid =
      total_each words_taken Well (λ tlv. Then (IsTlvRule from tlv) IsRefresh) tlvs
      (λ tlv there r a is h. refresh_walk [] Well (laws.refresh.keeps []) h.0 a h.2 (keeps_tlv tlv r h.0 is h.1))
      (λ tlv there. total_both words_taken Well Well (IsTlvRule from tlv) IsRefresh (total_tlv laws from tlv (All-contains IsTlv tlvs tlv valid there)) (keeps_tlv tlv)
      (exact_refresh laws.refresh).total)

  answered : List (List ℕ) → Running → Running
  answered datagrams r =
      record r { done = record r.done { sends = r.done.sends ++ map (λ bytes. record { endpoint = from.endpoint; to = Some from.from; bytes = bytes }) datagrams }; answers = [] }

  exact_answering : IsExactRule Any (IsAnswering from)
  unfolding answered
  exact_answering =
      exact_given words_taken Any (IsAnswering from) (λ r a h. ap words_taken h.gives)
      (λ r a b h k. h.gives ∙ ap (λ (datagrams : List (List ℕ)). answered datagrams r)
      (laws.one_packing r.state.id from.endpoint (map (λ a. a.tlv) r.answers) h.datagrams k.datagrams h.packed k.packed) ∙ sym k.gives)
      (λ r p none. let (datagrams, packed) = laws.packing r.state.id from.endpoint (map (λ a. a.tlv) r.answers) in
      none (answered datagrams r) (record { datagrams = datagrams; packed = packed; gives = refl }))

  pub sole_arrival : (tlvs : List PlainTlv) → IsSole (IsArrival from tlvs)
  sole_arrival tlvs = sole_both words_taken (IsTlvs from tlvs) (IsAnswering from) (sole_tlvs tlvs) exact_answering.sole

  pub total_arrival : (tlvs : List PlainTlv) → All IsTlv tlvs → IsTotal Well (IsArrival from tlvs)
  total_arrival tlvs valid = total_both words_taken Well Any (IsTlvs from tlvs) (IsAnswering from) (total_tlvs tlvs valid) (λ r a is h. tt) exact_answering.total
