-- The identifiers of marked nodes, node by node.
use Rattle.hn_base.proofs.Names.{◌≡◌, ◌↔◌, ℕ, ◌+◌, ◌≤◌, Bool, List, [], ◌∷◌, ◌++◌, length, get_or, Some, subst, ⊎_elim, slice_get, Contains, Less, nat_cmp, Contains-push, Contains-push_cases}
use Rattle.hn_base.proofs.Names.{Contains-append_left, Less-from_sorted, slice_get_within, get_or_from_slice_get, node_cmp}
use Rattle.hn_graph.proofs.Names.{NodeId, nothing_in, IsOfFirst, none_of_first, first_further, first_last, first_cases, first_of_all, part_stands, ids_of, Entry, IsPlaceMarked, HasFound}
use Rattle.std.specs.List.Sorted.{IsStrictlySortedBy}
use Rattle.hn_base.proofs.AscendingLists.{sorted_push}

nothing_sorted : IsStrictlySortedBy node_cmp []
unfolding IsStrictlySortedBy
nothing_sorted = tt

-- one of the first n nodes is marked and has this identifier
abbrev pub HasFoundBefore : List Entry → List Bool → ℕ → NodeId → Type 0
HasFoundBefore nodes found n id = IsOfFirst (λ place node. IsPlaceMarked found place × (node.id ≡ id)) nodes n

-- the identifiers of the marked ones of the first n nodes, in ascending order
pub record AreFound (nodes : List Entry) (found : List Bool) (n : ℕ) (ids : List NodeId) : Type 0 where
  pub ascending : IsStrictlySortedBy node_cmp ids
  pub exact : (id : NodeId) → Contains ids id ↔ HasFoundBefore nodes found n id

pub none_found : (nodes : List Entry) (found : List Bool) → AreFound nodes found 0 []
none_found nodes found = record {
  ascending = nothing_sorted;
  exact = λ id. (λ h. absurd (nothing_in id h), λ h. absurd (none_of_first (λ place node. IsPlaceMarked found place × (node.id ≡ id)) nodes h));
}

-- the next node is not marked
pub found_same : (nodes : List Entry) (found : List Bool) (n : ℕ) (ids : List NodeId) (node : Entry) → AreFound nodes found n ids
    → slice_get nodes n ≡ Some node → ¬ (IsPlaceMarked found n) → AreFound nodes found (n + 1) ids
found_same nodes found n ids node were at un = record {
  ascending = were.ascending;
  exact = λ id. (
    λ h. first_further (λ place x. IsPlaceMarked found place × (x.id ≡ id)) nodes n ((were.exact id).0 h),
    λ h. ⊎_elim (λ (old : HasFoundBefore nodes found n id). (were.exact id).1 old) (λ (new : IsPlaceMarked found n × (node.id ≡ id)). absurd (un new.0))
        (first_cases (λ place x. IsPlaceMarked found place × (x.id ≡ id)) nodes n node at h),
  );
}

-- an earlier node has a lower identifier
below_next : (nodes : List Entry) (found : List Bool) (n : ℕ) (node : Entry) (id : NodeId) → IsStrictlySortedBy nat_cmp (ids_of nodes)
    → slice_get nodes n ≡ Some node → HasFoundBefore nodes found n id → node_cmp id node.id ≡ Less
below_next nodes found n node id up at h =
    let ids = ids_of nodes in
    let here = part_stands (λ x. x.id.0) nodes n node at in
    let there = part_stands (λ x. x.id.0) nodes h.k h.x h.at in
    let less = Less-from_sorted nat_cmp ids h.k n 0 up h.before (slice_get_within ids n node.id.0 here) in
    let read : get_or ids n 0 ≡ node.id.0 = get_or_from_slice_get ids n node.id.0 0 here in
    let read_other : get_or ids h.k 0 ≡ h.x.id.0 = get_or_from_slice_get ids h.k h.x.id.0 0 there in
    subst (λ (i : NodeId). node_cmp i node.id ≡ Less) h.fact.1 (rw (read, read_other) at less)

-- the next node is marked
pub found_more : (nodes : List Entry) (found : List Bool) (n : ℕ) (ids : List NodeId) (node : Entry) → IsStrictlySortedBy nat_cmp (ids_of nodes)
    → AreFound nodes found n ids → slice_get nodes n ≡ Some node → IsPlaceMarked found n → AreFound nodes found (n + 1) (ids ++ node.id ∷ [])
found_more nodes found n ids node up were at marked = record {
  ascending = sorted_push node_cmp ids node.id were.ascending (λ id h. below_next nodes found n node id up at ((were.exact id).0 h));
  exact = λ id. (
    λ h. ⊎_elim (λ (old : Contains ids id). first_further (λ place x. IsPlaceMarked found place × (x.id ≡ id)) nodes n ((were.exact id).0 old))
        (λ (is : node.id ≡ id). first_last (λ place x. IsPlaceMarked found place × (x.id ≡ id)) nodes n node at (marked, is))
        (Contains-push_cases ids node.id id h),
    λ h. ⊎_elim (λ (old : HasFoundBefore nodes found n id). Contains-append_left ids (node.id ∷ []) id ((were.exact id).1 old))
        (λ (new : IsPlaceMarked found n × (node.id ≡ id)). subst (λ (i : NodeId). Contains (ids ++ node.id ∷ []) i) new.1 (Contains-push ids node.id))
        (first_cases (λ place x. IsPlaceMarked found place × (x.id ≡ id)) nodes n node at h),
  );
}

-- all nodes
pub found_all : (nodes : List Entry) (found : List Bool) (n : ℕ) (ids : List NodeId) (id : NodeId) → length nodes ≤ n → AreFound nodes found n ids → Contains ids id ↔ HasFound nodes found id
found_all nodes found n ids id all are = (
  λ c. let h = (are.exact id).0 c in record { place = h.k; node = h.x; at = h.at; marked = h.fact.0; is_it = h.fact.1 },
  λ h. (are.exact id).1 (first_of_all (λ place x. IsPlaceMarked found place × (x.id ≡ id)) nodes n h.place h.node all h.at (h.marked, h.is_it)),
)
