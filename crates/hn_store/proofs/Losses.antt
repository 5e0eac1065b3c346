-- Who is among the reachable nodes, and what a mark changes.
use Rattle.hn_base.proofs.Names.{◌≡◌, ◌<◌, ℕ, ◌+◌, inl, inr, Bool, true, false, cond, not, List, [], ◌∷◌, ◌++◌, length, map, filter, take, drop, get_or, subst, Result, Ok, Err, is_ok, Option, Some}
use Rattle.hn_base.proofs.Names.{None, refl, sym, ap, arith, is_none, ◌==◌, list_any, AllAdjacentBelow, IsAllAdjacentAnswer, IsNonDecreasingBy, IsStrictlySortedBy, IsSearchInRange}
use Rattle.hn_base.proofs.Names.{IsBinarySearchResult, Less, Equal, Greater, nat_cmp, ordering_index, ranked, eq-eqb, ne_eqb, cases_lt, or_parts, list_any_at, common_steps, length-map, All-map}
use Rattle.hn_base.proofs.Names.{All-weaker, length-filter}
use Rattle.hn_store.proofs.Names.{NodeId, HeldNode, IsTable, IsIntact, ids_of_held, lost_after, marked_node, is_to_mark, is_forgotten}
use Rattle.std.specs.Prelude.{is_some, count_by, IsTrue}
use Rattle.std.specs.Ordering.{is_le}
use Rattle.std.proofs.lemmas.Map.Keys.{le_from_is_le}
use Rattle.std.proofs.lemmas.List.Sorted.{IsNonDecreasingBy-from_all_adjacent}
use Rattle.std.proofs.lemmas.List.Folds.{list_any_none}
use Rattle.std.proofs.lemmas.List.Filters.{length-filter_both}
use Rattle.hn_store.proofs.NodePlaces.{order_rises}
use Rattle.hn_store.specs.Loss.{is_among}

rises_from_test : (ids : List NodeId) → AllAdjacentBelow (λ x y. is_le (nat_cmp x.0 y.0) ≡ true) ids (length ids) → IsNonDecreasingBy (λ id. id.0) ids
rises_from_test ids adjacent =
    IsNonDecreasingBy-from_all_adjacent (λ (id : NodeId). id.0) ids (λ k d lt. le_from_is_le (get_or ids k d).0 (get_or ids (k + 1) d).0 (adjacent k d lt))

pub rises_from_answer : (ids : List NodeId) (r : Bool) → IsAllAdjacentAnswer (λ x y b. is_le (nat_cmp x.0 y.0) ≡ b) ids r → IsTrue r → IsNonDecreasingBy (λ id. id.0) ids
rises_from_answer ids true adjacent is = rises_from_test ids adjacent
rises_from_answer ids false adjacent is = absurd (cc)

searchable_ids : (ids : List NodeId) (node : ℕ) → IsNonDecreasingBy (λ id. id.0) ids → IsNonDecreasingBy (λ y. ordering_index (nat_cmp y.0 node)) ids
searchable_ids ids node up i j d le lt = order_rises (get_or ids i d).0 (get_or ids j d).0 node (up i j d le lt)

pub among_from_search : (ids : List NodeId) (node : ℕ) (r : Result ℕ ℕ) → IsNonDecreasingBy (λ id. id.0) ids → IsSearchInRange r (length ids)
    → IsBinarySearchResult (λ y. nat_cmp y.0 node) ids r → is_ok r ≡ is_among ids node
among_from_search ids node (Ok i) up within at =
    sym (list_any_at (λ (id : NodeId). id.0 == node) ids i (record { 0 = node }) within
    (eq-eqb (get_or ids i (record { 0 = node })).0 node (ranked (get_or ids i (record { 0 = node })).0 node Equal (sym (at (record { 0 = node }))))))
among_from_search ids node (Err i) up within at =
    let parts = at (searchable_ids ids node up) in
    sym (list_any_none (λ (id : NodeId). id.0 == node) ids (λ k d lt. ne_eqb (get_or ids k d).0 node (λ same.
    elim (cases_lt k i) [
      | inl before ↦ let below : (get_or ids k d).0 < node = ranked (get_or ids k d).0 node Less (sym (parts.0 k d (omega arith) before)) in omega arith
      | inr after ↦ let above : node < (get_or ids k d).0 = ranked (get_or ids k d).0 node Greater (sym (parts.1 k d after lt)) in omega arith
    ])))

-- ---- what changes nothing

same_lost : (reachable : Bool) (now : ℕ) (lost : Option ℕ) → (cond reachable (is_some lost) (is_none lost)) ≡ false → lost_after reachable now lost ≡ lost
same_lost true now None unneeded = refl
same_lost true now (Some moment) unneeded = absurd (cc)
same_lost false now None unneeded = absurd (cc)
same_lost false now (Some moment) unneeded = refl

same_node : (reach : List NodeId) (now : ℕ) (node : HeldNode) → is_to_mark reach node ≡ false → marked_node reach now node ≡ node
same_node reach now node unneeded =
    ap (λ (lost : Option ℕ). record node { stored = record node.stored { lost = lost } }) (same_lost (is_among reach node.id.0) now node.stored.lost unneeded)

pub marked-unneeded : (reach : List NodeId) (now : ℕ) (nodes : List HeldNode) → list_any (is_to_mark reach) nodes ≡ false → map (marked_node reach now) nodes ≡ nodes
marked-unneeded reach now [] unneeded = refl
marked-unneeded reach now (node ∷ nodes) unneeded =
    let both = or_parts (is_to_mark reach node) (list_any (is_to_mark reach) nodes) unneeded in
    let this = same_node reach now node both.0 in
    let others = marked-unneeded reach now nodes both.1 in
    cc

pub remembered-unneeded : (now : ℕ) (nodes : List HeldNode) → list_any (is_forgotten now) nodes ≡ false → filter (λ node. not (is_forgotten now node)) nodes ≡ nodes
remembered-unneeded now [] unneeded = refl
remembered-unneeded now (node ∷ nodes) unneeded =
    let both = or_parts (is_forgotten now node) (list_any (is_forgotten now) nodes) unneeded in
    rw (both.0) (ap (λ others. node ∷ others) (remembered-unneeded now nodes both.1))

-- a mark changes nothing but the moment of loss
ids-marked : (reach : List NodeId) (now : ℕ) (nodes : List HeldNode) → ids_of_held (map (marked_node reach now) nodes) ≡ ids_of_held nodes
ids-marked reach now [] = refl
ids-marked reach now (node ∷ nodes) = ap (λ ids. node.id.0 ∷ ids) (ids-marked reach now nodes)

abbrev IntactNode : HeldNode → Type 0
IntactNode node = IsIntact node.stored

intact_marked : (reach : List NodeId) (now : ℕ) (node : HeldNode) → IntactNode node → IntactNode (marked_node reach now node)
intact_marked reach now node one = record { short = one.short; listed = one.listed; hashed = one.hashed }

pub IsTable-marked : (limit : ℕ) (reach : List NodeId) (now : ℕ) (nodes : List HeldNode) → IsTable (record { limit = limit; entries = nodes })
    → IsTable (record { limit = limit; entries = map (marked_node reach now) nodes })
IsTable-marked limit reach now nodes are = record {
  limit_is = are.limit_is;
  within = rw length-map are.within;
  ascending = subst (IsStrictlySortedBy nat_cmp) (sym (ids-marked reach now nodes)) are.ascending;
  intact = All-map IntactNode (marked_node reach now) nodes (All-weaker IntactNode (λ node. IntactNode (marked_node reach now node)) (intact_marked reach now) nodes are.intact);
}

-- what a write to each element of a list leaves
pub whole_write : {X : Type 0} (xs ys : List X) (n : ℕ) → length ys ≡ length xs → n ≡ length xs → take n (ys ++ drop (length ys) xs) ≡ ys
whole_write xs ys n same is = grind (arith, common_steps)

twice : (b : Bool) → b ≡ not (not b)
twice true = refl
twice false = refl

-- how many are forgotten
pub count_forgotten : (now : ℕ) (nodes : List HeldNode) → length (filter (λ node. not (is_forgotten now node)) nodes) + count_by (is_forgotten now) nodes ≡ length nodes
count_forgotten now nodes =
    let both = length-filter_both (λ (node : HeldNode). not (is_forgotten now node)) (is_forgotten now) (λ node. twice (is_forgotten now node)) nodes in
    rw (length-filter (is_forgotten now) nodes) at both
