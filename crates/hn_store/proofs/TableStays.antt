-- That a changed table is one still.
use Rattle.hn_base.proofs.Names.{◌≡◌, ◌<◌, ◌≤◌, ◌⊎◌, ℕ, Bool, List, [], ◌∷◌, length, map, filter, set, sym, subst, arith, insert, All, AllByRecursion, Less, nat_cmp, length-set, length-insert}
use Rattle.hn_base.proofs.Names.{All-append, All-nil, All-cons, All-filter, length-filter, count_by-le-length, node_cmp}
use Rattle.hn_store.proofs.Names.{nat_lt, Stored, HeldNode, IsTable, IsIntact, ids_of_held, entry, put, IsPlaceOf, IsGapFor}
use Rattle.std.specs.List.Sorted.{IsStrictlySortedBy}
use Rattle.hn_store.proofs.NodePlaces.{put-at, put-in}
use Rattle.hn_base.proofs.AscendingNumbers.{ascending-filter, ascending-around}

-- ---- nodes in the order of their identifiers

pub ascending-put : (id : ℕ) (stored : Stored) (xs : List HeldNode) → IsStrictlySortedBy nat_cmp (ids_of_held xs) → IsStrictlySortedBy nat_cmp (ids_of_held (put id stored xs))
ascending-put id stored xs up = ascending-around (λ (node : HeldNode). node.id.0) (entry id stored) xs up

-- ---- the facts of a table

abbrev pub IntactNode : HeldNode → Type 0
IntactNode node = IsIntact node.stored

intact-put : (id : ℕ) (stored : Stored) (xs : List HeldNode) → IsIntact stored → All IntactNode xs → All IntactNode (put id stored xs)
intact-put id stored xs one all =
    All-append IntactNode (filter (λ x. nat_lt x.id.0 id) xs) (entry id stored ∷ filter (λ x. nat_lt id x.id.0) xs)
    (All-filter (λ x. nat_lt x.id.0 id) IntactNode xs all)
    (All-cons IntactNode (entry id stored) (filter (λ x. nat_lt id x.id.0) xs) one (All-filter (λ x. nat_lt id x.id.0) IntactNode xs all))

pub are_put : (limit id : ℕ) (stored : Stored) (xs ys : List HeldNode) → IsTable (record { limit = limit; entries = xs }) → IsIntact stored
    → ys ≡ put id stored xs → length ys ≤ limit → IsTable (record { limit = limit; entries = ys })
are_put limit id stored xs ys are one is within = record {
  limit_is = are.limit_is;
  within = within;
  ascending = subst (λ (zs : List HeldNode). IsStrictlySortedBy nat_cmp (ids_of_held zs)) (sym is) (ascending-put id stored xs are.ascending);
  intact = subst (All IntactNode) (sym is) (intact-put id stored xs one are.intact);
}

-- another entry in the place of a node
pub IsTable-set : (limit id i : ℕ) (stored : Stored) (xs : List HeldNode) → IsTable (record { limit = limit; entries = xs }) → IsPlaceOf xs id i → IsIntact stored
    → IsTable (record { limit = limit; entries = set xs i (entry id stored) })
IsTable-set limit id i stored xs are p one =
    are_put limit id stored xs (set xs i (entry id stored)) are one (put-at xs id i stored p) (rw length-set are.within)

-- an entry where there was none
pub IsTable-insert : (limit id i : ℕ) (stored : Stored) (xs : List HeldNode) → IsTable (record { limit = limit; entries = xs }) → IsGapFor xs id i → length xs < limit → IsIntact stored
    → IsTable (record { limit = limit; entries = insert xs i (entry id stored) })
IsTable-insert limit id i stored xs are g room one =
    let len = length-insert xs i (entry id stored) g.within in
    are_put limit id stored xs (insert xs i (entry id stored)) are one (put-in xs id i stored g) (omega arith)

-- no nodes
pub IsTable-none : (limit : ℕ) → (limit ≡ 256) ⊎ (limit ≡ 1024) → IsTable (record { limit = limit; entries = [] })
unfolding IsStrictlySortedBy
IsTable-none limit is = record { limit_is = is; within = omega arith; ascending = tt; intact = All-nil IntactNode }

-- some of the nodes
pub IsTable-filter : (limit : ℕ) (p : HeldNode → Bool) (xs : List HeldNode) → IsTable (record { limit = limit; entries = xs }) → IsTable (record { limit = limit; entries = filter p xs })
IsTable-filter limit p xs are = record {
  limit_is = are.limit_is;
  within = omega (arith, length-filter p xs, count_by-le-length p xs, are.within);
  ascending = ascending-filter (λ (node : HeldNode). node.id.0) p xs are.ascending;
  intact = All-filter p IntactNode xs are.intact;
}

-- ---- the identifiers as they are

above_ids : (x : HeldNode) (xs : List HeldNode) → AllByRecursion (λ id. nat_cmp x.id.0 id ≡ Less) (ids_of_held xs) → AllByRecursion (λ id. node_cmp x.id id ≡ Less) (map (λ node. node.id) xs)
above_ids x [] above = tt
above_ids x (y ∷ ys) above = (above.0, above_ids x ys above.1)

pub ascending-ids : (xs : List HeldNode) → IsStrictlySortedBy nat_cmp (ids_of_held xs) → IsStrictlySortedBy node_cmp (map (λ node. node.id) xs)
unfolding IsStrictlySortedBy
ascending-ids [] up = tt
ascending-ids (x ∷ xs) up = (above_ids x xs up.0, ascending-ids xs up.1)
