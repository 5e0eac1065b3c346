-- Marks of application leave the order as it is.
use Rattle.hn_base.proofs.Names.{◌≡◌, ℕ, ◌-◌, Bool, true, false, cond, leb, List, [], ◌∷◌, map, ap, refl, sym, subst, IsStrictlySortedBy}
use Rattle.hn_base.proofs.AscendingLists.{sorted_parts}
use Rattle.hn_pair.proofs.Names.{Assigned, Pair, marked_applied, assigned_pair, pair_cmp, IsAscending}

of_same_pair : (now : ℕ) (c : Assigned) → assigned_pair (marked_applied now c) ≡ assigned_pair c
of_same_pair now c = by_test (leb 10000 (now - c.since))
  where
    by_test : (b : Bool) → assigned_pair (cond b (record c { applied = true }) c) ≡ assigned_pair c
    by_test true = refl
    by_test false = refl

of_same_pairs : (now : ℕ) (xs : List Assigned) → map assigned_pair (map (marked_applied now) xs) ≡ map assigned_pair xs
of_same_pairs now [] = refl
of_same_pairs now (x ∷ xs) = rw (of_same_pair now x) (ap (λ ps. assigned_pair x ∷ ps) (of_same_pairs now xs))

pub marked_in_order : (now : ℕ) (xs : List Assigned) → IsAscending assigned_pair xs → IsAscending assigned_pair (map (marked_applied now) xs)
marked_in_order now xs up =
    let parts = sorted_parts assigned_pair pair_cmp in
    (parts (map (marked_applied now) xs)).1 (subst (λ (ps : List Pair). IsStrictlySortedBy pair_cmp ps) (sym (of_same_pairs now xs)) ((parts xs).0 up))
