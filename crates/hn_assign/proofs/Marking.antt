-- Marks of application leave pairs, and the order, as they are.
use Rattle.hn_base.proofs.Names.{◌≡◌, ℕ, ◌-◌, Bool, true, false, cond, leb, List, [], ◌∷◌, map, ap, refl, sym, subst, IsStrictlySortedBy}
use Rattle.hn_assign.proofs.Names.{sorted_parts, Assigned, Pair, marked_applied, assigned_pair, pair_cmp, IsAscending}

-- what is marked is the assignment, apart from the mark
pub marked_is : (now : ℕ) (c : Assigned) → record (marked_applied now c) { applied = false } ≡ record c { applied = false }
marked_is now c = by_test (leb 10000 (now - c.since))
  where
    by_test : (b : Bool) → record (cond b (record c { applied = true }) c) { applied = false } ≡ record c { applied = false }
    by_test true = refl
    by_test false = refl

pub marked_pair : (now : ℕ) (c : Assigned) → assigned_pair (marked_applied now c) ≡ assigned_pair c
marked_pair now c = ap assigned_pair (marked_is now c)

pairs_marked : (now : ℕ) (xs : List Assigned) → map assigned_pair (map (marked_applied now) xs) ≡ map assigned_pair xs
pairs_marked now [] = refl
pairs_marked now (x ∷ xs) = rw (marked_pair now x) (ap (λ ps. assigned_pair x ∷ ps) (pairs_marked now xs))

pub ascending_marked : (now : ℕ) (xs : List Assigned) → IsAscending assigned_pair xs → IsAscending assigned_pair (map (marked_applied now) xs)
ascending_marked now xs up =
    (sorted_parts assigned_pair pair_cmp (map (marked_applied now) xs)).1
    (subst (λ (ps : List Pair). IsStrictlySortedBy pair_cmp ps) (sym (pairs_marked now xs)) ((sorted_parts assigned_pair pair_cmp xs).0 up))
