-- The front of a list that a `for` has seen.
use Rattle.hn_base.proofs.Names.{◌≡◌, ℕ, ◌+◌, ◌<◌, ◌⊎◌, List, length, take, get_or, Contains, subst, Contains-push_cases}
use Rattle.hn_assign.proofs.Names.{front_more}

pub front_cases : {A : Type 0} (xs : List A) (i : ℕ) (x a : A) → i < length xs → x ≡ get_or xs i x → Contains (take (i + 1) xs) a → Contains (take i xs) a ⊎ (x ≡ a)
front_cases xs i x a within is h = Contains-push_cases (take i xs) x a (subst (λ ys. Contains ys a) (front_more xs i x within is) h)
