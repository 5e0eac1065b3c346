-- What is decided: it is so, or it is not.
use Rattle.hn_base.proofs.Names.{◌≡◌, ◌⊎◌, ℕ, ◌≤◌, List, [], ◌∷◌, Contains, sym, subst, inl, inr, arith, cases_lt, All-contains, IsByte}
use Rattle.hn_base.proofs.Names.{All}
use Rattle.hn_base.proofs.AscendingLists.{Contains-head, Contains-tail, Contains-cases, nothing_in}
use Rattle.hn_base.proofs.Elements.{all_of}

-- it is so, or not
abbrev pub Decided : Type 0 → Type 0
Decided P = P ⊎ (¬ P)

pub both_decided : {A B : Type 0} → Decided A → Decided B → Decided (A × B)
both_decided (inl a) (inl b) = inl (a, b)
both_decided (inl a) (inr none) = inr (λ h. none h.1)
both_decided (inr none) b = inr (λ h. none h.0)

-- one element is so, or none is
pub one_or_none : {X : Type 0} (P : X → Type 0) (xs : List X) → ((x : X) → Contains xs x → Decided (P x)) → ((x : X) × Contains xs x × P x) ⊎ ((x : X) → Contains xs x → ¬ (P x))
one_or_none P [] decide = inr (λ x h. absurd (nothing_in x h))
one_or_none {X} P (x ∷ xs) decide = go (decide x (Contains-head x xs)) (one_or_none P xs (λ y h. decide y (Contains-tail x xs y h)))
  where
    go : Decided (P x) → ((y : X) × Contains xs y × P y) ⊎ ((y : X) → Contains xs y → ¬ (P y)) → ((y : X) × Contains (x ∷ xs) y × P y) ⊎ ((y : X) → Contains (x ∷ xs) y → ¬ (P y))
    go (inl is) rest = inl (x, Contains-head x xs, is)
    go (inr not) (inl (y, there, is)) = inl (y, Contains-tail x xs y there, is)
    go (inr not) (inr none) = inr (λ y h is. elim (Contains-cases x xs y h) [
      | inl same ↦ not (subst P (sym same) is)
      | inr later ↦ none y later is
    ])

-- numbers are all bytes, or not
pub bytes_or_not : (bytes : List ℕ) → Decided (All IsByte bytes)
bytes_or_not bytes = elim (one_or_none (λ b. 256 ≤ b) bytes (λ b there. elim (cases_lt b 256) [ inl less ↦ inr (λ more. omega (arith, less, more)) | inr more ↦ inl more ])) [
  | inl (b, there, more) ↦ inr (λ all. let less = All-contains IsByte bytes b all there in omega (arith, less, more))
  | inr none ↦ inl (all_of IsByte bytes (λ b there. elim (cases_lt b 256) [ inl less ↦ less | inr more ↦ absurd (none b there more) ]))
]
