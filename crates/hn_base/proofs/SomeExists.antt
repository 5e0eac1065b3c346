-- What cannot be missing, and how it is found. A split into cases is free, whatever is asked.
use Rattle.hn_base.proofs.Names.{◌≡◌, ◌↔◌, ◌⊎◌, ℕ, ◌<◌, ◌≤◌, suc, zero, List, [], ◌∷◌, Contains, Option, None, Some, Ordering, sym, subst, arith, inl, inr, IsStrictlySortedBy, cases_lt, sorted_tail}
use Rattle.hn_base.proofs.Names.{Some! }
use Rattle.hn_base.proofs.AscendingLists.{Contains-head, Contains-tail, Contains-cases, below_head, nothing_in}
use Rattle.hn_base.proofs.AscendingMade.{sorted_cons, sorted_none}

-- ---- one after another, and by cases

-- what is there
pub some_is : {A : Type 0} (P : A → Type 0) (x : A) → P x → Some! P
some_is P x holds none = none x holds

-- what there is because of something that is there
pub some_then : {A B : Type 0} {P : A → Type 0} {Q : B → Type 0} → Some! P → ((x : A) → P x → Some! Q) → Some! Q
some_then some next none = some (λ x holds. next x holds none)

-- two things that are there
pub some_both : {A B : Type 0} {P : A → Type 0} {Q : B → Type 0} → Some! P → Some! Q → Some! {A = A × B} (λ both. P both.0 × Q both.1)
some_both p q none = p (λ x holds. q (λ y also. none (x, y) (holds, also)))

-- it is so, or not
pub some_by : {A : Type 0} {P : A → Type 0} (C : Type 0) → (C → Some! P) → (¬ C → Some! P) → Some! P
some_by C where_so where_not none = where_not (λ so. where_so so none) none

-- ---- numbers

-- the first number below a bound that has a fact, where each before it has another; or each below the bound has that
abbrev pub IsFirstIfAny : (ℕ → Type 0) → (ℕ → Type 0) → ℕ → Option ℕ → Type 0
IsFirstIfAny P Q n None = (j : ℕ) → j < n → Q j
IsFirstIfAny P Q n (Some k) = (k < n) × P k × ((j : ℕ) → j < k → Q j)

one_more : (Q : ℕ → Type 0) (n : ℕ) → ((j : ℕ) → j < n → Q j) → Q n → (j : ℕ) → j < suc n → Q j
one_more Q n all last j below = elim (cases_lt j n) [
  | inl before ↦ all j before
  | inr past ↦ let same : n ≡ j = omega (arith, below, past) in subst Q same last
]

-- where no number lacks both
pub some_first : (P Q : ℕ → Type 0) → ((k : ℕ) → ¬ (P k) → ¬ (Q k) → ⊥) → (n : ℕ) → Some! (IsFirstIfAny P Q n)
some_first P Q either zero = some_is (IsFirstIfAny P Q zero) None (λ j below. absurd (omega (arith, below)))
some_first P Q either (suc n) = some_then (some_first P Q either n) next
  where
    next : (o : Option ℕ) → IsFirstIfAny P Q n o → Some! (IsFirstIfAny P Q (suc n))
    next (Some k) first none = none (Some k) (omega (arith, first.0), first.1, first.2)
    next None all none = either n (λ p. none (Some n) (omega arith, p, all)) (λ q. none None (one_more Q n all q))

-- a least number that has a fact, where some number has it
pub some_least : (P : ℕ → Type 0) (n : ℕ) → P n → Some! (λ (k : ℕ). (k ≤ n) × P k × ((j : ℕ) → P j → k ≤ j))
some_least P n holds = some_then (some_first P (λ j. ¬ (P j)) (λ k not never. never not) (suc n)) least
  where
    least : (o : Option ℕ) → IsFirstIfAny P (λ j. ¬ (P j)) (suc n) o → Some! (λ (k : ℕ). (k ≤ n) × P k × ((j : ℕ) → P j → k ≤ j))
    least None all none = all n (omega arith) holds
    least (Some k) first none = none k (omega (arith, first.0), first.1, λ j also. elim (cases_lt j k) [ inl before ↦ absurd (first.2 j before also) | inr past ↦ past ])

-- ---- lists

-- each element of a list has a fact, or not
pub some_decided : {A B : Type 0} {Q : B → Type 0} (P : A → Type 0) (xs : List A) → (((x : A) → Contains xs x → P x ⊎ ¬ (P x)) → Some! Q) → Some! Q
some_decided P [] next = next (λ x h. absurd (nothing_in x h))
some_decided {A} P (y ∷ xs) next = some_decided P xs (λ rest. some_by (P y) (λ so. next (with_first rest (inl so))) (λ not. next (with_first rest (inr not))))
  where
    with_first : ((x : A) → Contains xs x → P x ⊎ ¬ (P x)) → P y ⊎ ¬ (P y) → (x : A) → Contains (y ∷ xs) x → P x ⊎ ¬ (P x)
    with_first rest first x h = elim (Contains-cases y xs x h) [ inl same ↦ subst (λ (z : A). P z ⊎ ¬ (P z)) same first | inr later ↦ rest x later ]

-- the elements of a list that have a fact, in ascending order
abbrev pub IsPart : {A : Type 0} → (A → A → Ordering) → (A → Type 0) → List A → List A → Type 0
IsPart {A} R P xs ys = IsStrictlySortedBy R ys × ((x : A) → Contains ys x ↔ Contains xs x × P x)

module _ {A : Type 0} (R : A → A → Ordering) (P : A → Type 0) where
  part_with : (y : A) (xs ys : List A) → IsStrictlySortedBy R (y ∷ xs) → IsPart R P xs ys → P y → IsPart R P (y ∷ xs) (y ∷ ys)
  part_with y xs ys up part holds = (
    sorted_cons R y ys (λ x h. below_head R y xs up x ((part.1 x).0 h).0) part.0,
    λ x. (
      λ h. elim (Contains-cases y ys x h) [
        | inl same ↦ (subst (Contains (y ∷ xs)) same (Contains-head y xs), subst P same holds)
        | inr later ↦ let was = (part.1 x).0 later in (Contains-tail y xs x was.0, was.1)
      ],
      λ h. elim (Contains-cases y xs x h.0) [
        | inl same ↦ subst (Contains (y ∷ ys)) same (Contains-head y ys)
        | inr later ↦ Contains-tail y ys x ((part.1 x).1 (later, h.1))
      ],
    ),
  )

  part_without : (y : A) (xs ys : List A) → IsPart R P xs ys → ¬ (P y) → IsPart R P (y ∷ xs) ys
  part_without y xs ys part not = (
    part.0,
    λ x. (
      λ h. let was = (part.1 x).0 h in (Contains-tail y xs x was.0, was.1),
      λ h. elim (Contains-cases y xs x h.0) [
        | inl same ↦ absurd (not (subst P (sym same) h.1))
        | inr later ↦ (part.1 x).1 (later, h.1)
      ],
    ),
  )

  pub some_part : (xs : List A) → IsStrictlySortedBy R xs → Some! (IsPart R P xs)
  some_part [] up = some_is (IsPart R P []) [] (sorted_none R, λ x. (λ h. absurd (nothing_in x h), λ h. absurd (nothing_in x h.0)))
  some_part (y ∷ xs) up =
      some_then (some_part xs (sorted_tail R y xs up)) (λ ys part. some_by (P y) (λ holds none. none (y ∷ ys) (part_with y xs ys up part holds)) (λ not none. none ys (part_without y xs ys part not)))

-- what belongs to each element of a list, in order
abbrev pub IsEach : {A B : Type 0} → (A → B → Type 0) → List A → List B → Type 0
IsEach Q [] [] = Unit {0}
IsEach Q [] (y ∷ ys) = ⊥
IsEach Q (x ∷ xs) [] = ⊥
IsEach Q (x ∷ xs) (y ∷ ys) = Q x y × IsEach Q xs ys

pub some_each : {A B : Type 0} (Q : A → B → Type 0) (xs : List A) → ((x : A) → Contains xs x → Some! (Q x)) → Some! (IsEach Q xs)
some_each Q [] each none = none [] tt
some_each Q (x ∷ xs) each none = each x (Contains-head x xs) (λ y is. some_each Q xs (λ z h. each z (Contains-tail x xs z h)) (λ ys are. none (y ∷ ys) (is, are)))
