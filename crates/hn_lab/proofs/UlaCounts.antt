-- How many routers of a list have a generated prefix.
use Rattle.hn_base.proofs.Names.{◌≡◌, ◌∙◌, ◌⊎◌, ◌<◌, ◌≤◌, ◌+◌, ℕ, Bool, true, false, cond, IsTrue, List, [], ◌∷◌, ◌++◌, take, length, get_or, Contains, filter, refl, sym, ap, subst, inl, inr, arith}
use Rattle.hn_base.proofs.Names.{count_by, false≢true, append-nil, filter_more, sum_by-cons}
use Rattle.hn_lab.proofs.Names.{◌↔◌, nothing_in, Contains-head, Contains-tail, Contains-cases, Member, HasGenerated, HaveGenerated}

-- ---- one router more

pub one_more : (ms : List Member) (m : Member) (n : ℕ) → HasGenerated m → HaveGenerated ms n → HaveGenerated (ms ++ m ∷ []) (n + 1)
one_more [] m n has have = inl (has, (n, refl, have))
one_more (x ∷ xs) m n has (inl (first, (rest, is, later))) = inl (first, (rest + 1, omega (arith, is), one_more xs m rest has later))
one_more (x ∷ xs) m n has (inr (lacks, later)) = inr (lacks, one_more xs m n has later)

pub none_more : (ms : List Member) (m : Member) (n : ℕ) → ¬ HasGenerated m → HaveGenerated ms n → HaveGenerated (ms ++ m ∷ []) n
none_more [] m n lacks have = inr (lacks, have)
none_more (x ∷ xs) m n lacks (inl (first, (rest, is, later))) = inl (first, (rest, is, none_more xs m rest lacks later))
none_more (x ∷ xs) m n lacks (inr (first, later)) = inr (first, none_more xs m n lacks later)

-- ---- the count by a test

pub counted_by : (has : Member → Bool) (ms : List Member) (n : ℕ) → ((s : Member) → Contains ms s → IsTrue (has s) ↔ HasGenerated s) → HaveGenerated ms n → n ≡ count_by has ms
counted_by has [] n is have = have
counted_by has (x ∷ xs) n is (inl (first, (rest, n_is, later))) =
    let test : has x ≡ true = (is x (Contains-head x xs)).1 first in
    let others = counted_by has xs rest (λ s there. is s (Contains-tail x xs s there)) later in
    let more : count_by has (x ∷ xs) ≡ 1 + count_by has xs = sum_by-cons (λ s. cond (has s) 1 0) x xs ∙ ap (λ b. cond b 1 0 + count_by has xs) test in
    omega (arith, n_is, others, more)
counted_by has (x ∷ xs) n is (inr (lacks, later)) =
    let others = counted_by has xs n (λ s there. is s (Contains-tail x xs s there)) later in
    let test : has x ≡ false = fails (has x) (λ yes. lacks ((is x (Contains-head x xs)).0 yes)) in
    let more : count_by has (x ∷ xs) ≡ 0 + count_by has xs = sum_by-cons (λ s. cond (has s) 1 0) x xs ∙ ap (λ b. cond b 1 0 + count_by has xs) test in
    omega (arith, others, more)
  where
    fails : (b : Bool) → ¬ (b ≡ true) → b ≡ false
    fails true not = absurd (not refl)
    fails false not = refl

-- some router has one, or none has
pub some_or_none : (ms : List Member) (n : ℕ) → HaveGenerated ms n → ((m : Member) × Contains ms m × HasGenerated m × (1 ≤ n)) ⊎ (((s : Member) → Contains ms s → ¬ HasGenerated s) × (n ≡ 0))
some_or_none [] n have = inr (λ s there. absurd (nothing_in s there), have)
some_or_none (x ∷ xs) n (inl (first, (rest, is, later))) = inl (x, Contains-head x xs, first, omega (arith, is))
some_or_none (x ∷ xs) n (inr (lacks, later)) =
    elim (some_or_none xs n later) [
      | inl found ↦ inl (found.0, Contains-tail x xs found.0 found.1, found.2, found.3)
      | inr none ↦ inr (
        λ s there. elim (Contains-cases x xs s there) [
          | inl same ↦ subst (λ (m : Member). ¬ HasGenerated m) same lacks
          | inr further ↦ none.0 s further
        ],
        none.1,
      )
    ]

-- ---- a test that passes no more than another

fewer_by : (a b : Bool) (m n : ℕ) → (a ≡ true → b ≡ true) → m ≤ n → cond a 1 0 + m ≤ cond b 1 0 + n
fewer_by true true m n to less = omega (arith, less)
fewer_by true false m n to less = absurd (false≢true (to refl))
fewer_by false true m n to less = omega (arith, less)
fewer_by false false m n to less = omega (arith, less)

pub fewer : {X : Type 0} (f g p : X → Bool) (xs : List X) → ((x : X) → Contains xs x → p x ≡ true → f x ≡ true → g x ≡ true) → count_by f (filter p xs) ≤ count_by g xs
fewer f g p [] to = omega arith
fewer {X} f g p (x ∷ xs) to = go (fewer f g p xs (λ y there. to y (Contains-tail x xs y there))) (p x) refl
  where
    all_is : count_by g (x ∷ xs) ≡ cond (g x) 1 0 + count_by g xs
    all_is = sum_by-cons (λ y. cond (g y) 1 0) x xs

    go : count_by f (filter p xs) ≤ count_by g xs → (b : Bool) → p x ≡ b → count_by f (cond b (x ∷ filter p xs) (filter p xs)) ≤ count_by g (x ∷ xs)
    go rest true e =
        let more = fewer_by (f x) (g x) (count_by f (filter p xs)) (count_by g xs) (to x (Contains-head x xs) e) rest in
        let is : count_by f (x ∷ filter p xs) ≡ cond (f x) 1 0 + count_by f (filter p xs) = sum_by-cons (λ y. cond (f y) 1 0) x (filter p xs) in
        omega (arith, more, is, all_is)
    go rest false e =
        let more = fewer_by false (g x) (count_by f (filter p xs)) (count_by g xs) (λ h. absurd (false≢true h)) rest in
        omega (arith, more, all_is)

-- ---- the walk over a list

pub step_counts : (p : Member → Bool) (ms : List Member) (i n : ℕ) (d : Member) → i < length ms → IsTrue (p (get_or ms i d)) → HasGenerated (get_or ms i d)
    → HaveGenerated (filter p (take i ms)) n → HaveGenerated (filter p (take (i + 1) ms)) (n + 1)
step_counts p ms i n d in_range passes has have =
    let is : filter p (take (i + 1) ms) ≡ filter p (take i ms) ++ get_or ms i d ∷ [] =
    filter_more p ms i d in_range ∙ ap (λ b. filter p (take i ms) ++ cond b (get_or ms i d ∷ []) []) passes in
    subst (λ (xs : List Member). HaveGenerated xs (n + 1)) (sym is) (one_more (filter p (take i ms)) (get_or ms i d) n has have)

pub step_passes : (p : Member → Bool) (ms : List Member) (i n : ℕ) (d : Member) → i < length ms → ¬ (IsTrue (p (get_or ms i d)) × HasGenerated (get_or ms i d))
    → HaveGenerated (filter p (take i ms)) n → HaveGenerated (filter p (take (i + 1) ms)) n
step_passes p ms i n d in_range not have = go (p (get_or ms i d)) refl
  where
    is : (b : Bool) → p (get_or ms i d) ≡ b → filter p (take (i + 1) ms) ≡ filter p (take i ms) ++ cond b (get_or ms i d ∷ []) []
    is b e = filter_more p ms i d in_range ∙ ap (λ b. filter p (take i ms) ++ cond b (get_or ms i d ∷ []) []) e

    go : (b : Bool) → p (get_or ms i d) ≡ b → HaveGenerated (filter p (take (i + 1) ms)) n
    go true e = subst (λ (xs : List Member). HaveGenerated xs n) (sym (is true e)) (none_more (filter p (take i ms)) (get_or ms i d) n (λ has. not (e, has)) have)
    go false e = subst (λ (xs : List Member). HaveGenerated xs n) (sym (is false e ∙ append-nil (filter p (take i ms)))) have
