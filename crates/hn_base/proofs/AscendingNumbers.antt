-- Elements in ascending order of a number that each has.
use Rattle.hn_base.proofs.Names.{◌≡◌, ◌<◌, ◌≤◌, ◌+◌, suc, ℕ, Bool, true, false, List, [], ◌∷◌, ◌++◌, length, map, filter, sym, subst, arith, length-append, ◌==◌, AllByRecursion, list_any, Less}
use Rattle.hn_base.proofs.Names.{nat_cmp, nat_cmp_is, ranked, cond_both, ltb-true, le-ltb, eqb-true, map-append, nat_cmp_total}
use Rattle.hn_base.proofs.Names.{nat_lt}
use Rattle.std.specs.List.Sorted.{IsStrictlySortedBy}
use Rattle.hn_base.proofs.BelowAndAbove.{few_apart, fewer_apart, sorted_around}

-- ---- numbers in order

less : (m n : ℕ) → m < n → nat_cmp m n ≡ Less
less m n lt = sym (nat_cmp_is m n Less lt)

pub lt_from_less : (m n : ℕ) → nat_cmp m n ≡ Less → m < n
lt_from_less m n is = ranked m n Less (sym is)

-- ---- some of the elements

module _ {A : Type 0} (number : A → ℕ) where
  each_filter : (P : ℕ → Type 0) (p : A → Bool) (xs : List A) → AllByRecursion P (map number xs) → AllByRecursion P (map number (filter p xs))
  each_filter P p [] all = tt
  each_filter P p (x ∷ xs) all =
      let more = each_filter P p xs all.1 in
      cond_both (p x) (x ∷ filter p xs) (filter p xs) (λ kept. AllByRecursion P (map number kept)) (λ _. (all.0, more)) (λ _. more)

  each_passed : (P : ℕ → Type 0) (p : A → Bool) → ((x : A) → p x ≡ true → P (number x)) → (xs : List A) → AllByRecursion P (map number (filter p xs))
  each_passed P p says [] = tt
  each_passed P p says (x ∷ xs) =
      let more = each_passed P p says xs in
      cond_both (p x) (x ∷ filter p xs) (filter p xs) (λ kept. AllByRecursion P (map number kept)) (λ is. (says x is, more)) (λ _. more)

  pub ascending-filter : (p : A → Bool) (xs : List A) → IsStrictlySortedBy nat_cmp (map number xs) → IsStrictlySortedBy nat_cmp (map number (filter p xs))
  unfolding IsStrictlySortedBy
  ascending-filter p [] up = tt
  ascending-filter p (x ∷ xs) up =
      let more = ascending-filter p xs up.1 in
      cond_both (p x) (x ∷ filter p xs) (filter p xs) (λ kept. IsStrictlySortedBy nat_cmp (map number kept))
      (λ _. (each_filter (λ n. nat_cmp (number x) n ≡ Less) p xs up.0, more)) (λ _. more)

  -- ---- an element at its place, in place of the one with its number

  abbrev pub is_of : ℕ → A → Bool
  is_of n x = number x == n

  abbrev pub is_below : ℕ → A → Bool
  is_below n x = nat_lt (number x) n

  abbrev pub is_above : ℕ → A → Bool
  is_above n x = nat_lt n (number x)

  abbrev pub around : A → List A → List A
  around m xs = filter (is_below (number m)) xs ++ m ∷ filter (is_above (number m)) xs

  pub ascending-around : (m : A) (xs : List A) → IsStrictlySortedBy nat_cmp (map number xs) → IsStrictlySortedBy nat_cmp (map number (around m xs))
  ascending-around m xs up =
      let n = number m in
      let front = filter (is_below n) xs in
      let back = filter (is_above n) xs in
      let joined = sorted_around nat_cmp nat_cmp_total (map number front) n (map number back) (ascending-filter (is_below n) xs up)
      (each_passed (λ k. nat_cmp k n ≡ Less) (is_below n) (λ x is. less (number x) n (ltb-true (number x) n is)) xs)
      (ascending-filter (is_above n) xs up) (each_passed (λ k. nat_cmp n k ≡ Less) (is_above n) (λ x is. less n (number x) (ltb-true n (number x) is)) xs) in
      subst (IsStrictlySortedBy nat_cmp) (sym (map-append number front (m ∷ back))) joined

  -- an element is not both below and above
  apart : (n : ℕ) (x : A) → is_below n x ≡ true → is_above n x ≡ false
  apart n x below = let down = ltb-true (number x) n below in le-ltb n (number x) (omega arith)

  -- where it has the number, it is neither
  neither : (n : ℕ) (x : A) → is_of n x ≡ true → (is_below n x ≡ false) × (is_above n x ≡ false)
  neither n x is = let same : number x ≡ n = eqb-true (number x) n is in (le-ltb (number x) n (omega arith), le-ltb n (number x) (omega arith))

  others_few : (n : ℕ) (xs : List A) → length (filter (is_below n) xs) + length (filter (is_above n) xs) ≤ length xs
  others_few n = few_apart (is_below n) (is_above n) (is_of n) (apart n)

  others_fewer : (n : ℕ) (xs : List A) → list_any (is_of n) xs ≡ true → length (filter (is_below n) xs) + length (filter (is_above n) xs) < length xs
  others_fewer n = fewer_apart (is_below n) (is_above n) (is_of n) (apart n) (neither n)

  length_around : (m : A) (xs : List A) → length (around m xs) ≡ suc (length (filter (is_below (number m)) xs) + length (filter (is_above (number m)) xs))
  length_around m xs = let e = length-append (filter (is_below (number m)) xs) (m ∷ filter (is_above (number m)) xs) in omega arith

  -- there is one more element at most, and as many where one had the number
  pub around-few : (m : A) (xs : List A) → length (around m xs) ≤ suc (length xs)
  around-few m xs = let e = length_around m xs in let few = others_few (number m) xs in omega arith

  pub around-fewer : (m : A) (xs : List A) → list_any (is_of (number m)) xs ≡ true → length (around m xs) ≤ length xs
  around-fewer m xs has = let e = length_around m xs in let few = others_fewer (number m) xs has in omega arith
