-- Numbers in digits: how large they are, and that a written numeral is read as its number.
use Rattle.hn_base.proofs.Names.{◌≡◌, ℕ, zero, suc, ◌+◌, ◌*◌, ◌/◌, ◌%◌, ◌^◌, ◌<◌, ◌≤◌, List, [], ◌∷◌, ◌++◌, length, get_or, map, Option, Some, None, refl, sym, ap, subst, ◌∙◌, inl, inr, arith, IfNone}
use Rattle.hn_base.proofs.Names.{digit_value, digit_char, decimal, AllDigits, digits_value, digits_value_after, length-decimal-le, map-append, length-map, ne_eqb, cases_lt, nat_tests}
use Rattle.hn_base.proofs.Names.{pow-le-pow_right, mod-eq_of_lt, numeral, IsShortNumeral, Lacks}
use Rattle.std.specs.Int.Digits.{digits_of, number_from_digits_after, AllBelowBase}
use Rattle.std.proofs.lemmas.Fmt.{decimal_is_IsNumeral}
use Rattle.std.proofs.lemmas.Int.Digits.{digits_value-lt, digits_of_step, length-digits_of_step, length-digits_of-le, all_below_base_digits_of, number_digits_of}
use Rattle.std.proofs.Math.Nat.{mul-le-mul_left, pow-le-pow_left, div-eq_of_lt, lt-mul-div-succ}

-- ---- reading

-- the value of `k` digits at most
pub digits_below : (radix : ℕ) (ds : List ℕ) (k : ℕ) → radix ≤ 16 → length ds ≤ k → AllDigits radix ds → digits_value radix ds < 16 ^ k
digits_below radix ds k small short h =
    let lt = digits_value-lt radix ds h in
    let base : radix ^ length ds ≤ 16 ^ length ds = pow-le-pow_left small (length ds) in
    let more : 16 ^ length ds ≤ 16 ^ k = pow-le-pow_right (omega arith) short in
    omega arith

AllDigits_at : (radix : ℕ) (text : List ℕ) (i : ℕ) → AllDigits radix text → i < length text → digit_value (get_or text i 0) < radix
AllDigits_at radix [] i h lt = absurd (omega arith)
AllDigits_at radix (c ∷ cs) zero h lt = h.0
AllDigits_at radix (c ∷ cs) (suc i) h lt = AllDigits_at radix cs i h.1 (omega arith)

-- one digit more, where there are 31 at most
pub step_fits : (radix : ℕ) (ds : List ℕ) (value d : ℕ) → radix ≤ 16 → length ds ≤ 31 → AllDigits radix ds → value ≡ digits_value radix ds → d < radix → value * radix + d < 2 ^ 128
step_fits radix ds value d small short h is lt =
    let below : digits_value radix ds < 16 ^ 31 = digits_below radix ds 31 small short h in
    let product : value * radix ≤ value * 16 = mul-le-mul_left value small in
    omega arith

-- a text with another byte than digits is no numeral
pub not_numeral : (radix most : ℕ) (text : List ℕ) (i : ℕ) → i < length text → (digit_value (get_or text i 0) < radix → ⊥) → (n : ℕ) → IsShortNumeral radix most text n → ⊥
not_numeral radix most text i lt other n h = other (AllDigits_at radix text i h.digits.1 lt)

pub IfNone_since : {A : Type 0} (r : Option A) (P : Type 0) → P → IfNone r P
IfNone_since None P p = p
IfNone_since (Some x) P p = tt

-- a text writes one number
pub same_number : (base most : ℕ) (text : List ℕ) (m n : ℕ) → IsShortNumeral base most text m → IsShortNumeral base most text n → m ≡ n
same_number base most text m n h k = sym h.value ∙ k.value

pub number_below : (base most : ℕ) (text : List ℕ) (n k : ℕ) → base ≤ 16 → most ≤ k → IsShortNumeral base most text n → n < 16 ^ k
number_below base most text n k small few h = omega (arith, h.value, digits_below base text k small (omega (arith, h.short)) h.digits.1)

-- what is no digit of the base stands in no numeral
pub Lacks-digits : (base byte : ℕ) (text : List ℕ) → base ≤ digit_value byte → AllDigits base text → Lacks byte text
Lacks-digits base byte [] none h = tt
Lacks-digits base byte (c ∷ cs) none h = (λ same. absurd (omega (arith, h.0, ap digit_value same)), Lacks-digits base byte cs none h.1)

-- ---- writing

digit_value-digit_char : (d : ℕ) → d < 16 → digit_value (digit_char d) ≡ d
digit_value-digit_char d h = grind (arith, nat_tests)

AllDigits-digit_chars : (base : ℕ) (ds : List ℕ) → base ≤ 16 → AllBelowBase base ds → AllDigits base (map digit_char ds)
AllDigits-digit_chars base [] small h = tt
AllDigits-digit_chars base (d ∷ ds) small h = (rw (digit_value-digit_char d (omega (arith, h.0))) h.0, AllDigits-digit_chars base ds small h.1)

value_of_digit_chars : (base n : ℕ) (ds : List ℕ) → base ≤ 16 → AllBelowBase base ds → digits_value_after base n (map digit_char ds) ≡ number_from_digits_after base n ds
value_of_digit_chars base n [] small h = refl
value_of_digit_chars base n (d ∷ ds) small h =
    ap (λ k. digits_value_after base (n * base + k) (map digit_char ds)) (digit_value-digit_char d (omega (arith, h.0))) ∙ value_of_digit_chars base (n * base + d) ds small h.1

numeral-positive : (base n : ℕ) → 0 < n → numeral base n ≡ map digit_char (digits_of base n)
numeral-positive base n some = rw (ne_eqb n 0 (λ e. absurd (omega arith))) refl

pub numeral_one : (base n : ℕ) → 2 ≤ base → n < base → numeral base n ≡ digit_char n ∷ []
numeral_one base zero low small = refl
numeral_one base (suc m) low small =
    let quotient : suc m / base ≡ 0 = div-eq_of_lt small in
    let remainder : suc m % base ≡ suc m = mod-eq_of_lt small in
    let step = digits_of_step base (suc m) low (omega arith) in
    let tail : digits_of base (suc m / base) ++ suc m % base ∷ [] ≡ suc m ∷ [] = rw (quotient, remainder) refl in
    numeral-positive base (suc m) (omega arith) ∙ ap (map digit_char) (step ∙ tail)

div_some : (base n : ℕ) → 2 ≤ base → base ≤ n → 0 < n / base
div_some base n low large =
    elim (cases_lt 0 (n / base)) [
      | inl some ↦ some
      | inr none ↦
          let zero_times : n / base ≡ 0 = omega arith in
          let above : n < base * (n / base + 1) = lt-mul-div-succ n (omega arith) in
          let below : n < base * (0 + 1) = subst (λ q. n < base * (q + 1)) zero_times above in
          absurd (omega arith)
    ]

pub numeral_step : (base n : ℕ) → 2 ≤ base → base ≤ n → numeral base n ≡ numeral base (n / base) ++ digit_char (n % base) ∷ []
numeral_step base n low large =
    let some : 0 < n / base = div_some base n low large in
    numeral-positive base n (omega arith) ∙ ap (map digit_char) (digits_of_step base n low (omega arith))
    ∙ map-append digit_char (digits_of base (n / base)) (n % base ∷ []) ∙ ap (λ t. t ++ digit_char (n % base) ∷ []) (sym (numeral-positive base (n / base) some))

pub numeral_is_short : (base most n : ℕ) → 2 ≤ base → base ≤ 16 → 0 < most → n < base ^ most → IsShortNumeral base most (numeral base n) n
numeral_is_short base most zero low high some fits = record { digits = (omega arith, (omega arith, tt)); short = omega arith; value = omega arith }
numeral_is_short base most (suc m) low high some fits =
    let ds = digits_of base (suc m) in
    let below = all_below_base_digits_of base (suc m) low in
    let nonempty = length-digits_of_step base (suc m) low (omega arith) in
    let short = length-digits_of-le base most (suc m) low fits in
    let len = length-map ds digit_char in
    subst (λ t. IsShortNumeral base most t (suc m)) (sym (numeral-positive base (suc m) (omega arith)))
    (record {
      digits = (omega arith, AllDigits-digit_chars base ds high below);
      short = omega arith;
      value = value_of_digit_chars base 0 ds high below ∙ number_digits_of base (suc m) low;
    })

-- what `{}` writes of a number
pub decimal_is_short : (most n : ℕ) → 0 < most → n < 10 ^ most → n < 2 ^ 64 → IsShortNumeral 10 most (decimal n) n
decimal_is_short most n some fits small =
    let is = decimal_is_IsNumeral n small in
    record { digits = is.0; short = length-decimal-le most n some fits small; value = is.1 }
