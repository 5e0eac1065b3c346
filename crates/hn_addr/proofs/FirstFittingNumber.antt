-- The first number that fits.
use Rattle.hn_base.proofs.Names.{◌≡◌, ◌↔◌, ℕ, ◌+◌, ◌-◌, ◌^◌, ◌<◌, ◌≤◌, List, Option, Some, None, subst, inl, inr, arith, MatchOption, unwrap_or, cases_lt, PlainPrefix}
use Rattle.hn_addr.proofs.Names.{Assigned, PlainView, OwnAddress, NumberFits, IsFirstFit, start_of, ahead, IsFirstAround, HasNoneFrom, AreOthers, Others}
use Rattle.hn_addr.specs.Numbers.{FitsBeside, IsFirstFrom}
use Rattle.hn_addr.proofs.CyclicOrder.{ahead_from, ahead_before, start_low, start_high, same_ahead}
use Rattle.hn_addr.proofs.OtherAddresses.{other_there, other_from}

-- ---- one number after the other

module _ (others : Others) (list : List OwnAddress) (prefix : PlainPrefix) where
  -- none fits from a number on, before another
  abbrev pub HasNoneBetween : ℕ → ℕ → Type 0
  HasNoneBetween from to = (j : ℕ) → from ≤ j → j < to → ¬ FitsBeside others list prefix j

  pub none_at_first : (from : ℕ) → HasNoneBetween from from
  none_at_first from j low high = absurd (omega (arith, low, high))

  pub one_further : (from k : ℕ) → HasNoneBetween from k → ¬ FitsBeside others list prefix k → HasNoneBetween from (k + 1)
  one_further from k none other j low high fits = elim (cases_lt j k) [
    | inl before ↦ none j low before fits
    | inr not_before ↦ let same : j ≡ k = omega (arith, high, not_before) in other (subst (FitsBeside others list prefix) same fits)
  ]

  pub first_found : (from k : ℕ) → HasNoneBetween from k → from ≤ k → FitsBeside others list prefix k → IsFirstFrom others list prefix from k
  first_found from k none low fits = record {
    fits = fits;
    from_on = low;
    first = λ j from_j fits_j. elim (cases_lt j k) [
      | inl before ↦ absurd (none j from_j before fits_j)
      | inr not_before ↦ not_before
    ];
  }

  pub none_found : (from end count : ℕ) → HasNoneBetween from end → count ≤ end → ((k : ℕ) → k < count ↔ (k ≤ 65535) × (k < 2 ^ (128 - prefix.len))) → HasNoneFrom others list prefix from
  none_found from end count none all counted j low fits =
      let less = (counted j).1 (fits.high, fits.inside) in
      none j low (omega (arith, less, all)) fits

  -- ---- in cyclic order

  around_from : (word k : ℕ) → IsFirstFrom others list prefix (start_of word) k → IsFirstAround others list prefix word k
  around_from word k is = record {
    fits = is.fits;
    first = λ j fits. by_cases (start_of word) (start_low word) (start_high word) is j fits;
  }
    where
      by_cases : (start : ℕ) → 1 ≤ start → start ≤ 65535 → IsFirstFrom others list prefix start k → (j : ℕ) → FitsBeside others list prefix j → ahead start k ≤ ahead start j
      by_cases start low high first j fits =
          let from_on = first.from_on in
          let most = first.fits.high in
          let at_k = ahead_from start k low high from_on most in
          let j_low = fits.low in
          let j_high = fits.high in
          elim (cases_lt j start) [
            | inl before ↦ let at_j = ahead_before start j high j_low before in omega (arith, at_j, at_k, j_low, most, before, from_on)
            | inr from ↦ let at_j = ahead_from start j low high from j_high in let least = first.first j from fits in omega (arith, at_j, at_k, least)
          ]

  around_lowest : (word lowest : ℕ) → HasNoneFrom others list prefix (start_of word) → IsFirstFrom others list prefix 1 lowest → IsFirstAround others list prefix word lowest
  around_lowest word lowest none is = record {
    fits = is.fits;
    first = λ j fits. by_cases (start_of word) (start_high word) none j fits;
  }
    where
      by_cases : (start : ℕ) → start ≤ 65535 → HasNoneFrom others list prefix start → (j : ℕ) → FitsBeside others list prefix j → ahead start lowest ≤ ahead start j
      by_cases start high nothing j fits =
          let low = is.fits.low in
          let j_low = fits.low in
          let least = is.first j j_low fits in
          elim (cases_lt j start) [
            | inl before ↦
                let at_j = ahead_before start j high j_low before in
                let at_lowest = ahead_before start lowest high low (omega (arith, least, before)) in
                omega (arith, at_j, at_lowest, least)
            | inr from ↦ absurd (nothing j from fits)
          ]

  pub around : (word lowest : ℕ) (found : Option ℕ) → MatchOption found (HasNoneFrom others list prefix (start_of word)) (IsFirstFrom others list prefix (start_of word))
      → IsFirstFrom others list prefix 1 lowest → IsFirstAround others list prefix word (unwrap_or found lowest)
  around word lowest None none is = around_lowest word lowest none is
  around word lowest (Some k) first is = around_from word k first

-- ---- as the router sees the others

module _ (view : PlainView) (others : Others) (are : AreOthers view others) (c : Assigned) (list : List OwnAddress) where
  fits_beside : (k : ℕ) → NumberFits view c list k → FitsBeside others list c.prefix k
  fits_beside k f = record {
    low = f.low;
    high = f.high;
    inside = f.inside;
    free = record {
      free = λ there. let (node, taken) = other_from view others are (c.prefix.bits + k) there in f.free node taken;
      new = f.new;
    };
  }

  fits_so : (k : ℕ) → FitsBeside others list c.prefix k → NumberFits view c list k
  fits_so k f = record {
    low = f.low;
    high = f.high;
    inside = f.inside;
    free = λ node taken. f.free.free (other_there view others are node (c.prefix.bits + k) taken);
    new = f.free.new;
  }

  pub none_fits : HasNoneFrom others list c.prefix 1 → (k : ℕ) → ¬ NumberFits view c list k
  none_fits none k fits = none k fits.low (fits_beside k fits)

  pub first_fit : (word k : ℕ) → IsFirstAround others list c.prefix word k → IsFirstFit view c list word k
  first_fit word k is = record { fits = fits_so k is.fits; first = λ j fits. is.first j (fits_beside j fits) }

-- ---- one number

pub one_number : (view : PlainView) (c : Assigned) (list : List OwnAddress) (word j k : ℕ) → IsFirstFit view c list word j → IsFirstFit view c list word k → j ≡ k
one_number view c list word j k a b =
    same_ahead word j k a.fits.low a.fits.high b.fits.low b.fits.high (b.first j a.fits) (a.first k b.fits)
