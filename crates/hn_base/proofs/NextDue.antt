-- Moments that are next due.
use Rattle.hn_base.proofs.Names.{◌≡◌, ◌∙◌, ◌↔◌, ℕ, ◌<◌, ◌≤◌, ◌+◌, ◌⊎◌, List, [], ◌∷◌, ◌++◌, length, take, get_or, min, inl, inr, sym, subst, refl, arith, cases_lt, take_more, Contains-append_cases}
use Rattle.hn_base.proofs.Names.{Contains-append_left, Contains-append_right, Some!, IsSooner, IsOfElement}
use Rattle.hn_base.proofs.AscendingLists.{nothing_in, Contains-head, Contains-one}
use Rattle.hn_base.proofs.SomeExists.{some_then, some_least}

-- ---- one after another

-- where there is no moment
pub sooner_none : (P : ℕ → Type 0) (now best : ℕ) → ((m : ℕ) → ¬ P m) → IsSooner P now best best
sooner_none P now best none = record { at_most = omega arith; least = λ m p after. absurd (none m p); is = inl refl }

-- whichever the moments are, it cannot be that none of them and of `best` is the least
pub some_sooner : (P : ℕ → Type 0) (now best : ℕ) → Some! (IsSooner P now best)
some_sooner P now best =
    let Comes : ℕ → Type 0 = λ n. (n ≡ best) ⊎ (P n × (now < n)) in
    some_then (some_least Comes best (inl refl)) (λ n least none. none n (record { at_most = least.0; least = λ m p after. least.2 m (inr (p, after)); is = least.1 }))

-- the same moments, said in another way
pub sooner_same : (P Q : ℕ → Type 0) (now best n : ℕ) → ((m : ℕ) → P m ↔ Q m) → IsSooner P now best n → IsSooner Q now best n
sooner_same P Q now best n same h = record {
  at_most = h.at_most;
  least = λ m q after. h.least m ((same m).1 q) after;
  is = elim h.is [ inl is ↦ inl is | inr (p, after) ↦ inr ((same n).0 p, after) ];
}

-- some moments, and then others
pub sooner_both : (P Q : ℕ → Type 0) (now b c d : ℕ) → IsSooner P now b c → IsSooner Q now c d → IsSooner (λ m. P m ⊎ Q m) now b d
sooner_both P Q now b c d h k = record {
  at_most = (let p = h.at_most in let q = k.at_most in omega (arith, p, q));
  least = λ m some after. elim some [
    | inl p ↦ let first = h.least m p after in let less = k.at_most in omega (arith, first, less)
    | inr q ↦ k.least m q after
  ];
  is = elim k.is [
    | inl same ↦
        elim h.is [
          | inl first ↦ inl (same ∙ first)
          | inr (p, after) ↦ inr (subst (λ (n : ℕ). (P n ⊎ Q n) × (now < n)) (sym same) (inl p, after))
        ]
    | inr (q, after) ↦ inr (inr q, after)
  ];
}

-- the moment that is next due is one
pub sooner_is_one : (P : ℕ → Type 0) (now best m n : ℕ) → IsSooner P now best m → IsSooner P now best n → m ≡ n
sooner_is_one P now best m n h k =
    let up = not_above m n h k in
    let down = not_above n m k h in
    omega (arith, up, down)
  where
    not_above : (m n : ℕ) → IsSooner P now best m → IsSooner P now best n → m ≤ n
    not_above m n h k = elim k.is [
      | inl same ↦ let most = h.at_most in omega (arith, same, most)
      | inr (p, after) ↦ h.least n p after
    ]

-- while time passes before it, it stays so
pub next_stays : (P : ℕ → Type 0) (now later best n : ℕ) → now ≤ later → later < n → IsSooner P now best n → IsSooner P later best n
next_stays P now later best n goes before h = record {
  at_most = h.at_most;
  least = λ m is after. h.least m is (omega (arith, goes, after));
  is = elim h.is [ inl same ↦ inl same | inr (is, after) ↦ inr (is, before) ];
}

-- a moment that is cut to one that is not before `best`
pub sooner_cut : (now best n moment cut most : ℕ) → best ≤ most → cut ≡ min moment most → IsSooner (λ m. m ≡ cut) now best n → IsSooner (λ m. m ≡ moment) now best n
sooner_cut now best n moment cut most within is h = record {
  at_most = h.at_most;
  least = λ m same after. by_cut m same after (cases_lt most moment);
  is = elim h.is [
    | inl same ↦ inl same
    | inr (at, after) ↦
        elim (cases_lt most moment) [
          | inl over ↦ let less = h.at_most in inl (omega (arith, less, within, is, at, over))
          | inr under ↦ inr (omega (arith, is, at, under), after)
        ]
  ];
}
  where
    by_cut : (m : ℕ) → m ≡ moment → now < m → (most < moment) ⊎ (moment ≤ most) → n ≤ m
    by_cut m same after (inl over) = let less = h.at_most in omega (arith, less, within, same, over)
    by_cut m same after (inr under) = h.least m (omega (arith, is, same, under)) after

-- ---- of a list

module _ {A : Type 0} (P : A → ℕ → Type 0) (now : ℕ) where
  pub sooner_empty : (best : ℕ) → IsSooner (IsOfElement P []) now best best
  sooner_empty best = sooner_none (IsOfElement P []) now best (λ m (x, there, p). nothing_in x there)

  -- one more
  pub sooner_more : (xs : List A) (x : A) (b c d : ℕ) → IsSooner (IsOfElement P xs) now b c → IsSooner (P x) now c d → IsSooner (IsOfElement P (xs ++ x ∷ [])) now b d
  sooner_more xs x b c d h k =
      sooner_same (λ m. IsOfElement P xs m ⊎ P x m) (IsOfElement P (xs ++ x ∷ [])) now b d (λ m. (up m, down m)) (sooner_both (IsOfElement P xs) (P x) now b c d h k)
    where
      up : (m : ℕ) → IsOfElement P xs m ⊎ P x m → IsOfElement P (xs ++ x ∷ []) m
      up m (inl (y, there, p)) = (y, Contains-append_left xs (x ∷ []) y there, p)
      up m (inr p) = (x, Contains-append_right xs (x ∷ []) x (Contains-head x []), p)

      down : (m : ℕ) → IsOfElement P (xs ++ x ∷ []) m → IsOfElement P xs m ⊎ P x m
      down m (y, there, p) = elim (Contains-append_cases xs (x ∷ []) y there) [
        | inl before ↦ inl (y, before, p)
        | inr last ↦ inr (subst (λ (z : A). P z m) (sym (Contains-one x y last)) p)
      ]

  -- as a `for` goes over a slice
  pub sooner_each : (xs : List A) (i : ℕ) (x d : A) (b c e : ℕ) → i < length xs → x ≡ get_or xs i d → IsSooner (IsOfElement P (take i xs)) now b c
      → IsSooner (P x) now c e → IsSooner (IsOfElement P (take (i + 1) xs)) now b e
  sooner_each xs i x d b c e within is h k =
      let more : take (i + 1) xs ≡ take i xs ++ get_or xs i d ∷ [] = take_more xs i d within in
      let here : IsSooner (P (get_or xs i d)) now c e = subst (λ (y : A). IsSooner (P y) now c e) is k in
      subst (λ (l : List A). IsSooner (IsOfElement P l) now b e) (sym more) (sooner_more (take i xs) (get_or xs i d) b c e h here)
