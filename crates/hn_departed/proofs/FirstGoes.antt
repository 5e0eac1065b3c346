-- With one too many the one goes that departed first.
use Rattle.hn_base.proofs.Names.{◌≡◌, ℕ, zero, suc, ◌+◌, ◌-◌, ◌<◌, ◌≤◌, Bool, true, false, cond, List, [], ◌∷◌, ◌++◌, length, take, drop, refl, sym, ap, ◌∙◌, subst, arith, ◌⊎◌, inl, inr, append_assoc}
use Rattle.hn_base.proofs.Names.{nat_le, list_any, leb-true, le-leb, both_ways, cases_lt}
use Rattle.hn_departed.proofs.Names.{Contains, Contains-head, Contains-tail, nothing_in, Told, without_first, kept}
use Rattle.std.specs.List.{remove}
use Rattle.hn_base.proofs.AscendingLists.{Contains-cases}
use Rattle.hn_base.proofs.Elements.{any_of, any_from}
use Rattle.hn_departed.specs.Departed.{since, without}

-- whether one of those departed no later
abbrev is_any_no_later : Told → List Told → Bool
is_any_no_later t ts = list_any (λ u. nat_le (since u) (since t)) ts

-- ---- one goes

stays_there : (t : Told) (ts : List Told) → is_any_no_later t ts ≡ true → without_first (t ∷ ts) ≡ t ∷ without_first ts
stays_there t ts is = ap (λ (b : Bool). cond b (t ∷ without_first ts) ts) is

goes_here : (t : Told) (ts : List Told) → is_any_no_later t ts ≡ false → without_first (t ∷ ts) ≡ ts
goes_here t ts is = ap (λ (b : Bool). cond b (t ∷ without_first ts) ts) is

length-without_first : (t : Told) (ts : List Told) → length (without_first (t ∷ ts)) ≡ length ts
length-without_first t [] = refl
length-without_first t (u ∷ us) = go (is_any_no_later t (u ∷ us)) refl (length-without_first u us)
  where
    go : (b : Bool) → is_any_no_later t (u ∷ us) ≡ b → length (without_first (u ∷ us)) ≡ length us → length (without_first (t ∷ u ∷ us)) ≡ suc (length us)
    go true is rest = ap length (stays_there t (u ∷ us) is) ∙ ap suc rest
    go false is rest = ap length (goes_here t (u ∷ us) is)

-- ---- where it stands

-- at a place of a list stands this one, and then those
pub record At (queue : List Told) (place : ℕ) (t : Told) (after : List Told) : Type 0 where
  pub within : place < length queue
  pub rest : drop (place + 1) queue ≡ after
  pub front : take (place + 1) queue ≡ take place queue ++ t ∷ []

by_parts : (queue : List Told) (place : ℕ) (t : Told) (after : List Told) → drop place queue ≡ t ∷ after
    → (place < length queue) × (drop (suc place) queue ≡ after) × (take (suc place) queue ≡ take place queue ++ t ∷ [])
by_parts [] zero t after is = absurd (nothing_in t (subst (λ (ts : List Told). Contains ts t) (sym is) (Contains-head t after)))
by_parts [] (suc place) t after is = absurd (nothing_in t (subst (λ (ts : List Told). Contains ts t) (sym is) (Contains-head t after)))
by_parts (u ∷ us) zero t after is = (omega arith, ap (drop 1) is, ap (take 1) is)
by_parts (u ∷ us) (suc place) t after is =
    let later = by_parts us place t after is in
    (omega (arith, later.0), later.1, ap (λ (ts : List Told). u ∷ ts) later.2)

pub stands_at : (queue : List Told) (place : ℕ) (t : Told) (after : List Told) → drop place queue ≡ t ∷ after → At queue place t after
stands_at queue place t after is =
    let parts = by_parts queue place t after is in
    let one : place + 1 ≡ suc place = omega arith in
    record {
      within = parts.0;
      rest = ap (λ (n : ℕ). drop n queue) one ∙ parts.1;
      front = ap (λ (n : ℕ). take n queue) one ∙ parts.2;
    }

-- none goes before it, nor at it
pub none_until : (queue : List Told) (place : ℕ) (t : Told) (after : List Told) → drop place queue ≡ t ∷ after → is_any_no_later t after ≡ true
    → without_first queue ≡ take place queue ++ without_first (drop place queue) → without_first queue ≡ take (place + 1) queue ++ without_first after
none_until queue place t after is any before =
    before
    ∙ ap (λ (us : List Told). take place queue ++ without_first us) is
    ∙ ap (λ (us : List Told). take place queue ++ us) (stays_there t after any)
    ∙ sym (append_assoc (take place queue) (t ∷ []) (without_first after))
    ∙ ap (λ (us : List Told). us ++ without_first after) (sym (stands_at queue place t after is).front)

-- it goes
pub goes_at : (queue : List Told) (place : ℕ) (t : Told) (after : List Told) → drop place queue ≡ t ∷ after → is_any_no_later t after ≡ false
    → without_first queue ≡ take place queue ++ without_first (drop place queue) → without_first queue ≡ remove queue place
goes_at queue place t after is none before =
    before
    ∙ ap (λ (us : List Told). take place queue ++ without_first us) is
    ∙ ap (λ (us : List Told). take place queue ++ us) (goes_here t after none ∙ sym (by_parts queue place t after is).1)

-- after one that stays there is another one
pub one_more : (queue : List Told) (place : ℕ) (t : Told) (after : List Told) → drop place queue ≡ t ∷ after → is_any_no_later t after ≡ true → place + 1 < length queue
one_more queue place t [] is any = absurd (both_ways false refl any)
one_more queue place t (u ∷ us) is any =
    let later = stands_at queue (place + 1) u us (stands_at queue place t (u ∷ us) is).rest in
    later.within

-- ---- several go

pub length-without : (times : ℕ) (queue : List Told) → times ≤ length queue → length (without times queue) + times ≡ length queue
length-without zero queue few = omega arith
length-without (suc times) [] few = absurd (omega (arith, few))
length-without (suc times) (t ∷ ts) few =
    let one = length-without_first t ts in
    let rest = length-without times (without_first (t ∷ ts)) (omega (arith, one, few)) in
    omega (arith, one, rest)

pub length-kept : (queue : List Told) → length (kept queue) ≤ 64
length-kept queue =
    let rest = length-without (length queue - 64) queue (omega arith) in
    omega (arith, rest)

pub few_stay : (queue : List Told) → length queue ≤ 64 → kept queue ≡ queue
few_stay queue few =
    let none : length queue - 64 ≡ 0 = omega (arith, few) in
    ap (λ (times : ℕ). without times queue) none

pub one_goes : (queue : List Told) → 64 < length queue → kept queue ≡ kept (without_first queue)
one_goes [] many = absurd (omega (arith, many))
one_goes (t ∷ ts) many =
    let one = length-without_first t ts in
    let times : length (t ∷ ts) - 64 ≡ suc (length (without_first (t ∷ ts)) - 64) = omega (arith, one, many) in
    ap (λ (n : ℕ). without n (t ∷ ts)) times

-- ---- which go

stays_in : (queue : List Told) (t : Told) → Contains (without_first queue) t → Contains queue t
stays_in [] t there = there
stays_in (u ∷ us) t there = go (is_any_no_later u us) refl (stays_in us t)
  where
    go : (b : Bool) → is_any_no_later u us ≡ b → (Contains (without_first us) t → Contains us t) → Contains (u ∷ us) t
    go true is rest = elim (Contains-cases u (without_first us) t (subst (λ (ts : List Told). Contains ts t) (stays_there u us is) there)) [
      | inl here ↦ subst (Contains (u ∷ us)) here (Contains-head u us)
      | inr later ↦ Contains-tail u us t (rest later)
    ]
    go false is rest = Contains-tail u us t (subst (λ (ts : List Told). Contains ts t) (goes_here u us is) there)

-- all that has departed departed no earlier
abbrev IsFirst : Told → List Told → Type 0
IsFirst t queue = (u : Told) → Contains queue u → since t ≤ since u

first_of : (t u : Told) (us : List Told) → IsFirst t us → is_any_no_later u us ≡ true → IsFirst t (u ∷ us)
first_of t u us first any v there =
    elim (Contains-cases u us v there) [
      | inl here ↦ (let found = any_of (λ w. nat_le (since w) (since u)) us any in
          subst (λ (w : Told). since t ≤ since w) here (omega (arith, first found.0 found.1, leb-true (since found.0) (since u) found.2)))
      | inr later ↦ first v later
    ]

last_first : (u : Told) (us : List Told) → is_any_no_later u us ≡ false → IsFirst u (u ∷ us)
last_first u us none v there =
    elim (Contains-cases u us v there) [
      | inl here ↦ subst (λ (w : Told). since u ≤ since w) here (omega arith)
      | inr later ↦ elim (cases_lt (since u) (since v)) [
        | inl less ↦ omega (arith, less)
        | inr no_later ↦ absurd (both_ways (is_any_no_later u us) none (any_from (λ w. nat_le (since w) (since u)) us v later (le-leb (since v) (since u) no_later)))
      ]
    ]

goes_first : (queue : List Told) (t : Told) → Contains queue t → Contains (without_first queue) t ⊎ IsFirst t queue
goes_first [] t there = absurd (nothing_in t there)
goes_first (u ∷ us) t there = go (is_any_no_later u us) refl (goes_first us t)
  where
    kept_in : (ts : List Told) → without_first (u ∷ us) ≡ ts → Contains ts t → Contains (without_first (u ∷ us)) t
    kept_in ts is in_ts = subst (λ (vs : List Told). Contains vs t) (sym is) in_ts

    go : (b : Bool) → is_any_no_later u us ≡ b → (Contains us t → Contains (without_first us) t ⊎ IsFirst t us)
        → Contains (without_first (u ∷ us)) t ⊎ IsFirst t (u ∷ us)
    go true is rest = elim (Contains-cases u us t there) [
      | inl here ↦ inl (kept_in (u ∷ without_first us) (stays_there u us is) (subst (Contains (u ∷ without_first us)) here (Contains-head u (without_first us))))
      | inr later ↦ elim (rest later) [
        | inl stays ↦ inl (kept_in (u ∷ without_first us) (stays_there u us is) (Contains-tail u (without_first us) t stays))
        | inr first ↦ inr (first_of t u us first is)
      ]
    ]
    go false is rest = elim (Contains-cases u us t there) [
      | inl here ↦ inr (subst (λ (w : Told). IsFirst w (u ∷ us)) here (last_first u us is))
      | inr later ↦ inl (kept_in us (goes_here u us is) later)
    ]

pub without_in : (times : ℕ) (queue : List Told) (t : Told) → Contains (without times queue) t → Contains queue t
without_in zero queue t there = there
without_in (suc times) queue t there = stays_in queue t (without_in times (without_first queue) t there)

pub first_goes : (times : ℕ) (queue : List Told) (gone stays : Told) → Contains queue gone → Contains (without times queue) stays
    → Contains (without times queue) gone ⊎ (since gone ≤ since stays)
first_goes zero queue gone stays there stay = inl there
first_goes (suc times) queue gone stays there stay =
    elim (goes_first queue gone there) [
      | inl later ↦ first_goes times (without_first queue) gone stays later stay
      | inr first ↦ inr (first stays (without_in (suc times) queue stays stay))
    ]
