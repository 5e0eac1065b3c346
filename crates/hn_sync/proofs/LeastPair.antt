-- The least of the pairs of endpoints that pass a test, from two lists in ascending order.
use Rattle.hn_base.proofs.Names.{◌≡◌, ◌≤◌, ◌<◌, ◌∙◌, ◌⊎◌, ℕ, Bool, true, false, cond, List, [], ◌∷◌, map, is_some, Option, Some, None, Contains, sym, ap, subst, refl, inl, inr, arith, Less}
use Rattle.hn_base.proofs.Names.{option_map, nat_cmp, cases_lt, All-from_recursion, All-contains, same_Some}
use Rattle.hn_sync.proofs.Names.{find, EpId, nothing_in, Contains-cases, Contains-map, lt_from_less, found_passes, passing_found}
use Rattle.std.proofs.Common.{option_and_then}
use Rattle.std.specs.List.Sorted.{IsStrictlySortedBy}

-- in a list that ascends by numbers, what is found is the least that passes
found_is_least : {X : Type 0} (number : X → ℕ) (test : X → Bool) (xs : List X) (x y : X) → IsStrictlySortedBy nat_cmp (map number xs)
    → find test xs ≡ Some x → Contains xs y → test y ≡ true → number x ≤ number y
unfolding IsStrictlySortedBy
found_is_least number test [] x y up found there passes = absurd (nothing_in y there)
found_is_least {X} number test (z ∷ zs) x y up found there passes = go (found_is_least number test zs x y up.1) (test z) refl found
  where
    go : (find test zs ≡ Some x → Contains zs y → test y ≡ true → number x ≤ number y) → (b : Bool) → test z ≡ b → cond b (Some z) (find test zs) ≡ Some x → number x ≤ number y
    go rest true first is =
        let at : number z ≡ number x = ap number (same_Some z x is) in
        elim (Contains-cases z zs y there) [
          | inl here ↦ (let one : number z ≡ number y = ap number here in omega arith)
          | inr later ↦ (let less : number z < number y = lt_from_less (number z) (number y)
              (All-contains (λ n. nat_cmp (number z) n ≡ Less) (map number zs) (number y)
              (All-from_recursion (λ n. nat_cmp (number z) n ≡ Less) (map number zs) up.0) (Contains-map number zs y later)) in omega arith)
        ]
    go rest false fails is = elim (Contains-cases z zs y there) [
      | inl here ↦ absurd (let other : test z ≡ true = ap test here ∙ passes in cc)
      | inr later ↦ rest is later passes
    ]

pub same_endpoint : (e f : EpId) → e.0 ≡ f.0 → e ≡ f
same_endpoint e f same = λ i. record { 0 = same i }

-- the endpoints are those of some values
module _ {X : Type 0} (id : X → EpId) where
  -- the first that passes
  abbrev pub first_of : (EpId → Bool) → List X → Option EpId
  first_of test xs = option_map id (find (λ x. test (id x)) xs)

  first_there : (test : EpId → Bool) (xs : List X) (e : EpId) → first_of test xs ≡ Some e → (x : X) × Contains xs x × (id x ≡ e) × (test e ≡ true)
  first_there test xs e is = by_find (find (λ x. test (id x)) xs) refl is
    where
      by_find : (o : Option X) → find (λ x. test (id x)) xs ≡ o → option_map id o ≡ Some e → (x : X) × Contains xs x × (id x ≡ e) × (test e ≡ true)
      by_find None found none = absurd (cc)
      by_find (Some x) found some =
          let passes = found_passes (λ (z : X). test (id z)) xs x found in
          let same : id x ≡ e = same_Some (id x) e some in
          (x, passes.0, same, subst (λ (k : EpId). test k ≡ true) same passes.1)

  first_least : (test : EpId → Bool) (xs : List X) (e : EpId) (y : X) → IsStrictlySortedBy nat_cmp (map (λ x. (id x).0) xs)
      → first_of test xs ≡ Some e → Contains xs y → test (id y) ≡ true → e.0 ≤ (id y).0
  first_least test xs e y up is there passes = by_find (find (λ x. test (id x)) xs) refl is
    where
      by_find : (o : Option X) → find (λ x. test (id x)) xs ≡ o → option_map id o ≡ Some e → e.0 ≤ (id y).0
      by_find None found none = absurd (cc)
      by_find (Some x) found some =
          let least = found_is_least (λ (z : X). (id z).0) (λ (z : X). test (id z)) xs x y up found there passes in
          let same : (id x).0 ≡ e.0 = ap (λ (k : EpId). k.0) (same_Some (id x) e some) in
          omega arith

  first_some : (test : EpId → Bool) (xs : List X) (y : X) → Contains xs y → test (id y) ≡ true → (e : EpId) × (first_of test xs ≡ Some e)
  first_some test xs y there passes =
      let found = passing_found (λ (z : X). test (id z)) xs y there passes in
      (id found.0, ap (option_map id) found.1)

  -- the pairs of an endpoint of some and one of others that pass
  module _ (test : EpId → EpId → Bool) (xs ys : List X) where
    -- the least one for this endpoint, and the least pair
    abbrev pub partner_in : EpId → Option EpId
    partner_in e = first_of (test e) ys

    abbrev pub joint_in : Option (EpId × EpId)
    joint_in = option_and_then (λ e. option_map (λ f. (e, f)) (partner_in e)) (first_of (λ e. is_some (partner_in e)) xs)

    -- one of the pairs passes
    pub record Passes (e f : EpId) : Type 0 where
      pub x : X
      pub y : X
      pub here : Contains xs x
      pub there : Contains ys y
      pub is_one : id x ≡ e
      pub is_other : id y ≡ f
      pub passes : test e f ≡ true

    has_partner : (e f : EpId) → Passes e f → is_some (partner_in e) ≡ true
    has_partner e f p =
        let some = first_some (test e) ys p.y p.there (subst (λ (k : EpId). test e k ≡ true) (sym p.is_other) p.passes) in
        ap is_some some.1

    abbrev paired : EpId → Option EpId → Option (EpId × EpId)
    paired e o = option_map (λ f. (e, f)) o

    pub no_joint : joint_in ≡ None → (e f : EpId) → Passes e f → ⊥
    no_joint none e f p = by_first (first_of (λ k. is_some (partner_in k)) xs) refl none
      where
        by_partner : (k : EpId) (o : Option EpId) → is_some o ≡ true → paired k o ≡ None → ⊥
        by_partner k None some gone = absurd (cc)
        by_partner k (Some l) some gone = absurd (cc)

        by_first : (o : Option EpId) → first_of (λ k. is_some (partner_in k)) xs ≡ o → option_and_then (λ k. paired k (partner_in k)) o ≡ None → ⊥
        by_first None is gone =
            let some = first_some (λ k. is_some (partner_in k)) xs p.x p.here (subst (λ (k : EpId). is_some (partner_in k) ≡ true) (sym p.is_one) (has_partner e f p)) in
            let found : Some some.0 ≡ None = sym some.1 ∙ is in
            absurd (cc)
        by_first (Some k) is gone = by_partner k (partner_in k) (first_there (λ k. is_some (partner_in k)) xs k is).3 gone

    -- what is computed is the first that has a partner, and the partner
    joint_parts : (e f : EpId) → joint_in ≡ Some (e, f) → (first_of (λ k. is_some (partner_in k)) xs ≡ Some e) × (partner_in e ≡ Some f)
    joint_parts e f is = by_first (first_of (λ k. is_some (partner_in k)) xs) refl is
      where
        by_partner : (k : EpId) (o : Option EpId) → paired k o ≡ Some (e, f) → (k ≡ e) × (o ≡ Some f)
        by_partner k None same = absurd (cc)
        by_partner k (Some l) same =
            let pair = same_Some {A = EpId × EpId} (k, l) (e, f) same in
            (ap (λ (q : EpId × EpId). q.0) pair, ap (λ (q : EpId × EpId). Some q.1) pair)

        by_first : (o : Option EpId) → first_of (λ k. is_some (partner_in k)) xs ≡ o → option_and_then (λ k. paired k (partner_in k)) o ≡ Some (e, f) → (o ≡ Some e) × (partner_in e ≡ Some f)
        by_first None first same = absurd (cc)
        by_first (Some k) first same =
            let parts = by_partner k (partner_in k) same in
            (ap Some parts.0, subst (λ (m : EpId). partner_in m ≡ Some f) parts.0 parts.1)

    -- the pair that is computed passes, and is the least that does
    pub joint_passes : (e f : EpId) → joint_in ≡ Some (e, f) → Passes e f
    joint_passes e f is =
        let parts = joint_parts e f is in
        let one = first_there (λ k. is_some (partner_in k)) xs e parts.0 in
        let other = first_there (test e) ys f parts.1 in
        record { x = one.0; y = other.0; here = one.1; there = other.1; is_one = one.2; is_other = other.2; passes = other.3 }

    pub joint_is_first : (e f x y : EpId) → IsStrictlySortedBy nat_cmp (map (λ z. (id z).0) xs) → IsStrictlySortedBy nat_cmp (map (λ z. (id z).0) ys)
        → joint_in ≡ Some (e, f) → Passes x y → (e.0 < x.0) ⊎ ((e.0 ≡ x.0) × (f.0 ≤ y.0))
    joint_is_first e f x y up_xs up_ys is p =
        let parts = joint_parts e f is in
        let least = first_least (λ k. is_some (partner_in k)) xs e p.x up_xs parts.0 p.here (subst (λ (k : EpId). is_some (partner_in k) ≡ true) (sym p.is_one) (has_partner x y p)) in
        let one : (id p.x).0 ≡ x.0 = ap (λ (k : EpId). k.0) p.is_one in
        let other : (id p.y).0 ≡ y.0 = ap (λ (k : EpId). k.0) p.is_other in
        elim (cases_lt e.0 x.0) [
          | inl less ↦ inl less
          | inr more ↦
              let same : e.0 ≡ x.0 = omega arith in
              let at : x ≡ e = same_endpoint x e (sym same) in
              let passes : test e (id p.y) ≡ true = subst (λ (k : EpId). test k (id p.y) ≡ true) at (subst (λ (k : EpId). test x k ≡ true) (sym p.is_other) p.passes) in
              let after = first_least (test e) ys f p.y up_ys parts.1 p.there passes in
              inr (same, omega arith)
        ]
