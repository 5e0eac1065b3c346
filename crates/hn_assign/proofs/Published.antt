-- Where what a pair publishes stays, the same prefixes are advertised.
use Rattle.hn_base.proofs.Names.{◌≡◌, ◌∙◌, ℕ, List, Contains, Option, None, Some, Bool, true, false, not, refl, sym, ap, subst, inl, inr, ⊎_elim, option_map, HasAt, PlainPrefix}
use Rattle.hn_assign.proofs.Names.{Advertised, Assigned, Pair, key_of, IsOwn, AreAdvertised, own_advertised, IsAscending, Updates, assigned_pair}
use Rattle.hn_assign.specs.Gathered.{AdvertiseSame, published_of_pair}
use Rattle.hn_assign.proofs.AtPair.{pair_cases, is_had, had_is}

-- a priority and a prefix that are published are those of the assignment
parts_of : (p : Option ℕ) (q : PlainPrefix) (priority : ℕ) (prefix : PlainPrefix) → option_map {U = ℕ × PlainPrefix} (λ n. (n, q)) p ≡ Some (priority, prefix) → (p ≡ Some priority) × (q ≡ prefix)
parts_of None q priority prefix is = absurd (cc)
parts_of (Some n) q priority prefix is =
    let same : ◌≡◌ {A = ℕ × PlainPrefix} (n, q) (priority, prefix) = cc in
    (ap (λ (t : ℕ × PlainPrefix). Some t.0) same, ap (λ (t : ℕ × PlainPrefix). t.1) same)

published_is : (c : Option Assigned) (priority : ℕ) (prefix : PlainPrefix)
    → published_of_pair c ≡ Some (priority, prefix) → (x : Assigned) × (c ≡ Some x) × (x.published ≡ Some priority) × (x.prefix ≡ prefix)
published_is None priority prefix is = absurd (cc)
published_is (Some x) priority prefix is = let parts = parts_of x.published x.prefix priority prefix is in (x, refl, parts.0, parts.1)

-- with one list of assignments the router advertises it
abbrev IsFrom : ℕ → Advertised → List Assigned → Type 0
IsFrom own a assigned = (c : Assigned) × Contains assigned c × IsOwn own c a

module _ (pair : Pair) (own : ℕ) (a : Advertised) where
  -- and so with another one
  still_from : (xs ys : List Assigned) (old new : Option Assigned) → IsAscending assigned_pair xs → HasAt assigned_pair pair old xs → HasAt assigned_pair pair new ys
      → ((x : Assigned) → ¬ (assigned_pair x ≡ pair) → Contains xs x → Contains ys x) → published_of_pair new ≡ published_of_pair old → IsFrom own a xs → IsFrom own a ys
  still_from xs ys old new up had has others same (c, there, of_c) =
      ⊎_elim
      (λ (here : assigned_pair c ≡ pair).
      let was : old ≡ Some c = is_had assigned_pair pair xs old c up had there here in
      let shown : published_of_pair new ≡ Some (of_c.priority, c.prefix) = same ∙ ap published_of_pair was ∙ ap (option_map {U = ℕ × PlainPrefix} (λ (n : ℕ). (n, c.prefix))) of_c.published in
      let found = published_is new of_c.priority c.prefix shown in
      let x : Assigned = found.0 in
      let held = had_is assigned_pair pair ys new x has found.1 in
      let pairs : assigned_pair c ≡ assigned_pair x = here ∙ sym held.1 in
      let as_advertised : Pair → PlainPrefix → Advertised = λ p q. record { key = key_of of_c.priority own p.endpoint.0; prefix = q } in
      let advertised : own_advertised own of_c.priority c ≡ own_advertised own of_c.priority x =
      ap (λ (p : Pair). as_advertised p c.prefix) pairs ∙ ap (as_advertised (assigned_pair x)) (sym found.3) in
      (x, held.0, record { priority = of_c.priority; published = found.2; is = of_c.is ∙ advertised }))
      (λ (other : ¬ (assigned_pair c ≡ pair)). (c, others c other there, of_c))
      (pair_cases (assigned_pair c) pair)

pub advertise_same : (pair : Pair) (old new : Option Assigned) (before after : List Assigned)
    → IsAscending assigned_pair before → HasAt assigned_pair pair old before → Updates assigned_pair pair new before after
    → published_of_pair old ≡ published_of_pair new → AdvertiseSame before after
advertise_same pair old new before after up had u same view advertised are a =
    let here = are a in (
      λ h. ⊎_elim (λ node. inl node) (λ mine. inr (still_from pair view.own a before after old new up had u.here (λ x not. (u.others x not).1) (sym same) mine)) (here.0 h),
      ⊎_elim (λ node. here.1 (inl node)) (λ mine. here.1 (inr (still_from pair view.own a after before new old u.ascending u.here had (λ x not. (u.others x not).0) same mine))),
    )

-- the same assignments advertise the same
pub advertise_as_before : (before after : List Assigned) → before ≡ after → AdvertiseSame before after
advertise_as_before before after is view advertised are = subst (λ (xs : List Assigned). AreAdvertised view xs advertised) is are

pub if_not : (b : Bool) → not b ≡ false → b ≡ true
if_not true is = refl
if_not false is = absurd (cc)
