-- Under a total order there is a list in ascending order with given elements.
use Rattle.hn_base.proofs.Names.{◌≡◌, ◌∙◌, ◌↔◌, ◌⊎◌, List, [], ◌∷◌, Contains, inl, inr, refl, sym, ap, subst, IsTotalOrder, ordering_reverse, Less, Equal, Greater, recursion_from_All, sorted_tail}
use Rattle.hn_base.proofs.Names.{IsExact}
use Rattle.hn_base.proofs.Names.{Ordering}
use Rattle.std.specs.List.Sorted.{IsStrictlySortedBy}
use Rattle.hn_base.proofs.AscendingLists.{Contains-head, Contains-tail, Contains-cases, below_head, nothing_in}
use Rattle.hn_base.proofs.Elements.{all_of}

-- a first element that is below all others
pub sorted_cons : {K : Type 0} (R : K → K → Ordering) (x : K) (xs : List K) → ((y : K) → Contains xs y → R x y ≡ Less) → IsStrictlySortedBy R xs → IsStrictlySortedBy R (x ∷ xs)
unfolding IsStrictlySortedBy
sorted_cons R x xs below up = (recursion_from_All (λ y. R x y ≡ Less) xs (all_of (λ y. R x y ≡ Less) xs below), up)

pub sorted_none : {K : Type 0} (R : K → K → Ordering) → IsStrictlySortedBy R []
unfolding IsStrictlySortedBy
sorted_none R = tt

module _ {K : Type 0} (R : K → K → Ordering) (total : IsTotalOrder R) where
  -- ---- ascending order

  -- a list in order that has one more
  abbrev WithOne : K → List K → Type 0
  WithOne x ys = (zs : List K) × IsStrictlySortedBy R zs × ((z : K) → Contains zs z ↔ ((x ≡ z) ⊎ Contains ys z))

  first_of : (x : K) (ys : List K) → ((y : K) → Contains ys y → R x y ≡ Less) → IsStrictlySortedBy R ys → WithOne x ys
  first_of x ys below up = (
    x ∷ ys,
    sorted_cons R x ys below up,
    λ z. (
      Contains-cases x ys z,
      λ some. elim some [
        | inl is ↦ subst (Contains (x ∷ ys)) is (Contains-head x ys)
        | inr later ↦ Contains-tail x ys z later
      ],
    ),
  )

  below_both : (x y : K) (ys : List K) → R x y ≡ Less → IsStrictlySortedBy R (y ∷ ys) → (z : K) → Contains (y ∷ ys) z → R x z ≡ Less
  below_both x y ys less up z h =
      elim (Contains-cases y ys z h) [
        | inl same ↦ subst (λ (v : K). R x v ≡ Less) same less
        | inr later ↦ total.trans x y z less (below_head R y ys up z later)
      ]

  already : (x y : K) (ys : List K) → x ≡ y → IsStrictlySortedBy R (y ∷ ys) → WithOne x (y ∷ ys)
  already x y ys same up = (
    y ∷ ys,
    up,
    λ z. (
      λ h. inr h,
      λ some. elim some [
        | inl is ↦ subst (Contains (y ∷ ys)) (sym same ∙ is) (Contains-head y ys)
        | inr there ↦ there
      ],
    ),
  )

  after : (x y : K) (ys : List K) → R x y ≡ Greater → IsStrictlySortedBy R (y ∷ ys) → WithOne x ys → WithOne x (y ∷ ys)
  after x y ys more up (zs, sorted, exact) =
      let less : R y x ≡ Less = total.antisymm y x ∙ ap ordering_reverse more in (
        y ∷ zs,
        sorted_cons R y zs (λ z h. elim ((exact z).0 h) [
          | inl same ↦ subst (λ (v : K). R y v ≡ Less) same less
          | inr later ↦ below_head R y ys up z later
        ]) sorted,
        λ z. (
          λ h. elim (Contains-cases y zs z h) [
            | inl same ↦ inr (subst (Contains (y ∷ ys)) same (Contains-head y ys))
            | inr later ↦ elim ((exact z).0 later) [
              | inl is ↦ inl is
              | inr there ↦ inr (Contains-tail y ys z there)
            ]
          ],
          λ some. elim some [
            | inl is ↦ Contains-tail y zs z ((exact z).1 (inl is))
            | inr there ↦ elim (Contains-cases y ys z there) [
              | inl same ↦ subst (Contains (y ∷ zs)) same (Contains-head y zs)
              | inr later ↦ Contains-tail y zs z ((exact z).1 (inr later))
            ]
          ],
        ),
      )

  with_one : IsExact R → (x : K) (ys : List K) → IsStrictlySortedBy R ys → WithOne x ys
  with_one exact x [] up = first_of x [] (λ y h. absurd (nothing_in y h)) up
  with_one exact x (y ∷ ys) up = go (with_one exact x ys (sorted_tail R y ys up)) (R x y) refl
    where
      go : WithOne x ys → (o : Ordering) → R x y ≡ o → WithOne x (y ∷ ys)
      go rest Less is = first_of x (y ∷ ys) (below_both x y ys is up) up
      go rest Equal is = already x y ys (exact x y is) up
      go rest Greater is = after x y ys is up rest

  pub ascending_of : IsExact R → (xs : List K) → (ys : List K) × IsStrictlySortedBy R ys × ((z : K) → Contains ys z ↔ Contains xs z)
  ascending_of exact [] = ([], sorted_none R, λ z. (λ h. h, λ h. h))
  ascending_of exact (x ∷ xs) =
      let rest = ascending_of exact xs in
      let more = with_one exact x rest.0 rest.1 in (
        more.0,
        more.1,
        λ z. (
          λ h. elim ((more.2 z).0 h) [
            | inl is ↦ subst (Contains (x ∷ xs)) is (Contains-head x xs)
            | inr there ↦ Contains-tail x xs z ((rest.2 z).0 there)
          ],
          λ h. elim (Contains-cases x xs z h) [
            | inl is ↦ (more.2 z).1 (inl is)
            | inr there ↦ (more.2 z).1 (inr ((rest.2 z).1 there))
          ],
        ),
      )
