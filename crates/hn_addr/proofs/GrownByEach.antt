-- A list that grows by what each element of another gives; and what the nodes of a view give.
use Rattle.hn_base.proofs.Names.{◌≡◌, ◌⊎◌, ◌↔◌, ℕ, ◌+◌, List, [], ◌∷◌, ◌++◌, take, slice_get, Contains, Some, sym, subst, inl, inr, ⊎_elim, Contains-push, Contains-push_cases, Contains-append_left}
use Rattle.hn_addr.proofs.Names.{NodeId, nothing_in, front_at, Entry, IsGivenByOne, IsOfNode}
use Rattle.hn_data.specs.Said.{HasVersion}

-- ---- what is given at once

module _ {T : Type 0} (IsGiven : T → Type 0) where
  -- what the list has is what it had, or what is given
  abbrev pub IsGrown : List T → List T → Type 0
  IsGrown old new = (t : T) → Contains new t ↔ (Contains old t ⊎ IsGiven t)

  -- nothing
  pub grown_by_none : (list : List T) → ((t : T) → ¬ IsGiven t) → IsGrown list list
  grown_by_none list none t = (λ h. inl h, λ h. ⊎_elim (λ (had : Contains list t). had) (λ (given : IsGiven t). absurd (none t given)) h)

  -- one
  pub grown_by_one : (list : List T) (one : T) → ((t : T) → IsGiven t ↔ (one ≡ t)) → IsGrown list (list ++ one ∷ [])
  grown_by_one list one alone t = (
    λ h. ⊎_elim (λ (had : Contains list t). inl had) (λ (last : one ≡ t). inr ((alone t).1 last)) (Contains-push_cases list one t h),
    λ h. ⊎_elim (λ (had : Contains list t). Contains-append_left list (one ∷ []) t had)
        (λ (given : IsGiven t). subst (Contains (list ++ one ∷ [])) ((alone t).0 given) (Contains-push list one))
        h,
  )

-- ---- what each element gives

module _ {X T : Type 0} (Gives : X → T → Type 0) where
  abbrev pub IsGrownByEach : List T → List T → List X → Type 0
  IsGrownByEach old new xs = IsGrown (IsGivenByOne Gives xs) old new

  pub grown_at_first : (old : List T) → IsGrownByEach old old []
  grown_at_first old = grown_by_none (IsGivenByOne Gives []) old (λ t given. nothing_in given.one given.among)

  one_more : (old between new : List T) (xs : List X) (x : X) → IsGrownByEach old between xs → IsGrown (Gives x) between new → IsGrownByEach old new (xs ++ x ∷ [])
  one_more old between new xs x were are t = (there, back)
    where
      there : Contains new t → Contains old t ⊎ IsGivenByOne Gives (xs ++ x ∷ []) t
      there h =
          ⊎_elim (λ (before : Contains between t).
          ⊎_elim (λ (had : Contains old t). inl had)
          (λ (given : IsGivenByOne Gives xs t).
          inr (record { one = given.one; among = Contains-append_left xs (x ∷ []) given.one given.among; gives = given.gives }))
          ((were t).0 before))
          (λ (last : Gives x t). inr (record { one = x; among = Contains-push xs x; gives = last }))
          ((are t).0 h)

      back : Contains old t ⊎ IsGivenByOne Gives (xs ++ x ∷ []) t → Contains new t
      back h =
          ⊎_elim (λ (had : Contains old t). (are t).1 (inl ((were t).1 (inl had))))
          (λ (given : IsGivenByOne Gives (xs ++ x ∷ []) t).
          ⊎_elim (λ (before : Contains xs given.one). (are t).1 (inl ((were t).1 (inr (record { one = given.one; among = before; gives = given.gives })))))
          (λ (is : x ≡ given.one). (are t).1 (inr (subst (λ (y : X). Gives y t) (sym is) given.gives)))
          (Contains-push_cases xs x given.one given.among))
          h

  -- as a `for` goes over a slice
  pub grown_next : (old between new : List T) (xs : List X) (n : ℕ) (x : X) → slice_get xs n ≡ Some x
      → IsGrownByEach old between (take n xs) → IsGrown (Gives x) between new → IsGrownByEach old new (take (n + 1) xs)
  grown_next old between new xs n x at were are = subst (IsGrownByEach old new) (sym (front_at xs n x at)) (one_more old between new (take n xs) x were are)

  -- a list that was empty
  pub grown_from_none : (new : List T) (xs : List X) → IsGrownByEach [] new xs → (t : T) → Contains new t ↔ IsGivenByOne Gives xs t
  grown_from_none new xs are t = (
    λ h. ⊎_elim (λ (had : Contains {X = T} [] t). absurd (nothing_in t had)) (λ (given : IsGivenByOne Gives xs t). given) ((are t).0 h),
    λ h. (are t).1 (inr h),
  )

-- ---- a node

module _ {Part T : Type 0} (Says : List ℕ → Part → Type 0) (Makes : NodeId → Part → T → Type 0) (node : Entry) where
  -- what its parts make is what it gives, where it has an HNCP-Version
  pub grown_by_node : (old new : List T) (parts : List Part) → HasVersion node.body → ((part : Part) → Contains parts part ↔ Says node.body part)
      → IsGrownByEach (Makes node.id) old new parts → IsGrown (IsOfNode Says Makes node) old new
  grown_by_node old new parts version are grown t = (
    λ h. ⊎_elim (λ (had : Contains old t). inl had)
        (λ (given : IsGivenByOne (Makes node.id) parts t).
        inr (record { version = version; part = given.one; says = (are given.one).0 given.among; makes = given.gives }))
        ((grown t).0 h),
    λ h. (grown t).1 (⊎_elim (λ (had : Contains old t). inl had)
        (λ (of : IsOfNode Says Makes node t). inr (record { one = of.part; among = (are of.part).1 of.says; gives = of.makes }))
        h),
  )
