-- A list without its expired elements, and a rule for each element, as far as a loop has come.
use Rattle.hn_base.proofs.Names.{◌≡◌, ◌<◌, ◌≤◌, ◌+◌, ◌∙◌, ℕ, suc, List, [], ◌∷◌, ◌++◌, length, take, drop, get_or, Option, Some, None, ap, refl, sym, subst, inl, inr, arith, append_assoc, add-one}
use Rattle.hn_base.proofs.Names.{remove, filter_map, take_more, drop_more, drop_all, take_all, append-nil, take_at, drop_at, length-take-le}
use Rattle.hn_rules.proofs.Names.{EpId, PlainItem, interval_of, keep_alive_of, ItemsAreUnique, Stored, HasInterval, Without}

-- a peer has one keep-alive interval
pub interval-unique : ItemsAreUnique → (held : Option Stored) (endpoint : EpId) (a b : ℕ) → HasInterval held endpoint a → HasInterval held endpoint b → a ≡ b
interval-unique one None endpoint a b p q = p ∙ sym q
interval-unique one (Some stored) endpoint a b (items, are, is) (others, are', is') =
    is ∙ ap (λ (xs : List PlainItem). keep_alive_of (filter_map interval_of xs) endpoint.0) (one stored.body items others are are') ∙ sym is'

module _ {A : Type 0} (P : A → Type 0) where
  -- what is left of the rest stands after the first ones
  abbrev pub LeftSoFar : List A → List A → ℕ → Type 0
  LeftSoFar xs ys i = (kept : List A) → Without P (drop i ys) kept → Without P xs (take i ys ++ kept)

  pub left-none : (xs : List A) → LeftSoFar xs xs 0
  left-none xs kept without = without

  split : (ys : List A) (i : ℕ) (d : A) → i < length ys → drop i ys ≡ get_or ys i d ∷ drop (suc i) ys
  split ys i d within = rw (← add-one i) (drop_more ys i d within)

  -- the element at this place goes
  pub left-gone : (xs ys : List A) (i : ℕ) (d : A) → i < length ys → P (get_or ys i d) → LeftSoFar xs ys i → LeftSoFar xs (remove ys i) i
  left-gone xs ys i d within gone so_far kept without =
      let long = length-take-le i ys (omega arith) in
      let rest : Without P (drop (suc i) ys) kept = subst (λ (zs : List A). Without P zs kept) (drop_at (take i ys) (drop (suc i) ys) i long) without in
      let before = so_far kept (subst (λ (zs : List A). Without P zs kept) (sym (split ys i d within)) (inl (gone, rest))) in
      subst (λ (zs : List A). Without P xs (zs ++ kept)) (sym (take_at (take i ys) (drop (suc i) ys) i long)) before

  -- the element at this place stays
  pub left-stays : (xs ys : List A) (i : ℕ) (d : A) → i < length ys → (P (get_or ys i d) → ⊥) → LeftSoFar xs ys i → LeftSoFar xs ys (i + 1)
  left-stays xs ys i d within stays so_far kept without =
      let x = get_or ys i d in
      let rest : Without P (drop (suc i) ys) kept = rw (← add-one i) without in
      let before = so_far (x ∷ kept) (subst (λ (zs : List A). Without P zs (x ∷ kept)) (sym (split ys i d within)) (inr (kept, stays, rest, refl))) in
      let more : take (i + 1) ys ++ kept ≡ take i ys ++ x ∷ kept = ap (λ (zs : List A). zs ++ kept) (take_more ys i d within) ∙ append_assoc (take i ys) (x ∷ []) kept in
      subst (Without P xs) (sym more) before

  pub left-all : (xs ys : List A) (i : ℕ) → length ys ≤ i → LeftSoFar xs ys i → Without P xs ys
  left-all xs ys i past so_far =
      let all = so_far [] (subst (λ (zs : List A). Without P zs []) (sym (drop_all i ys past)) refl) in
      subst (Without P xs) (append-nil (take i ys) ∙ take_all i ys past) all
