-- Elements at their places.
use Rattle.hn_base.proofs.Names.{◌≡◌, ◌∙◌, ◌<◌, ℕ, zero, suc, Bool, true, false, List, [], ◌∷◌, ◌++◌, cond, length, get_or, map, filter, take, ◌+◌, Option, Some, None, position, slice_get, slice_set}
use Rattle.hn_base.proofs.Names.{nat_lt, refl, sym, subst, ap, position_or_len, find_at, append-nil, length-set, map-append, filter_more, position-Some, get_or_from_slice_get, slice_get_read}
use Rattle.hn_world.proofs.Names.{find}
use Rattle.std.proofs.lemmas.List.Folds.{position_or_len-set}

-- an element that was read, where the list was opened
pub read_at : {A : Type 0} (opened xs : List A) (i : ℕ) (x : A) → opened ≡ xs → i < length xs → x ≡ get_or opened i x → slice_get xs i ≡ Some x
read_at {A} opened xs i x same lt is =
    subst (λ (ys : List A). slice_get ys i ≡ Some x) same (slice_get_read opened (length opened) i x refl (subst (λ (ys : List A). i < length ys) (sym same) lt) is)

-- there is one element at a place
pub one_there : {A : Type 0} (xs : List A) (i : ℕ) (x y : A) → slice_get xs i ≡ Some x → slice_get xs i ≡ Some y → x ≡ y
one_there xs i x y this that = cc

-- an element that was put
pub got_set : {A : Type 0} (xs : List A) (i : ℕ) (x y : A) → slice_get xs i ≡ Some x → slice_get (slice_set xs i y) i ≡ Some y
got_set [] i x y at = absurd cc
got_set (z ∷ zs) zero x y at = refl
got_set (z ∷ zs) (suc i) x y at = got_set zs i x y at

-- one with further elements after it
pub got_front : {A : Type 0} (xs ys : List A) (i : ℕ) (x : A) → slice_get xs i ≡ Some x → slice_get (xs ++ ys) i ≡ Some x
got_front [] ys i x at = absurd cc
got_front (z ∷ zs) ys zero x at = at
got_front (z ∷ zs) ys (suc i) x at = got_front zs ys i x at

-- the place of the first that passes
pub within : {A : Type 0} (p : A → Bool) (xs : List A) (i : ℕ) → position p xs ≡ Some i → i < length xs
within p [] i found = absurd cc
within p (x ∷ xs) i found = (position-Some p (x ∷ xs) i x found).0

-- it stays where an element is put that passes as the one before it did
pub place_kept : {A : Type 0} (p : A → Bool) (xs : List A) (i : ℕ) (x y : A) → slice_get xs i ≡ Some x → p y ≡ p x → position p (slice_set xs i y) ≡ position p xs
place_kept p xs i x y at same =
    let first = position_or_len-set p xs i y x (same ∙ ap p (sym (get_or_from_slice_get xs i x x at))) in
    let len = length-set xs i y in
    λ k. cond (nat_lt (first k) (len k)) (Some (first k)) None

-- the first that passes stands at its place
position_is : {A : Type 0} (p : A → Bool) (xs : List A) (i : ℕ) → position p xs ≡ Some i → position_or_len p xs ≡ i
position_is p xs i found = by_test (nat_lt (position_or_len p xs) (length xs)) found
  where
    by_test : (b : Bool) → ◌≡◌ {A = Option ℕ} (cond b (Some (position_or_len p xs)) None) (Some i) → position_or_len p xs ≡ i
    by_test true e = cc
    by_test false e = absurd cc

pub found_at : {A : Type 0} (p : A → Bool) (xs : List A) (i : ℕ) (x : A) → position p xs ≡ Some i → slice_get xs i ≡ Some x → find p xs ≡ Some x
found_at p xs i x found at = find_at p xs ∙ ap (slice_get xs) (position_is p xs i found) ∙ at

-- what is picked of those that pass, one by one, where the list was read
module _ {A B : Type 0} (f : A → B) (p : A → Bool) where
  picked_more : (xs : List A) (i : ℕ) (d : A) → i < length xs → d ≡ get_or xs i d
      → map f (filter p (take (i + 1) xs)) ≡ map f (filter p (take i xs)) ++ map f (cond (p d) (d ∷ []) [])
  picked_more xs i d lt is =
      ap (map f) (filter_more p xs i d lt)
      ∙ map-append f (filter p (take i xs)) (cond (p (get_or xs i d)) (get_or xs i d ∷ []) [])
      ∙ ap (λ (x : A). map f (filter p (take i xs)) ++ map f (cond (p x) (x ∷ []) [])) (sym is)

  -- with one that passes, and with one that fails
  pub with_one : (xs ys : List A) (i : ℕ) (d : A) (before after : List B) → xs ≡ ys → i < length xs → d ≡ get_or xs i d → p d ≡ true
      → before ≡ map f (filter p (take i ys)) → after ≡ before ++ f d ∷ [] → after ≡ map f (filter p (take (i + 1) ys))
  with_one xs ys i d before after same lt is passes before_is after_is =
      after_is ∙ ap (λ (bs : List B). bs ++ f d ∷ []) (before_is ∙ ap (λ (zs : List A). map f (filter p (take i zs))) (sym same))
      ∙ ap (λ (b : Bool). map f (filter p (take i xs)) ++ map f (cond b (d ∷ []) [])) (sym passes)
      ∙ sym (picked_more xs i d lt is) ∙ ap (λ (zs : List A). map f (filter p (take (i + 1) zs))) same

  pub without_one : (xs ys : List A) (i : ℕ) (d : A) (before after : List B) → xs ≡ ys → i < length xs → d ≡ get_or xs i d → p d ≡ false
      → before ≡ map f (filter p (take i ys)) → after ≡ before → after ≡ map f (filter p (take (i + 1) ys))
  without_one xs ys i d before after same lt is fails before_is after_is =
      after_is ∙ before_is ∙ ap (λ (zs : List A). map f (filter p (take i zs))) (sym same) ∙ sym (append-nil (map f (filter p (take i xs))))
      ∙ ap (λ (b : Bool). map f (filter p (take i xs)) ++ map f (cond b (d ∷ []) [])) (sym fails)
      ∙ sym (picked_more xs i d lt is) ∙ ap (λ (zs : List A). map f (filter p (take (i + 1) zs))) same
