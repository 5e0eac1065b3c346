-- The first element that passes a test, and lists without some elements.
use Rattle.hn_base.proofs.Names.{◌≡◌, ◌≤◌, suc, Bool, true, false, cond, List, [], ◌∷◌, length, filter, Some, None, inl, inr, refl, sym, subst, arith, All, find, AllPairs, cond_both, All-cons}
use Rattle.hn_base.proofs.Names.{All-head, All-tail, All-contains}
use Rattle.hn_rules.proofs.Names.{Without, found_passes}
use Rattle.std.proofs.lemmas.List.Kept.{AllPairs-cons}

module _ {A : Type 0} where
  -- what holds of each holds of the one that is found
  pub find_all : (P : A → Type 0) (p : A → Bool) (xs : List A) (x : A) → All P xs → find p xs ≡ Some x → P x
  find_all P p xs x all is = All-contains P xs x all (found_passes p xs x is).0

  -- where nothing is found, nothing is found in a part of the list
  pub find-none_filter : (p q : A → Bool) (xs : List A) → find p xs ≡ None → find p (filter q xs) ≡ None
  find-none_filter p q [] none = refl
  find-none_filter p q (x ∷ xs) none = by_test (p x) refl none (find-none_filter p q xs)
    where
      by_test : (b : Bool) → p x ≡ b → cond b (Some x) (find p xs) ≡ None → (find p xs ≡ None → find p (filter q xs) ≡ None) → find p (cond (q x) (x ∷ filter q xs) (filter q xs)) ≡ None
      by_test true is none more = absurd cc
      by_test false is none more =
          cond_both (q x) (x ∷ filter q xs) (filter q xs) (λ kept. find p kept ≡ None) (λ _. rw is (more none)) (λ _. more none)

  -- ---- pairs

  AllPairs-head : (R : A → A → Type 0) (x : A) (xs : List A) → AllPairs R (x ∷ xs) → All (R x) xs
  AllPairs-head R x xs all k d within = all 0 (suc k) d (omega arith) (omega arith)

  AllPairs-tail : (R : A → A → Type 0) (x : A) (xs : List A) → AllPairs R (x ∷ xs) → AllPairs R xs
  AllPairs-tail R x xs all i j d less within = all (suc i) (suc j) d (omega arith) (omega arith)

  -- ---- some of the elements

  module _ (P : A → Type 0) where
    pub without-few : (xs kept : List A) → Without P xs kept → length kept ≤ length xs
    without-few [] kept is = rw is (omega arith)
    without-few (x ∷ xs) kept (inl (gone, more)) = let few = without-few xs kept more in omega arith
    without-few (x ∷ xs) kept (inr (rest, stays, more, is)) = let few = without-few xs rest more in rw is (omega arith)

    pub without-all : (Q : A → Type 0) (xs kept : List A) → Without P xs kept → All Q xs → All Q kept
    without-all Q [] kept is all = subst (All Q) (sym is) all
    without-all Q (x ∷ xs) kept (inl (gone, more)) all = without-all Q xs kept more (All-tail Q x xs all)
    without-all Q (x ∷ xs) kept (inr (rest, stays, more, is)) all =
        subst (All Q) (sym is) (All-cons Q x rest (All-head Q x xs all) (without-all Q xs rest more (All-tail Q x xs all)))

    pub without-pairs : (R : A → A → Type 0) (xs kept : List A) → Without P xs kept → AllPairs R xs → AllPairs R kept
    without-pairs R [] kept is all = subst (AllPairs R) (sym is) all
    without-pairs R (x ∷ xs) kept (inl (gone, more)) all = without-pairs R xs kept more (AllPairs-tail R x xs all)
    without-pairs R (x ∷ xs) kept (inr (rest, stays, more, is)) all =
        subst (AllPairs R) (sym is) (AllPairs-cons R x rest (without-all (R x) xs rest more (AllPairs-head R x xs all)) (without-pairs R xs rest more (AllPairs-tail R x xs all)))
