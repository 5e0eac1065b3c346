-- A loop that keeps the elements of wished pairs.
use Rattle.hn_base.proofs.Names.{◌≡◌, ◌↔◌, ◌∙◌, ℕ, ◌+◌, ◌<◌, ◌≤◌, suc, List, [], ◌∷◌, ◌++◌, length, take, drop, get_or, Contains, sym, ap, subst, ⊎_elim, append_assoc, add-one, drop-cons, take_all}
use Rattle.hn_base.proofs.Names.{append-nil, drop_all, Contains-push, Contains-push_cases, Contains-append_left}
use Rattle.hn_pair.proofs.Names.{nothing_in, Wish, Pair, IsAscending, IsWished, KeepsWished, front_more}
use Rattle.hn_pair.proofs.AroundPair.{ascending_without}

module _ {A : Type 0} (key : A → Pair) (wishes : List Wish) where
  -- of the first elements those of wished pairs are kept
  pub record IsKeeping (xs : List A) (i : ℕ) (kept : List A) : Type 0 where
    pub ascending : IsAscending key (kept ++ drop i xs)
    pub those : (x : A) → Contains kept x ↔ Contains (take i xs) x × IsWished wishes (key x)

  pub keeping_none : (xs : List A) → IsAscending key xs → IsKeeping xs 0 []
  keeping_none xs up = record { ascending = up; those = λ x. (λ h. absurd (nothing_in x h), λ h. absurd (nothing_in x h.0)) }

  whole : (xs : List A) (i : ℕ) (x : A) (kept : List A) → i < length xs → x ≡ get_or xs i x → IsAscending key (kept ++ drop i xs) → IsAscending key (kept ++ x ∷ drop (suc i) xs)
  whole xs i x kept within is up = subst (λ (ys : List A). IsAscending key (kept ++ ys)) (drop-cons xs i x within ∙ ap (λ y. y ∷ drop (suc i) xs) (sym is)) up

  pub keeping_passed : (xs : List A) (i : ℕ) (x : A) (kept : List A) → i < length xs → x ≡ get_or xs i x → ¬ (IsWished wishes (key x)) → IsKeeping xs i kept → IsKeeping xs (i + 1) kept
  keeping_passed xs i x kept within is not k = record {
    ascending = rw add-one (ascending_without key kept x (drop (suc i) xs) (whole xs i x kept within is k.ascending));
    those = λ y. let more = front_more xs i x within is in (
      λ h. let old = (k.those y).0 h in (subst (λ (ys : List A). Contains ys y) (sym more) (Contains-append_left (take i xs) (x ∷ []) y old.0), old.1),
      λ h. ⊎_elim (λ (old : Contains (take i xs) y). (k.those y).1 (old, h.1))
          (λ (new : x ≡ y). absurd (not (subst (λ (z : A). IsWished wishes (key z)) (sym new) h.1))) (Contains-push_cases (take i xs) x y (subst (λ (ys : List A). Contains ys y) more h.0)),
    );
  }

  pub keeping_kept : (xs : List A) (i : ℕ) (x : A) (kept : List A) → i < length xs → x ≡ get_or xs i x → IsWished wishes (key x) → IsKeeping xs i kept → IsKeeping xs (i + 1) (kept ++ x ∷ [])
  keeping_kept xs i x kept within is wished k = record {
    ascending = rw (add-one, append_assoc kept (x ∷ []) (drop (suc i) xs)) (whole xs i x kept within is k.ascending);
    those = λ y. let more = front_more xs i x within is in (
      λ h. ⊎_elim (λ (old : Contains kept y). let was = (k.those y).0 old in (subst (λ (ys : List A). Contains ys y) (sym more) (Contains-append_left (take i xs) (x ∷ []) y was.0), was.1))
          (λ (new : x ≡ y). (
            subst (λ (ys : List A). Contains ys y) (sym more) (subst (Contains (take i xs ++ x ∷ [])) new (Contains-push (take i xs) x)),
            subst (λ (z : A). IsWished wishes (key z)) new wished,
          ))
          (Contains-push_cases kept x y h),
      λ h. ⊎_elim (λ (old : Contains (take i xs) y). Contains-append_left kept (x ∷ []) y ((k.those y).1 (old, h.1)))
          (λ (new : x ≡ y). subst (Contains (kept ++ x ∷ [])) new (Contains-push kept x)) (Contains-push_cases (take i xs) x y (subst (λ (ys : List A). Contains ys y) more h.0)),
    );
  }

  pub keeping_all : (xs : List A) (i : ℕ) (kept : List A) → length xs ≤ i → IsKeeping xs i kept → KeepsWished key wishes xs kept
  keeping_all xs i kept over k = record {
    ascending = subst (IsAscending key) (ap (λ ys. kept ++ ys) (drop_all i xs over) ∙ append-nil kept) k.ascending;
    those = λ x. subst (λ (ys : List A). Contains kept x ↔ Contains ys x × IsWished wishes (key x)) (take_all i xs over) (k.those x);
  }
