-- Marks that are set, place by place.
use Rattle.hn_base.proofs.Names.{◌≡◌, ◌⊎◌, ◌≢◌, ℕ, ◌+◌, ◌<◌, Bool, true, false, not, cond, List, [], ◌∷◌, ◌++◌, length, get_or, set, refl, sym, ◌∙◌, ap, subst, inl, inr, ⊎_elim, arith, Contains}
use Rattle.hn_base.proofs.Names.{count_by, cases_eq, length-set, get_or-set_same, get_or-set_other, length_push, Contains-push, Contains-push_cases, Contains-append_left, sum_by-set}
use Rattle.hn_graph.proofs.Names.{nothing_in, IsPlaceMarked, HasMarked}

pub none_marked : (found : List Bool) (visits : List ℕ) → HasMarked [] found visits found visits
none_marked found visits = record {
  same_length = refl;
  marks_stay = λ k h. h;
  marks_given = λ k h. absurd (nothing_in k h);
  marks_only = λ k h. inl h;
  visits_stay = λ k h. h;
  visits_only = λ k h. inl h;
  as_many = refl;
}

-- a place that is marked already
pub mark_again : (places : List ℕ) (found : List Bool) (visits : List ℕ) (found' : List Bool) (visits' : List ℕ) (p : ℕ)
    → HasMarked places found visits found' visits' → IsPlaceMarked found' p → HasMarked (places ++ p ∷ []) found visits found' visits'
mark_again places found visits found' visits' p m is = record {
  same_length = m.same_length;
  marks_stay = m.marks_stay;
  marks_given = λ k h. ⊎_elim (m.marks_given k) (λ (e : p ≡ k). subst (IsPlaceMarked found') e is) (Contains-push_cases places p k h);
  marks_only = λ k h. ⊎_elim (λ (old : IsPlaceMarked found k). inl old)
      (λ (new : Contains places k × Contains visits' k). inr (Contains-append_left places (p ∷ []) k new.0, new.1)) (m.marks_only k h);
  visits_stay = m.visits_stay;
  visits_only = λ k h. ⊎_elim (λ (old : Contains visits k). inl old) (λ (new : Contains places k). inr (Contains-append_left places (p ∷ []) k new)) (m.visits_only k h);
  as_many = m.as_many;
}

set_stays : (found : List Bool) (p k : ℕ) → p < length found → IsPlaceMarked found k → IsPlaceMarked (set found p true) k
set_stays found p k lt h =
    ⊎_elim (λ (e : k ≡ p). rw e (get_or-set_same found p true false lt))
    (λ (ne : k ≢ p). get_or-set_other found p k true false ne ∙ h)
    (cases_eq k p)

set_only : (found : List Bool) (p k : ℕ) → IsPlaceMarked (set found p true) k → IsPlaceMarked found k ⊎ (p ≡ k)
set_only found p k h =
    ⊎_elim (λ (e : k ≡ p). inr (sym e))
    (λ (ne : k ≢ p). inl (sym (get_or-set_other found p k true false ne) ∙ h))
    (cases_eq k p)

-- one fewer is left to mark
pub count_set : (found : List Bool) (p : ℕ) → p < length found → get_or found p false ≡ false → count_by not (set found p true) + 1 ≡ count_by not found
count_set found p lt un =
    let e = sum_by-set (λ b. cond (not b) 1 0) found p true false lt in
    let one : ◌≡◌ {A = ℕ} (cond (not (get_or found p false)) 1 0) 1 = ap (λ b. cond (not b) 1 0) un in
    omega (arith, e, one)

-- a place that is not marked yet
pub mark_new : (places : List ℕ) (found : List Bool) (visits : List ℕ) (found' : List Bool) (visits' : List ℕ) (p : ℕ)
    → HasMarked places found visits found' visits' → p < length found' → get_or found' p false ≡ false → HasMarked (places ++ p ∷ []) found visits (set found' p true) (visits' ++ p ∷ [])
mark_new places found visits found' visits' p m lt un = record {
  same_length = length-set found' p true ∙ m.same_length;
  marks_stay = λ k h. set_stays found' p k lt (m.marks_stay k h);
  marks_given = λ k h. ⊎_elim (λ (old : Contains places k). set_stays found' p k lt (m.marks_given k old))
      (λ (e : p ≡ k). subst (IsPlaceMarked (set found' p true)) e (get_or-set_same found' p true false lt)) (Contains-push_cases places p k h);
  marks_only = λ k h. ⊎_elim (λ (was : IsPlaceMarked found' k). ⊎_elim (λ (old : IsPlaceMarked found k). inl old)
      (λ (new : Contains places k × Contains visits' k). inr (Contains-append_left places (p ∷ []) k new.0, Contains-append_left visits' (p ∷ []) k new.1)) (m.marks_only k was))
      (λ (e : p ≡ k). inr (subst (Contains (places ++ p ∷ [])) e (Contains-push places p), subst (Contains (visits' ++ p ∷ [])) e (Contains-push visits' p)))
      (set_only found' p k h);
  visits_stay = λ k h. Contains-append_left visits' (p ∷ []) k (m.visits_stay k h);
  visits_only = λ k h. ⊎_elim (λ (was : Contains visits' k). ⊎_elim (λ (old : Contains visits k). inl old)
      (λ (new : Contains places k). inr (Contains-append_left places (p ∷ []) k new)) (m.visits_only k was))
      (λ (e : p ≡ k). inr (subst (Contains (places ++ p ∷ [])) e (Contains-push places p)))
      (Contains-push_cases visits' p k h);
  as_many = (let one = count_set found' p lt un in let longer = length_push visits' p in let were = m.as_many in omega arith);
}
