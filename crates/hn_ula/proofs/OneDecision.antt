-- What is decided by what was found, and that it is one thing.
use Rattle.hn_base.proofs.Names.{◌≡◌, ◌∙◌, ◌↔◌, ℕ, true, false, not, IsTrue, Option, Some, None, List, [], ◌∷◌, refl, sym, ap, subst, inl, inr, false≢true, not-true, not_from_false}
use Rattle.hn_base.proofs.Names.{false_from_ne_true, append-nil, IsAt, Took, Begins, PlainPrefix}
use Rattle.hn_ula.proofs.Names.{State, IsGreatestOwn, MustGo, HasTwo, IsToAnnounce, Withdraws, Announces, made_of, Ula, Keep, Announce, Withdraw, IsOwnFound}
use Rattle.hn_base.proofs.FirstCause.{both_lines}
use Rattle.hn_base.proofs.FirstWords.{same_taken, begins_along}
use Rattle.hn_base.proofs.FrontOfList.{head_is, tail_is}
use Rattle.hn_ula.specs.Ula.{Decides, IsUlaStill}
use Rattle.hn_ula.specs.Found.{IsFound}
use Rattle.hn_ula.specs.declared.found.Found.{Found}
use Rattle.hn_ula.proofs.GreatestOfNode.{same_of_both}

-- ---- one decision

one_greatest : (s : State) (p q : PlainPrefix) → IsGreatestOwn s p → IsGreatestOwn s q → p ≡ q
one_greatest s p q a b = same_of_both p q (a.greatest q b.own) (b.greatest p a.own)

one_withdrawn : (s : State) (a b : Ula) (v w : List ℕ) → Withdraws s a v → Withdraws s b w → (a ≡ b) × (v ≡ w)
one_withdrawn s a b v w (p, is_p, a_is, v_is) (q, is_q, b_is, w_is) = (a_is ∙ ap Withdraw (one_greatest s p q is_p is_q) ∙ sym b_is, v_is ∙ sym w_is)

one_announced : (a b : Ula) (v w : List ℕ) (stream : ℕ → ℕ) → Announces a v → Announces b w → Begins v stream → Begins w stream → (a ≡ b) × (v ≡ w)
one_announced a b v w stream (f, g, v_is, a_is) (h, k, w_is, b_is) at_v at_w =
    let same : f ∷ g ∷ [] ≡ h ∷ k ∷ [] = same_taken [] (f ∷ g ∷ []) (h ∷ k ∷ []) stream refl (begins_along v (f ∷ g ∷ []) stream v_is at_v) (begins_along w (h ∷ k ∷ []) stream w_is at_w) in
    let first : f ≡ h = head_is same in
    let second : g ≡ k = head_is (tail_is same) in
    (a_is ∙ (λ i. Announce (made_of (first i) (second i))) ∙ sym b_is, v_is ∙ same ∙ sym w_is)

pub one_decision : (s : State) (a b : Ula) (v w : List ℕ) (stream : ℕ → ℕ) → Decides s a v → Decides s b w → Begins v stream → Begins w stream → (a ≡ b) × (v ≡ w)
one_decision s a b v w stream x y at_v at_w =
    both_lines x y (one_withdrawn s a b v w)
    (λ x' y'. both_lines x' y' (one_withdrawn s a b v w)
    (λ x'' y''. both_lines x'' y'' (λ p q. one_announced a b v w stream p q at_v at_w)
    (λ p q. (p.0 ∙ sym q.0, p.1 ∙ sym q.1))))

-- ---- by what was found

-- no words are taken
pub no_words : (told : Option (ℕ → ℕ)) → Took told [] told
no_words told before stream at = subst (IsAt told stream) (sym (append-nil before)) at

module _ (s : State) (f : Found) (found : IsFound s f) where
  none_goes : f.own ≡ None → ¬ MustGo s
  none_goes is m = (subst (IsOwnFound s) is found.own) m.one m.has

  none_has_two : f.own ≡ None → ¬ HasTwo s
  none_has_two is two = (subst (IsOwnFound s) is found.own) two.0 two.2

  -- a router that has one announces none
  has_one : (p : PlainPrefix) → f.own ≡ Some p → IsGreatestOwn s p
  has_one p is = subst (IsOwnFound s) is found.own

  some_announces : (p : PlainPrefix) → f.own ≡ Some p → ¬ IsToAnnounce s
  some_announces p is a = a.none s.id.0 p (has_one p is).own

  pub by_first : (p : PlainPrefix) → f.own ≡ Some p → f.must_go ≡ true → Decides s (Withdraw p) []
  by_first p own goes = inl (found.must_go.0 goes, (p, has_one p own, refl, refl))

  pub by_second : (p : PlainPrefix) → f.own ≡ Some p → f.must_go ≡ false → f.has_two ≡ true → Decides s (Withdraw p) []
  by_second p own stays two = inr (λ m. false≢true (sym stays ∙ found.must_go.1 m), inl (found.has_two.0 two, (p, has_one p own, refl, refl)))

  pub by_third : (ula : Ula) (words : List ℕ) → f.own ≡ None → f.is_to_announce ≡ true → Announces ula words → Decides s ula words
  by_third ula words own is a = inr (none_goes own, inr (none_has_two own, inl (found.is_to_announce.0 is, a)))

  by_none : IsUlaStill s → Decides s Keep []
  by_none still = inr (still.0, inr (still.1, inr (still.2, (refl, refl))))

  still_with : (p : PlainPrefix) → f.own ≡ Some p → f.must_go ≡ false → f.has_two ≡ false → IsUlaStill s
  still_with p own stays one = (λ m. false≢true (sym stays ∙ found.must_go.1 m), λ two. false≢true (sym one ∙ found.has_two.1 two), some_announces p own)

  still_without : f.own ≡ None → f.is_to_announce ≡ false → IsUlaStill s
  still_without own is_not = (none_goes own, none_has_two own, λ a. false≢true (sym is_not ∙ found.is_to_announce.1 a))

  pub keeps_with : (p : PlainPrefix) → f.own ≡ Some p → f.must_go ≡ false → f.has_two ≡ false → Decides s Keep []
  keeps_with p own stays one = by_none (still_with p own stays one)

  pub keeps_without : f.own ≡ None → f.is_to_announce ≡ false → Decides s Keep []
  keeps_without own is_not = by_none (still_without own is_not)

  pub answer_with : (p : PlainPrefix) → f.own ≡ Some p → f.must_go ≡ false → IsTrue (not f.has_two) ↔ IsUlaStill s
  answer_with p own stays = (
    λ h. still_with p own stays (not-true f.has_two h),
    λ still. not_from_false f.has_two (false_from_ne_true f.has_two (λ two. still.1 (found.has_two.0 two))),
  )

  pub answer_without : f.own ≡ None → IsTrue (not f.is_to_announce) ↔ IsUlaStill s
  answer_without own = (
    λ h. still_without own (not-true f.is_to_announce h),
    λ still. not_from_false f.is_to_announce (false_from_ne_true f.is_to_announce (λ is. still.2 (found.is_to_announce.0 is))),
  )
