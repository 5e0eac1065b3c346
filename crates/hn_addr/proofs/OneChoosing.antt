-- How the choosing goes on, and that it has one result over one stream of words.
use Rattle.hn_base.proofs.Names.{◌≡◌, ◌∙◌, ◌⊎◌, ℕ, ◌+◌, List, [], ◌∷◌, ◌++◌, Contains, filter, Option, Some, refl, sym, ap, subst, append_assoc, arith, IsTotalOrder, nat_cmp_total, on_total}
use Rattle.hn_base.proofs.Names.{then_total, append-nil, IsSoleBy, Begins, IsAt, Took}
use Rattle.hn_addr.proofs.Names.{Assigned, PlainView, OwnAddress, address_cmp, seen_by, State, Stays, IsFirstFit, counts, adding, KeepsOwn, DrawsOne, GetsNone, IsChosenFor, none_chosen, AreNext}
use Rattle.hn_addr.proofs.Names.{IsAddressStill, Draws, Keep, Set, Choosing}
use Rattle.std.proofs.Math.Nat.{zero-add}
use Rattle.hn_base.proofs.AscendingLists.{ascending_unique}
use Rattle.hn_base.proofs.FirstWords.{begins_along}
use Rattle.hn_base.proofs.FrontOfList.{head_is}
use Rattle.hn_base.proofs.OneResult.{sole_drawn, sole_given, sole_or, sole_where, sole_each}
use Rattle.hn_io.specs.Laws.{WordsJoin}
use Rattle.hn_addr.specs.Choosings.{ChoosingIsUnique}
use Rattle.hn_addr.specs.Laws.{ChoiceIsUnique}
use Rattle.hn_addr.proofs.LeastOwnAddress.{one_least}
use Rattle.hn_addr.proofs.FirstFittingNumber.{one_number}

-- ---- the words

no_words : (told : Option (ℕ → ℕ)) → Took told [] told
no_words told before stream at = subst (IsAt told stream) (sym (append-nil before)) at

pub draws_none : (told : Option (ℕ → ℕ)) (before after : List ℕ) → after ≡ before → Draws told before told after
draws_none told before after same = record { words = []; added = same ∙ sym (append-nil before); took = no_words told }

pub draws_more : (join : WordsJoin) (told told_between told_after : Option (ℕ → ℕ)) (before between after : List ℕ)
    → Draws told before told_between between → Draws told_between between told_after after → Draws told before told_after after
draws_more join told told_between told_after before between after a b = record {
  words = a.words ++ b.words;
  added = b.added ∙ ap (λ (ws : List ℕ). ws ++ b.words) a.added ∙ append_assoc before a.words b.words;
  took = join told told_between told_after a.words b.words a.took b.took;
}

-- from none on
pub took_all : (told told_after : Option (ℕ → ℕ)) (words : List ℕ) → Draws told [] told_after words → Took told words told_after
took_all told told_after words d = subst (λ (ws : List ℕ). Took told ws told_after) (sym d.added) d.took

-- words that were taken from a stream begin it
pub begins_taken : (stream : ℕ → ℕ) (told_after : Option (ℕ → ℕ)) (words : List ℕ) → Took (Some stream) words told_after → Begins words stream
begins_taken stream told_after words took =
    let at : IsAt (Some stream) stream [] = record { begins = λ i less. absurd (omega arith); rest = ap Some (simp zero-add) } in
    (took [] stream at).begins

-- ---- one result

module _ (view : PlainView) (own : List OwnAddress) (c : Assigned) where
  keeps_sole : IsSoleBy (λ (p : Choosing). p.words) (KeepsOwn view own c)
  keeps_sole = sole_drawn (λ (p : Choosing). p.words) (KeepsOwn view own c) (λ r a h. []) (λ r a h. ap (λ (p : Choosing). p.words) h.2) (λ r a b h k. refl)
      (λ r a b h k _.
      let same = one_least own c h.0 k.0 h.1.least k.1.least in
      h.2 ∙ ap (λ (x : ℕ). adding c.endpoint x [] r) same ∙ sym k.2)

  draws_sole : IsSoleBy (λ (p : Choosing). p.words) (DrawsOne view c)
  draws_sole = sole_drawn (λ (p : Choosing). p.words) (DrawsOne view c) (λ r a h. h.0 ∷ []) (λ r a h. ap (λ (p : Choosing). p.words) h.3) (λ r a b h k. refl)
      (λ r a b h k same.
      let word : h.0 ≡ k.0 = head_is same in
      let number : h.1 ≡ k.1 = one_number view c r.list k.0 h.1 k.1 (subst (λ (w : ℕ). IsFirstFit view c r.list w h.1) word h.2) k.2 in
      h.3 ∙ (λ i. adding c.endpoint (c.prefix.bits + number i) (word i ∷ []) r) ∙ sym k.3)

  none_sole : IsSoleBy (λ (p : Choosing). p.words) (GetsNone view c)
  none_sole = sole_given (λ (p : Choosing). p.words) (GetsNone view c) (λ r a h. ap (λ (p : Choosing). p.words) h.1) (λ r a b h k. h.1 ∙ sym k.1)

  pub chosen_sole : IsSoleBy (λ (p : Choosing). p.words) (IsChosenFor view own c)
  chosen_sole =
      let rest = sole_or (λ (p : Choosing). p.words) (DrawsOne view c) (GetsNone view c) draws_sole none_sole (λ r a b d n. n.0 d.1 d.2.fits) in
      sole_or (λ (p : Choosing). p.words) (KeepsOwn view own c) (λ r a. ((x : ℕ) → ¬ Stays view own c r.list x) × (DrawsOne view c r a ⊎ GetsNone view c r a)) keeps_sole
      (sole_where (λ (p : Choosing). p.words) (λ r. (x : ℕ) → ¬ Stays view own c r.list x) (λ r a. DrawsOne view c r a ⊎ GetsNone view c r a) rest)
      (λ r a b k n. n.0 k.0 k.1)

pub one_choosing : ChoosingIsUnique
one_choosing s a b stream of_a of_b at_a at_b =
    (sole_each (λ (p : Choosing). p.words) (IsChosenFor (seen_by s) s.addresses) (chosen_sole (seen_by s) s.addresses) (filter (counts s) s.held.assigned)).one
    stream none_chosen a b of_a of_b at_a at_b

-- ---- one list

-- an own address is told by two numbers
pub address_told : (a b : OwnAddress) → a.0.0 ≡ b.0.0 → a.1 ≡ b.1 → a ≡ b
address_told a b endpoint address = λ i. (record { 0 = endpoint i }, address i)

pub addresses_total : IsTotalOrder address_cmp
addresses_total = then_total (on_total (λ (a : OwnAddress). a.0.0) nat_cmp_total) (on_total (λ (a : OwnAddress). a.1) nat_cmp_total)

pub one_next : ChoosingIsUnique → (s : State) (a b : List OwnAddress) (v w : List ℕ) (stream : ℕ → ℕ) → AreNext s a v → AreNext s b w → Begins v stream → Begins w stream
    → (a ≡ b) × (v ≡ w)
one_next unique s a b v w stream x y at_v at_w =
    let same : x.end ≡ y.end = unique s x.end y.end stream x.chosen y.chosen (begins_along v x.end.words stream x.words_are at_v) (begins_along w y.end.words stream y.words_are at_w) in (
      ascending_unique address_cmp addresses_total a b x.ascending y.ascending (λ e. (
        λ there. (y.same e).1 (subst (λ (p : Choosing). Contains p.list e) same ((x.same e).0 there)),
        λ there. (x.same e).1 (subst (λ (p : Choosing). Contains p.list e) (sym same) ((y.same e).0 there)),
      )),
      x.words_are ∙ ap (λ (p : Choosing). p.words) same ∙ sym y.words_are,
    )

pub one_choice : ChoosingIsUnique → ChoiceIsUnique
one_choice unique s Keep Keep v w stream x y at_v at_w = (refl, (one_next unique s s.addresses s.addresses v w stream x y at_v at_w).1)
one_choice unique s Keep (Set list) v w stream x (y, other) at_v at_w = absurd (other (sym (one_next unique s s.addresses list v w stream x y at_v at_w).0))
one_choice unique s (Set list) Keep v w stream (x, other) y at_v at_w = absurd (other (one_next unique s list s.addresses v w stream x y at_v at_w).0)
one_choice unique s (Set a) (Set b) v w stream (x, _) (y, _) at_v at_w =
    let same = one_next unique s a b v w stream x y at_v at_w in (ap Set same.0, same.1)

-- ---- whether nothing is chosen anew

pub still_so : (s : State) (list : List OwnAddress) (words : List ℕ) → AreNext s list words → words ≡ [] → list ≡ s.addresses → IsAddressStill s
still_so s list words next none own = subst (λ (l : List OwnAddress). AreNext s l []) own (subst (AreNext s list) none next)

pub only_still : ChoosingIsUnique → (s : State) (list : List OwnAddress) (words : List ℕ) (told_after : Option (ℕ → ℕ)) → AreNext s list words
    → Took (Some (λ _. 0)) words told_after → IsAddressStill s → (words ≡ []) × (list ≡ s.addresses)
only_still unique s list words told_after next took still =
    let same = one_next unique s list s.addresses words [] (λ _. 0) next still (begins_taken (λ _. 0) told_after words took) (λ i less. absurd (omega arith)) in
    (same.1, same.0)
