-- Where two ticks go through the turn of a pair, which gets one prefix in both, and take the same words afterwards, they leave the
-- same assignments.
use Rattle.hn_base.proofs.Names.{◌≡◌, ◌∙◌, ◌+◌, ◌<◌, ℕ, List, [], ◌∷◌, ◌++◌, length, Contains, Option, Some, refl, sym, ap, subst, inl, inr, arith, append_assoc, append-nil, length-append, IsTotalOrder, IsExact, HasAt, on, on_total, Begins}
use Rattle.hn_base.proofs.AscendingLists.{ascending_unique}
use Rattle.hn_base.proofs.AtKey.{has_one}
use Rattle.hn_base.proofs.DecidingTests.{cases_by}
use Rattle.hn_base.proofs.FirstWords.{begins_front, begins_back, begins_both, begins_along}
use Rattle.hn_data.specs.View.{PlainView}
use Rattle.hn_pair.specs.declared.assigned.Assigned.{Assigned}
use Rattle.hn_pair.specs.declared.assigned.Wish.{Wish}
use Rattle.hn_pair.specs.declared.backoff.Backoff.{Backoff}
use Rattle.hn_pair.specs.declared.held.Held.{Held}
use Rattle.hn_assign.specs.declared.ran.Ran.{Ran}
use Rattle.hn_pair.specs.declared.pair.Pair.{Pair}
use Rattle.hn_assign.specs.declared.slot.Slot.{Slot}
use Rattle.hn_pair.specs.Pair.{Updates, assigned_pair, backoff_pair, wish_pair, pair_cmp}
use Rattle.hn_assign.specs.Subroutine.{AreSteps, with_marks}
use Rattle.hn_rules.specs.declared.running.Running.{Running}
use Rattle.hn_rules.specs.declared.state.State.{State}
use Rattle.hn_kept.specs.declared.preferred.Preferred.{Preferred}
use Rattle.hn_kept.specs.Anew.{IsMadeAnew, view_after, words_before}
use Rattle.hn_kept.proofs.ThroughTurns.{TurnLaws, WentThrough}
use Rattle.hn_kept.proofs.TurnOutcomes.{again_in, gets, same_new}

-- what a list has after an update is one
updates_one : {A : Type 0} (key : A → Pair) → IsTotalOrder pair_cmp → IsExact pair_cmp → (pair : Pair) (new : Option A) (before a b : List A)
    → Updates key pair new before a → Updates key pair new before b → a ≡ b
updates_one {A} key total exact pair new before a b p q =
    ascending_unique (on key pair_cmp) (on_total key total) a b p.ascending q.ascending (λ x. (along a b p q x, along b a q p x))
  where
    along : (a b : List A) → Updates key pair new before a → Updates key pair new before b → (x : A) → Contains a x → Contains b x
    along a b p q x there = elim (cases_by pair_cmp total exact (key x) pair) [
      | inl same ↦
          let is : Some x ≡ new = has_one key pair_cmp total pair a (Some x) new p.ascending (there, same) p.here in
          (subst (λ (o : Option A). HasAt key pair o b) (sym is) q.here).0
      | inr other ↦ (q.others x other).1 ((p.others x other).0 there)
    ]

-- steps do not look at the words that were taken before them
record Shifted (view : PlainView) (wishes : List Wish) (before after : Ran) : Type 0 where
  pub more : List ℕ
  pub took : after.words ≡ before.words ++ more
  pub steps : (words : List ℕ) → AreSteps view wishes (record before { words = words }) (record after { words = words ++ more })

shifted : (view : PlainView) (wishes : List Wish) (before after : Ran) → AreSteps view wishes before after → Shifted view wishes before after
shifted view [] before after same = record {
  more = [];
  took = ap (λ (r : Ran). r.words) same ∙ sym (append-nil before.words);
  steps = λ words. λ i. record { held = (same i).held; words = (append-nil words) i };
}
shifted view (wish ∷ wishes) before after (mid, taken, step, rest) =
    let later = shifted view wishes mid after rest in
    record {
      more = taken ++ later.more;
      took = later.took ∙ ap (λ (ws : List ℕ). ws ++ later.more) step.took ∙ append_assoc before.words taken later.more;
      steps = λ words. (
        record mid { words = words ++ taken },
        taken,
        record {
          advertised = step.advertised;
          are_advertised = step.are_advertised;
          old = step.old;
          had = step.had;
          new = step.new;
          turn = step.turn;
          assigned = step.assigned;
          backoffs = step.backoffs;
          took = refl;
        },
        subst (λ (ws : List ℕ). AreSteps view wishes (record mid { words = words ++ taken }) (record after { words = ws })) (append_assoc words taken later.more) (later.steps (words ++ taken)),
      );
    }

module _ (laws : TurnLaws) (now : ℕ) (s : State) (words : List ℕ) (f : Preferred) (anew : IsMadeAnew now s words f) (a b : Running)
    (p : WentThrough now s f anew.turn a) (q : WentThrough now s f anew.turn b)
    (same : (gets laws now s words f anew a p).0 ≡ (gets laws now s words f anew b q).0) where
  abbrev view : PlainView
  view = view_after anew.turn.lost

  -- the turn leaves the same
  new_is : p.step.new ≡ q.step.new
  new_is = same_new laws now s words f anew a b p q same

  same_next : p.next.held ≡ q.next.held
  same_next =
      let pair = wish_pair anew.turn.wish in
      let make : List Assigned → List Backoff → Held = λ x y. record { assigned = x; backoffs = y } in
      let assigned : p.next.held.assigned ≡ q.next.held.assigned =
      updates_one assigned_pair laws.total laws.exact pair q.step.new.assigned anew.turn.before.held.assigned p.next.held.assigned q.next.held.assigned
      (subst (λ (o : Slot). Updates assigned_pair pair o.assigned anew.turn.before.held.assigned p.next.held.assigned) new_is p.step.assigned) q.step.assigned in
      let backoffs : p.next.held.backoffs ≡ q.next.held.backoffs =
      updates_one backoff_pair laws.total laws.exact pair q.step.new.backoff anew.turn.before.held.backoffs p.next.held.backoffs q.next.held.backoffs
      (subst (λ (o : Slot). Updates backoff_pair pair o.backoff anew.turn.before.held.backoffs p.next.held.backoffs) new_is p.step.backoffs) q.step.backoffs in
      ap (λ x. make x p.next.held.backoffs) assigned ∙ ap (make q.next.held.assigned) backoffs

  -- the turn takes one word
  one_word : (end : Running) (went : WentThrough now s f anew.turn end) → length went.next.words ≡ length anew.turn.before.words + 1
  one_word end went =
      let taken = ap (λ (ws : List ℕ). length ws) ((again_in laws now s words f anew end went).takes) in
      let took = ap (λ (ws : List ℕ). length ws) went.step.took in
      omega (arith, taken, took, length-append anew.turn.before.words went.words)

  -- over streams that are the same behind that word, all is the same
  pub same_held : (t v : ℕ → ℕ) → Begins a.done.words t → Begins b.done.words v → ((i : ℕ) → length (words_before anew.turn) < i → t i ≡ v i) → a.state.held ≡ b.state.held
  same_held t v at_a at_b agree =
      let lost : List ℕ = anew.turn.lost.done.words in
      let one = shifted view anew.turn.later p.next p.last p.steps in
      let in_a : Begins (p.next.words ++ one.more) (λ i. t (length lost + i)) =
      begins_along p.last.words (p.next.words ++ one.more) (λ i. t (length lost + i)) one.took (last_begins a p t at_a) in
      let in_b : Begins (q.next.words ++ one.more) (λ i. v (length lost + i)) =
      begins_both q.next.words one.more (λ i. v (length lost + i)) (next_begins b q v at_b)
      (λ i within. begins_back p.next.words one.more (λ i. t (length lost + i)) in_a i within
      ∙ agree (length lost + (length p.next.words + i)) (behind i) ∙ ap v (same_place i)) in
      let from : AreSteps view anew.turn.later q.next (record p.last { words = q.next.words ++ one.more }) =
      subst (λ (r : Ran). AreSteps view anew.turn.later r (record p.last { words = q.next.words ++ one.more })) (λ i. record { held = same_next i; words = q.next.words }) (one.steps q.next.words) in
      let last : p.last.held ≡ q.last.held =
      ap (λ (r : Ran). r.held)
      (laws.steps view anew.turn.later q.next (record p.last { words = q.next.words ++ one.more }) q.last (λ i. v (length lost + i)) q.step.assigned.ascending q.step.backoffs.ascending
      from q.steps in_b (last_begins b q v at_b)) in
      p.held ∙ ap (λ (h : Held). (with_marks now (record { held = h; words = [] })).held) last ∙ sym q.held
    where
      last_begins : (end : Running) (went : WentThrough now s f anew.turn end) (stream : ℕ → ℕ) → Begins end.done.words stream
          → Begins went.last.words (λ i. stream (length anew.turn.lost.done.words + i))
      last_begins end went stream begins =
          begins_front went.last.words went.tail (λ i. stream (length anew.turn.lost.done.words + i))
          (begins_back anew.turn.lost.done.words (went.last.words ++ went.tail) stream
          (begins_along end.done.words (anew.turn.lost.done.words ++ (went.last.words ++ went.tail)) stream went.took_all begins))

      next_begins : (end : Running) (went : WentThrough now s f anew.turn end) (stream : ℕ → ℕ) → Begins end.done.words stream
          → Begins went.next.words (λ i. stream (length anew.turn.lost.done.words + i))
      next_begins end went stream begins =
          let later = shifted view anew.turn.later went.next went.last went.steps in
          begins_front went.next.words later.more (λ i. stream (length anew.turn.lost.done.words + i))
          (begins_along went.last.words (went.next.words ++ later.more) (λ i. stream (length anew.turn.lost.done.words + i)) later.took (last_begins end went stream begins))

      behind : (i : ℕ) → length (words_before anew.turn) < length anew.turn.lost.done.words + (length p.next.words + i)
      behind i =
          let many = length-append anew.turn.lost.done.words anew.turn.before.words in
          let one = one_word a p in
          omega (arith, many, one)

      same_place : (i : ℕ) → length anew.turn.lost.done.words + (length p.next.words + i) ≡ length anew.turn.lost.done.words + (length q.next.words + i)
      same_place i =
          let one = one_word a p in
          let two = one_word b q in
          omega (arith, one, two)
