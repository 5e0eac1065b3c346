-- Each backoff is due soon through the subroutine.
use Rattle.hn_base.proofs.Names.{◌≡◌, ℕ, ◌+◌, ◌%◌, ◌≤◌, List, [], ◌∷◌, Option, None, Some, IfSome, sym, subst, inl, inr, ⊎_elim, arith, All, HasAt}
use Rattle.hn_assign.proofs.Names.{PlainView, Advertised, Assigned, Wish, Backoff, Held, Ran, Slot, IfValid, IsLine, backoff_pair, wish_pair, PlainScene, scene_of, IsPairStep, AreSteps, IsSubroutine}
use Rattle.hn_pair.specs.Facts.{IsSoonDue}
use Rattle.hn_assign.proofs.AtPair.{pair_cases, is_had}
use Rattle.hn_assign.proofs.KeptFacts.{Each, each_all, all_each}

-- what a pair has is due soon
abbrev IsSoonAt : ℕ → Slot → Type 0
IsSoonAt now slot = IfSome slot.backoff (IsSoonDue now)

module _ (at : PlainScene) where
  valid_soon : (c : Assigned) (valid before after : Slot) → IfValid at c valid before after → IsSoonAt at.now valid → IsSoonAt at.now before → IsSoonAt at.now after
  valid_soon c valid before after (inl is) soon was = subst (IsSoonAt at.now) (sym is.1) soon
  valid_soon c valid before after (inr is) soon was = subst (IsSoonAt at.now) (sym is.1) was

  line_soon : (best : Option Advertised) (c : Option Assigned) (before after : Slot) (words : List ℕ) → IsLine at best c before words after → IsSoonAt at.now before → IsSoonAt at.now after
  line_soon None None before after words (inl left) was = subst (IsSoonAt at.now) (sym left.gives) tt
  line_soon None None before after words (inr (inl postponed)) was =
      let soon : at.now + postponed.word % 4001 ≤ at.now + 4000 = omega arith in
      subst (IsSoonAt at.now) (sym postponed.gives) soon
  line_soon None None before after words (inr (inr (inl waiting))) was = subst (IsSoonAt at.now) (sym waiting.gives) was
  line_soon None None before after words (inr (inr (inr made))) was = subst (IsSoonAt at.now) (sym made.gives) tt
  line_soon (Some best) None before after words line was = subst (IsSoonAt at.now) (sym line.0.gives) tt
  line_soon None (Some c) before after words (inl kept, none) was = valid_soon c before before after kept.gives was was
  line_soon None (Some c) before after words (inr adopted, none) was =
      valid_soon c (record before { assigned = Some (record c { published = Some 2 }) }) before after adopted.gives was was
  line_soon (Some best) (Some c) before after words (inl ahead, none) was = valid_soon c before before after ahead.gives was was
  line_soon (Some best) (Some c) before after words (inr (inl yielded), none) was = subst (IsSoonAt at.now) (sym yielded.gives) was
  line_soon (Some best) (Some c) before after words (inr (inr replaced), none) was = subst (IsSoonAt at.now) (sym replaced.gives) tt

module _ (view : PlainView) where
  had_soon : (wish : Wish) (xs : List Backoff) (has : Option Backoff) → HasAt backoff_pair (wish_pair wish) has xs → Each (IsSoonDue view.now) xs → IfSome has (IsSoonDue view.now)
  had_soon wish xs None has each = tt
  had_soon wish xs (Some b) has each = each b has.0

  some_soon : (o : Option Backoff) (b : Backoff) → o ≡ Some b → IfSome o (IsSoonDue view.now) → IsSoonDue view.now b
  some_soon None b is soon = absurd cc
  some_soon (Some d) b is soon = let same : d ≡ b = cc in subst (IsSoonDue view.now) same soon

  step_soon : (wish : Wish) (words : List ℕ) (before after : Ran) → IsPairStep view wish words before after
      → Each (IsSoonDue view.now) before.held.backoffs → Each (IsSoonDue view.now) after.held.backoffs
  step_soon wish words before after step each b there =
      let had = had_soon wish before.held.backoffs step.old.backoff step.had.backoff each in
      let new : IsSoonAt view.now step.new = line_soon (scene_of view wish step.advertised) step.turn.best step.old.assigned step.old step.new words step.turn.line had in
      ⊎_elim
      (λ (here : backoff_pair b ≡ wish_pair wish). some_soon step.new.backoff b
      (is_had backoff_pair (wish_pair wish) after.held.backoffs step.new.backoff b step.backoffs.ascending step.backoffs.here there here) new)
      (λ (other : ¬ (backoff_pair b ≡ wish_pair wish)). each b ((step.backoffs.others b other).0 there))
      (pair_cases (backoff_pair b) (wish_pair wish))

  steps_soon : (some : List Wish) (before after : Ran) → AreSteps view some before after
      → Each (IsSoonDue view.now) before.held.backoffs → Each (IsSoonDue view.now) after.held.backoffs
  steps_soon [] before after is each = subst (λ (r : Ran). Each (IsSoonDue view.now) r.held.backoffs) (sym is) each
  steps_soon (wish ∷ some) before after steps each = steps_soon some steps.0 after steps.3 (step_soon wish steps.1 before steps.0 steps.2 each)

  pub backoffs_soon : (wishes : List Wish) (held : Held) (ran : Ran) → IsSubroutine view wishes held ran
      → All (IsSoonDue view.now) held.backoffs → All (IsSoonDue view.now) ran.held.backoffs
  backoffs_soon wishes held ran run all =
      let begun : Each (IsSoonDue view.now) run.begun.held.backoffs = λ b there. all_each (IsSoonDue view.now) held.backoffs all b ((run.is_begun.backoffs.those b).0 there).0 in
      let last = steps_soon wishes run.begun run.last run.steps begun in
      subst (λ (r : Ran). All (IsSoonDue view.now) r.held.backoffs) (sym run.marks) (each_all (IsSoonDue view.now) run.last.held.backoffs last)
