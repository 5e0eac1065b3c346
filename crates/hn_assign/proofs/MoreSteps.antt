-- Steps one after another.
use Rattle.hn_base.proofs.Names.{ℕ, List, [], ◌∷◌, ◌++◌, Option, refl, sym, subst, Took}
use Rattle.hn_assign.proofs.Names.{PlainView, Wish, Ran, IsPairStep, AreSteps}
use Rattle.hn_io.specs.Laws.{WordsJoin}
use Rattle.hn_assign.specs.Step.{StepTook}

-- one step more
pub steps_more : (view : PlainView) (wishes : List Wish) (wish : Wish) (words : List ℕ) (before between after : Ran)
    → AreSteps view wishes before between → IsPairStep view wish words between after → AreSteps view (wishes ++ wish ∷ []) before after
steps_more view [] wish words before between after same step = (after, words, subst (λ (r : Ran). IsPairStep view wish words r after) same step, refl)
steps_more view (w ∷ wishes) wish words before between after steps step = (steps.0, steps.1, steps.2, steps_more view wishes wish words steps.0 between after steps.3 step)

-- and its words
pub took_more : WordsJoin → (view : PlainView) (wish : Wish) (told told_between told_after : Option (ℕ → ℕ)) (between after : Ran)
    → Took told between.words told_between → StepTook view wish told_between told_after between after
    → Took told after.words told_after
took_more join view wish told told_between told_after between after took step =
    subst (λ (words : List ℕ). Took told words told_after) (sym step.step.took) (join told told_between told_after between.words step.words took step.drew)
