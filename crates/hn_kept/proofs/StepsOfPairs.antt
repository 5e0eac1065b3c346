-- Steps of some pairs, one after another: what they take, and what they leave.
use Rattle.hn_base.proofs.Names.{◌≡◌, ◌∙◌, ◌↔◌, ℕ, List, [], ◌∷◌, ◌++◌, Contains, refl, sym, ap, subst, append-nil, append_assoc}
use Rattle.hn_base.proofs.AscendingLists.{Contains-head, Contains-tail}
use Rattle.hn_data.specs.View.{PlainView}
use Rattle.hn_pair.specs.declared.assigned.Assigned.{Assigned}
use Rattle.hn_pair.specs.declared.assigned.Wish.{Wish}
use Rattle.hn_assign.specs.declared.ran.Ran.{Ran}
use Rattle.hn_pair.specs.Pair.{IsAscending, assigned_pair, backoff_pair, wish_pair}
use Rattle.hn_assign.specs.Subroutine.{AreSteps}

module _ (view : PlainView) where
  -- of some pairs, and then of others
  pub steps_split : (earlier later : List Wish) (before after : Ran) → AreSteps view (earlier ++ later) before after
      → (between : Ran) × AreSteps view earlier before between × AreSteps view later between after
  steps_split [] later before after steps = (before, refl, steps)
  steps_split (w ∷ ws) later before after (mid, words, step, rest) =
      let (between, front, back) = steps_split ws later mid after rest in (between, (mid, words, step, front), back)

  -- they only take more words
  pub steps_take : (wishes : List Wish) (before after : Ran) → AreSteps view wishes before after → (words : List ℕ) × (after.words ≡ before.words ++ words)
  steps_take [] before after same = ([], ap (λ (r : Ran). r.words) same ∙ sym (append-nil before.words))
  steps_take (w ∷ ws) before after (mid, words, step, rest) =
      let (more, is) = steps_take ws mid after rest in
      (words ++ more, is ∙ ap (λ (vs : List ℕ). vs ++ more) step.took ∙ append_assoc before.words words more)

  -- both lists ascend
  pub steps_ascend : (wishes : List Wish) (before after : Ran) → AreSteps view wishes before after
      → IsAscending assigned_pair before.held.assigned → IsAscending backoff_pair before.held.backoffs
      → IsAscending assigned_pair after.held.assigned × IsAscending backoff_pair after.held.backoffs
  steps_ascend [] before after same assigned backoffs = (
    subst (λ (r : Ran). IsAscending assigned_pair r.held.assigned) (sym same) assigned,
    subst (λ (r : Ran). IsAscending backoff_pair r.held.backoffs) (sym same) backoffs,
  )
  steps_ascend (w ∷ ws) before after (mid, words, step, rest) assigned backoffs = steps_ascend ws mid after rest step.assigned.ascending step.backoffs.ascending

  -- what other pairs have stays
  pub others_stay : (wishes : List Wish) (before after : Ran) (c : Assigned) → AreSteps view wishes before after
      → ((wish : Wish) → Contains wishes wish → ¬ (assigned_pair c ≡ wish_pair wish)) → Contains after.held.assigned c ↔ Contains before.held.assigned c
  others_stay [] before after c same not = (
    λ h. subst (λ (r : Ran). Contains r.held.assigned c) same h,
    λ h. subst (λ (r : Ran). Contains r.held.assigned c) (sym same) h,
  )
  others_stay (w ∷ ws) before after c (mid, words, step, rest) not =
      let later = others_stay ws mid after c rest (λ v there. not v (Contains-tail w ws v there)) in
      let here = step.assigned.others c (not w (Contains-head w ws)) in
      (λ h. here.0 (later.0 h), λ h. later.1 (here.1 h))
