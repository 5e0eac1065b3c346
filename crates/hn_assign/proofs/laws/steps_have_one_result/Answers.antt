use Rattle.hn_assign.proofs.OneResult.{step_one, steps_one}
use Rattle.hn_assign.proofs.laws.steps_have_one_result.Goals as goal

pub returns-clause-step : goal.returns-clause-step
returns-clause-step c view wish taken others before a b stream assigned backoffs p q at_a at_b =
    step_one view wish stream taken others before a b (record { assigned = assigned; backoffs = backoffs }) p q at_a at_b

pub returns-clause-steps : goal.returns-clause-steps
returns-clause-steps c view wishes before a b stream assigned backoffs p q at_a at_b =
    steps_one view wishes stream before a b (record { assigned = assigned; backoffs = backoffs }) p q at_a at_b
