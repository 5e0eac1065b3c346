use Rattle.hn_world.proofs.OneStep.{one_told}
use Rattle.hn_world.proofs.laws.step_is_unique.Goals as goal

pub returns : goal.returns
returns c = one_told (record { one_result = c.one_result.ensures; one_new = c.new_is_unique.ensures })
