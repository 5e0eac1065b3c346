use Rattle.hn_assign.proofs.OneResult.{subroutine_one}
use Rattle.hn_assign.proofs.laws.subroutine_has_one_result.Goals as goal

pub returns : goal.returns
returns c view wishes held a b stream p q at_a at_b = subroutine_one view wishes held stream a b p q at_a at_b
