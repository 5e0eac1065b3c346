use Rattle.hn_assign.proofs.LeftInOrder.{assigned_ascend, backoffs_ascend, assigned_wished, backoffs_wished}
use Rattle.hn_assign.proofs.laws.subroutine_leaves.Goals as goal

pub returns-clause-assigned : goal.returns-clause-assigned
returns-clause-assigned c view wishes held ran run = assigned_ascend view wishes held ran run

pub returns-clause-backoffs : goal.returns-clause-backoffs
returns-clause-backoffs c view wishes held ran run = backoffs_ascend view wishes held ran run

pub returns-clause-wished : goal.returns-clause-wished
returns-clause-wished c view wishes held ran run = assigned_wished view wishes held ran run

pub returns-clause-awaited : goal.returns-clause-awaited
returns-clause-awaited c view wishes held ran run = backoffs_wished view wishes held ran run
