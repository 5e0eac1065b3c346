use Rattle.hn_assign.proofs.Names.{plain_view}
use Rattle.hn_assign.proofs.KeptFacts.{inside_stable, past_stable, priority_stable, subroutine_keeps}
use Rattle.hn_assign.proofs.subroutines.subroutine_with.Goals as goal

pub returns-clause-inside : goal.returns-clause-inside
returns-clause-inside g c =
    let view = plain_view c.args.view.now in
    subroutine_keeps view _ _ (inside_stable view _) c.args.held.now c.in_ok-left.left.0 c.in_ok-left.ensures.subroutine c.requires.inside

pub returns-clause-past : goal.returns-clause-past
returns-clause-past g c =
    let view = plain_view c.args.view.now in
    subroutine_keeps view _ _ (past_stable view _) c.args.held.now c.in_ok-left.left.0 c.in_ok-left.ensures.subroutine c.requires.past

pub returns-clause-priority : goal.returns-clause-priority
returns-clause-priority g c own =
    let view = plain_view c.args.view.now in
    subroutine_keeps view _ _ (priority_stable view _) c.args.held.now c.in_ok-left.left.0 c.in_ok-left.ensures.subroutine own
