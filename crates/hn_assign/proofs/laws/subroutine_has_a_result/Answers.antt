use Rattle.hn_assign.proofs.SomeRuns.{some_result, some_due_run}
use Rattle.hn_assign.proofs.laws.subroutine_has_a_result.Goals as goal

pub returns-clause-result : goal.returns-clause-result
returns-clause-result c = some_result c.advertised_exists.ensures (c.lists_exist.ensures.kept, c.lists_exist.ensures.updated)
    c.free_or_full.ensures c.inside_are_sub_prefixes.ensures c.within_is_not_shorter.ensures

pub returns-clause-due : goal.returns-clause-due
returns-clause-due c = some_due_run c.advertised_exists.ensures (c.lists_exist.ensures.kept, c.lists_exist.ensures.updated)
    c.free_or_full.ensures c.inside_are_sub_prefixes.ensures c.within_is_not_shorter.ensures
