use Rattle.hn_audit.proofs.FixedPoints.{FixedLaws, changes_nothing, unchanged_rests, rest_has_a_run, anew_has_a_run}
use Rattle.hn_audit.proofs.laws.rest_is_the_fixed_point.Goals as goal

pub returns-clause-unchanged : goal.returns-clause-unchanged
returns-clause-unchanged c s ran router run rest =
    let laws : FixedLaws = record {
      one_list = c.usable_is_unique.ensures;
      advertised_exists = c.advertised_exists.ensures;
      rest = c.rest_is_unchanged.ensures;
      wished = c.subroutine_leaves.ensures.wished;
      pairs_total = c.pairs_are_ordered.ensures.total;
    } in
    changes_nothing laws s ran run rest router

pub returns-clause-rests : goal.returns-clause-rests
returns-clause-rests c s ran router run same =
    let laws : FixedLaws = record {
      one_list = c.usable_is_unique.ensures;
      advertised_exists = c.advertised_exists.ensures;
      rest = c.rest_is_unchanged.ensures;
      wished = c.subroutine_leaves.ensures.wished;
      pairs_total = c.pairs_are_ordered.ensures.total;
    } in
    unchanged_rests laws s ran run same router

pub returns-clause-comes : goal.returns-clause-comes
returns-clause-comes c = rest_has_a_run c.rest_has_a_run.ensures

pub returns-clause-runs : goal.returns-clause-runs
returns-clause-runs c = anew_has_a_run c.wishes_exist.ensures c.subroutine_has_a_result.ensures.due
