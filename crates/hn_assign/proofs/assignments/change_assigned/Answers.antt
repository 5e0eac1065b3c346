use Rattle.hn_base.proofs.Names.{refl}
use Rattle.hn_assign.proofs.Published.{advertise_same, advertise_as_before, if_not}
use Rattle.hn_assign.proofs.assignments.change_assigned.Goals as goal

pub returns-then-eq-clause-unchanged : goal.returns-then-eq-clause-unchanged
returns-then-eq-clause-unchanged c unchanged = advertise_as_before _ _ refl

pub returns-clause-unchanged : goal.returns-clause-unchanged
returns-clause-unchanged c unchanged =
    advertise_same c.args.pair.now c.args.old.now c.args.new.now c.args.assigned.now _ c.as_slice-ascending.ensures.ascending c.requires.had c.in_ok-set.ensures
    (c.publish_same.ensures (if_not c.publish_same.result unchanged))
