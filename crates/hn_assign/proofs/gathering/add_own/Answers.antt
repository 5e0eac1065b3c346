use Rattle.hn_base.proofs.Names.{◌↔◌, ◌⊎◌, List, Contains, subst, take_all}
use Rattle.hn_assign.proofs.Names.{Assigned, IsOwn}
use Rattle.hn_assign.proofs.GrownByEach.{Of, grown_more}
use Rattle.hn_assign.proofs.gathering.add_own.Goals as goal

pub loop-c-preserved : goal.loop-c-preserved
loop-c-preserved c =
    grown_more (IsOwn c.args.own.0) c.args.items.now.items c.loop-c.items.items c.add_assigned.new.items.items c.args.assigned.now c.loop-c.c-index c.c-item.result
    c.loop-c-test.true c.c-item.is c.loop-c.invariant c.in_ok-add_assigned.ensures

pub returns : goal.returns
returns c a =
    subst (λ (seen : List Assigned). Contains c.loop-c.items.items a ↔ (Contains c.args.items.now.items a ⊎ Of (IsOwn c.args.own.0) seen a))
    (take_all c.loop-c.c-index c.args.assigned.now c.loop-c-test.false) (c.loop-c.invariant a)
