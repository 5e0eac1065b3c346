use Rattle.hn_base.proofs.Names.{arith}
use Rattle.hn_assign.proofs.Joined.{moved_more, moved_all}
use Rattle.hn_assign.proofs.renewing.add_below.Goals as goal

pub loop-place-preserved : goal.loop-place-preserved
loop-place-preserved c = record {
  within = omega arith;
  moved = rw c.in_ok-push.ensures.items
      (moved_more c.loop-place.all.items c.args.fresh.now _ c.loop-place.place c.index-fresh-place-in-loop-place.result c.loop-place-test.true
      c.index-fresh-place-in-loop-place.is c.loop-place.invariant.moved);
}

pub returns-clause-moved : goal.returns-clause-moved
returns-clause-moved c = moved_all c.loop-place.all.items c.args.fresh.now _ c.loop-place.place (omega arith) c.loop-place.invariant.moved
