use Rattle.hn_base.proofs.Names.{take, All-more, All-weaker}
use Rattle.hn_watch.proofs.Names.{HasRoom}
use Rattle.hn_watch.proofs.Steps.{same_after}
use Rattle.hn_watch.proofs.remembered.Remembered.make_room.Goals as goal

pub returns-in_err-make_place-clause-same : goal.returns-in_err-make_place-clause-same
returns-in_err-make_place-clause-same c = same_after c.args.self.now c.loop-one.self c.make_place.new.self c.loop-one.invariant.same c.make_place.ensures.same

pub loop-one-preserved : goal.loop-one-preserved
loop-one-preserved c =
    let shown = c.args.shown.now in
    let place = c.loop-one.one-index in
    let before = HasRoom c.loop-one.self in
    let after = HasRoom c.make_place.new.self in
    record {
      same = same_after c.args.self.now c.loop-one.self c.make_place.new.self c.loop-one.invariant.same c.make_place.ensures.same;
      room = All-more after shown place _ c.loop-one-test.true (All-weaker before after c.make_place.ensures.stays (take place shown) c.loop-one.invariant.room) c.in_ok-make_place.ensures.room;
    }
