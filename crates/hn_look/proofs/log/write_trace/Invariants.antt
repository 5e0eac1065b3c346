use Rattle.hn_base.proofs.Names.{◌≡◌}
use Rattle.hn_look.proofs.Replays.{IsOnTheWay}
use Rattle.hn_look.proofs.log.write_trace.Given as goal

-- the events so far were replayed and told
abbrev pub invariant-loop-traced : goal.invariant-loop-traced
invariant-loop-traced g l =
    let sink = g.K.Sink in
    record {
      on_the_way : IsOnTheWay l.world.parts l.replay.parts l.traced-index (sink.held l.fn.out) (sink.held l.out);
      no_fault : sink.faults l.out ≡ sink.faults l.fn.out;
      reliable : sink.never_fails l.fn.out → sink.never_fails l.out;
    }
