use Rattle.hn_base.proofs.Names.{◌≡◌, ◌<◌, ◌-◌, List, None, length}
use Rattle.hn_play.proofs.Names.{Round, Stage, stage_of, Told, EndsAt}
use Rattle.hn_play.proofs.RunTimes.{SomeTimes}
use Rattle.hn_play.proofs.rounds.run.Given as goal

-- rounds so far
abbrev pub invariant-loop-alloc : goal.invariant-loop-alloc
invariant-loop-alloc g l =
    let carrier = g.C.Carrier in
    let sink = g.K.Sink in
    record {
      rounds : (text : List Told) → EndsAt (SomeTimes (λ (p : Stage). p.world.moment < l.end) (Round l.end l.step)) None
          (stage_of l.fn.playing (carrier.route l.fn.carrier l.fn.outside) text) (stage_of l.playing (carrier.route l.carrier l.outside) text) (sink.held l.fn.out) (sink.held l.out);
      no_fault : carrier.faults l.outside ≡ carrier.faults l.fn.outside;
      reliable : carrier.never_fails l.fn.outside → carrier.never_fails l.outside;
      no_sink_fault : sink.faults l.out ≡ sink.faults l.fn.out;
      sink_reliable : sink.never_fails l.fn.out → sink.never_fails l.out;
    }

abbrev pub decreases-loop-alloc : goal.decreases-loop-alloc
decreases-loop-alloc g l = 1000000 - length l.playing.world.parts.trace
