use Rattle.hn_base.proofs.Names.{◌≡◌, ◌≤◌, List, None, length, take}
use Rattle.hn_play.proofs.Names.{EachProcess, TickEnds, Route, stage_of, Told, EndsAt}
use Rattle.hn_play.proofs.rounds.ticks_of.Given as goal

-- the routers so far have ticked
abbrev pub invariant-loop-name : goal.invariant-loop-name
invariant-loop-name g l =
    let sink = g.K.Sink in
    record {
      ticked : (route : Route) (text : List Told)
          → EndsAt (EachProcess TickEnds (take l.name-index l.names)) None (stage_of l.fn.playing route text) (stage_of l.playing route text) (sink.held l.fn.out) (sink.held l.out);
      kept : length l.fn.playing.world.parts.trace ≤ length l.playing.world.parts.trace;
      no_fault : sink.faults l.out ≡ sink.faults l.fn.out;
      reliable : sink.never_fails l.fn.out → sink.never_fails l.out;
    }
