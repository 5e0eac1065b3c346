use Rattle.hn_base.proofs.Names.{◌≡◌, List, None, take}
use Rattle.hn_play.proofs.Names.{EachProcess, TurnEnds, Route, stage_of, Told, EndsAt}
use Rattle.hn_play.proofs.sending.turns.Given as goal

-- the endpoints so far had their turns
abbrev pub invariant-loop-endpoint : goal.invariant-loop-endpoint
invariant-loop-endpoint g l =
    let sink = g.K.Sink in
    record {
      turned : (route : Route) (text : List Told)
          → EndsAt (EachProcess (TurnEnds l.name) (take l.endpoint-index l.endpoints)) None (stage_of l.fn.playing route text) (stage_of l.playing route text)
          (sink.held l.fn.out) (sink.held l.out);
      world : l.playing.world ≡ l.fn.playing.world;
      no_fault : sink.faults l.out ≡ sink.faults l.fn.out;
      reliable : sink.never_fails l.fn.out → sink.never_fails l.out;
    }
