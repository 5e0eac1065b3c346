use Rattle.hn_base.proofs.Names.{◌≡◌, ◌≤◌, ◌-◌, ℕ, List, length}
use Rattle.hn_play.proofs.Names.{HasWaiting, CopyEnds, Times, stage_of, Told}
use Rattle.hn_play.proofs.flowing.flow.Given as goal

-- the copies so far are treated
abbrev pub invariant-loop-copy : goal.invariant-loop-copy
invariant-loop-copy g l =
    let carrier = g.C.Carrier in
    record {
      treated : (text : List Told)
          → (n : ℕ) × Times HasWaiting CopyEnds n (stage_of l.fn.playing (carrier.route l.fn.carrier l.fn.outside) text) (stage_of l.playing (carrier.route l.carrier l.outside) text);
      kept : length l.fn.playing.world.parts.trace ≤ length l.playing.world.parts.trace;
      no_fault : carrier.faults l.outside ≡ carrier.faults l.fn.outside;
      reliable : carrier.never_fails l.fn.outside → carrier.never_fails l.outside;
    }

abbrev pub decreases-loop-copy : goal.decreases-loop-copy
decreases-loop-copy g l = 1000000 - length l.playing.world.parts.trace
