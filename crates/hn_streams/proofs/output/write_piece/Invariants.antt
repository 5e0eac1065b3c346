use Rattle.hn_base.proofs.Names.{◌≡◌, List, ℕ, ◌++◌, length, Appends}
use Rattle.hn_streams.proofs.output.write_piece.Given as goal

-- a front of the piece was written, and the rest is left
abbrev pub invariant-loop-rest : goal.invariant-loop-rest
invariant-loop-rest g l =
    let sink = g.K.Sink in
    record {
      written : (front : List ℕ) × (l.piece ≡ front ++ l.rest) × Appends (sink.held l.fn.out) (sink.held l.out) front;
      no_fault : sink.faults l.out ≡ sink.faults l.fn.out;
      reliable : sink.never_fails l.fn.out → sink.never_fails l.out;
    }

abbrev pub decreases-loop-rest : goal.decreases-loop-rest
decreases-loop-rest g l = length l.rest
