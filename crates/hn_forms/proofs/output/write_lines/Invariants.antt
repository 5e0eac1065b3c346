use Rattle.hn_base.proofs.Names.{◌≡◌, List, ℕ, ◌++◌, length, Appends}
use Rattle.hn_forms.proofs.output.write_lines.Given as goal

-- a front of the text was written, and the rest is left
abbrev pub invariant-loop-end : goal.invariant-loop-end
invariant-loop-end g l =
    let sink = g.K.Sink in
    record {
      written : (front : List ℕ) × (l.text ≡ front ++ l.rest) × Appends (sink.held l.fn.out) (sink.held l.out) front;
      no_fault : sink.faults l.out ≡ sink.faults l.fn.out;
      reliable : sink.never_fails l.fn.out → sink.never_fails l.out;
    }

abbrev pub decreases-loop-end : goal.decreases-loop-end
decreases-loop-end g l = length l.rest
