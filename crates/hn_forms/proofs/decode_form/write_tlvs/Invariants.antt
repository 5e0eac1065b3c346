use Rattle.hn_base.proofs.Names.{◌≡◌, ◌-◌, ◌++◌, List, ℕ, length, Appends}
use Rattle.hn_forms.proofs.Names.{tlvs_line, IsTextTo}
use Rattle.hn_forms.proofs.decode_form.write_tlvs.Given as goal

-- the first line and the lines of the TLVs so far were written
abbrev pub invariant-loop-at : goal.invariant-loop-at
invariant-loop-at g l =
    let sink = g.K.Sink in
    record {
      written : (lines : List ℕ) × IsTextTo l.octets l.at lines × Appends (sink.held l.fn.out) (sink.held l.out) (tlvs_line l.count ++ lines);
      no_fault : sink.faults l.out ≡ sink.faults l.fn.out;
      reliable : sink.never_fails l.fn.out → sink.never_fails l.out;
    }

abbrev pub decreases-loop-at : goal.decreases-loop-at
decreases-loop-at g l = length l.octets - l.at
