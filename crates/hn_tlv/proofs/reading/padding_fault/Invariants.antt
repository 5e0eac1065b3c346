use Rattle.hn_tlv.proofs.PadBytes.{AreZeros}
use Rattle.hn_tlv.proofs.reading.padding_fault.Given as goal

abbrev pub invariant-loop-place : goal.invariant-loop-place
invariant-loop-place l = AreZeros l.bytes l.place
