use Rattle.hn_base.proofs.Names.{◌≡◌, ◌-◌, ◌++◌, List, ℕ, length, string_bytes}
use Rattle.hn_decode.proofs.Names.{tlvs_line, IsTextTo}
use Rattle.hn_decode.proofs.datagram.decode.Given as goal

-- the first line, and the lines of the TLVs so far
abbrev pub invariant-loop-at : goal.invariant-loop-at
invariant-loop-at l = (lines : List ℕ) × IsTextTo l.bytes l.at lines × (string_bytes l.out ≡ tlvs_line l.count ++ lines)

abbrev pub decreases-loop-at : goal.decreases-loop-at
decreases-loop-at l = length l.bytes - l.at
