use Rattle.hn_base.proofs.Names.{◌-◌, length}
use Rattle.hn_tlv.proofs.TlvAtPlace.{IsReadTo}
use Rattle.hn_tlv.proofs.reading.check.Given as goal

abbrev pub invariant-loop-after : goal.invariant-loop-after
invariant-loop-after l = IsReadTo l.bytes l.at l.count

abbrev pub decreases-loop-after : goal.decreases-loop-after
decreases-loop-after l = length l.bytes - l.at
