use Rattle.hn_base.proofs.Names.{◌-◌, length}
use Rattle.hn_data.proofs.Names.{AreKeptOf}
use Rattle.hn_data.proofs.DoneUpTo.{IsDoneTo}
use Rattle.hn_data.proofs.reading.add_all.Given as goal

abbrev pub invariant-loop-tlv : goal.invariant-loop-tlv
invariant-loop-tlv l = IsDoneTo (λ tlvs. AreKeptOf tlvs l.kept) l.bytes l.place

abbrev pub decreases-loop-tlv : goal.decreases-loop-tlv
decreases-loop-tlv l = length l.bytes - l.place
