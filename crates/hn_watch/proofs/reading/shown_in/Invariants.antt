use Rattle.hn_base.proofs.Names.{◌-◌, length}
use Rattle.hn_watch.proofs.ShownLemmas.{IsShownTo}
use Rattle.hn_watch.proofs.reading.shown_in.Given as goal

abbrev pub invariant-loop-tlv : goal.invariant-loop-tlv
invariant-loop-tlv l = IsShownTo l.datagram l.place l.shown

abbrev pub decreases-loop-tlv : goal.decreases-loop-tlv
decreases-loop-tlv l = length l.datagram - l.place
