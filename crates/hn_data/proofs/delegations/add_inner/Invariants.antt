use Rattle.hn_base.proofs.Names.{◌≡◌, ◌-◌, List, ◌++◌, length, filter_map}
use Rattle.hn_data.proofs.Names.{PlainItem, IsReading, delegation_of}
use Rattle.hn_data.proofs.DoneUpTo.{IsDoneTo}
use Rattle.hn_data.proofs.delegations.add_inner.Given as goal

abbrev pub invariant-loop-tlv : goal.invariant-loop-tlv
invariant-loop-tlv l = IsDoneTo (λ tlvs. (items : List PlainItem) × IsReading tlvs items × (l.list.items ≡ l.initial.list.items ++ filter_map delegation_of items)) l.subs l.place

abbrev pub decreases-loop-tlv : goal.decreases-loop-tlv
decreases-loop-tlv l = length l.subs - l.place
