use Rattle.hn_base.proofs.Names.{◌+◌, ◌-◌, ◌*◌, length, string_bytes}
use Rattle.hn_decode.proofs.Names.{Shows, IsShownTo, GrowsByText}
use Rattle.hn_decode.proofs.nested.+nested.Given as goal

abbrev pub decreases-push_list : goal.decreases-push_list
decreases-push_list l = 2 * l.below + 1

abbrev pub decreases-push_tlv : goal.decreases-push_tlv
decreases-push_tlv l = 2 * l.below

abbrev pub invariant-push_list-loop-at : goal.invariant-push_list-loop-at
invariant-push_list-loop-at l = GrowsByText (IsShownTo (Shows l.below) l.place l.bytes l.at) (string_bytes l.initial.out) (string_bytes l.out)

abbrev pub decreases-push_list-loop-at : goal.decreases-push_list-loop-at
decreases-push_list-loop-at l = length l.bytes - l.at
