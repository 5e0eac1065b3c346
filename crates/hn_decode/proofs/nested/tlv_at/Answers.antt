use Rattle.hn_decode.proofs.TextSoFar.{read_in_list}
use Rattle.hn_decode.proofs.nested.tlv_at.Goals as goal

pub unwrap-requires : goal.unwrap-requires
unwrap-requires c = read_in_list c.first_fault_is_unique.ensures.no_list c.args.bytes.now c.args.at c.next.result c.requires.list c.next.ensures.fault
