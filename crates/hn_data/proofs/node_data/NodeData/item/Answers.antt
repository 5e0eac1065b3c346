use Rattle.hn_base.proofs.Names.{subst}
use Rattle.hn_data.proofs.Names.{PlainTlv, IsTlvAt, plain, Decodes}
use Rattle.hn_data.proofs.DoneUpTo.{decodes}
use Rattle.hn_data.proofs.node_data.NodeData.item.Goals as goal

pub returns-clause-place : goal.returns-clause-place
returns-clause-place c =
    let before = c.requires.before in
    let here : IsTlvAt c.args.self.now c.args.at (plain c.in_ok-tlv.tlv) c.in_ok-tlv.after = rw c.bytes.ensures at c.in_ok-tlv.ensures.found in
    record { within = here.within; before = (_, c.list_grows.ensures c.args.self.now c.args.at c.in_ok-tlv.after (plain c.in_ok-tlv.tlv) before.0 before.1 here) }

pub returns-clause-at_tlv : goal.returns-clause-at_tlv
returns-clause-at_tlv c tlv after there =
    let found = plain c.in_ok-tlv.tlv in
    let here : IsTlvAt c.args.self.now c.args.at found c.in_ok-tlv.after = rw c.bytes.ensures at c.in_ok-tlv.ensures.found in
    let same = c.tlv_is_unique.ensures c.args.self.now c.args.at c.in_ok-tlv.after after found tlv here there in
    (subst (λ (t : PlainTlv). Decodes t c.read.result) same.0 (decodes found c.read.result c.read.ensures.item c.read.ensures.fault c.read.ensures.fault_kind), same.1)
