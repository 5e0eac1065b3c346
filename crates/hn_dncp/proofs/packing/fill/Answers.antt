use Rattle.hn_base.proofs.Names.{◌≡◌, ◌∙◌, ℕ, List, ◌++◌, length, take, inr, ap, sym, arith, length-append}
use Rattle.hn_dncp.proofs.Names.{datagram_of}
use Rattle.hn_dncp.proofs.OneTlvMore.{datagram_of-take_more}
use Rattle.hn_dncp.proofs.packing.fill.Goals as goal

pub loop-count-preserved : goal.loop-count-preserved
loop-count-preserved c =
    let before = c.loop-count.datagram.items in
    let tlv = c.as_slice-tlv.result.now in
    let longer : c.extend_from_slice-in-loop-count.new.self.items ≡ before ++ tlv = c.in_ok-extend_from_slice-2.ensures.items in
    let more = datagram_of-take_more c.args.own c.args.endpoint c.args.tlvs.now c.loop-count.count c.index-tlvs-count.result c.loop-count-test.true in
    record {
      datagram_is = longer ∙ ap (λ (bytes : List ℕ). bytes ++ tlv) c.loop-count.invariant.datagram_is
          ∙ ap (λ (bytes : List ℕ). datagram_of c.args.own c.args.endpoint (take c.loop-count.count c.args.tlvs.now) ++ bytes) (c.as_slice-tlv.ensures ∙ c.index-tlvs-count.is) ∙ sym more;
      within = inr (omega (arith, ap length longer, length-append before tlv));
    }
