use Rattle.hn_data.proofs.Names.{plain, AreKeptOf}
use Rattle.hn_data.proofs.DoneUpTo.{done_more}
use Rattle.hn_data.proofs.reading.add_all.Goals as goal

pub loop-tlv-preserved : goal.loop-tlv-preserved
loop-tlv-preserved c =
    done_more c.list_grows.ensures (λ tlvs. AreKeptOf tlvs c.loop-tlv.kept) (λ tlvs. AreKeptOf tlvs c.add.new.self)
    c.args.bytes.now c.loop-tlv.place c.in-Some.after (plain c.in-Some.tlv) c.in-Some.ensures.found c.in_ok-add.ensures c.loop-tlv.invariant
