use Rattle.hn_base.proofs.Names.{◌∙◌}
use Rattle.hn_typed.proofs.Names.{tlv_of, plain_item}
use Rattle.hn_typed.proofs.encoding.encode.Goals as goal

pub returns : goal.returns
returns c =
    let item = plain_item c.args.item.now in
    record {
      writable = c.read_is_writable.ensures (tlv_of item) item c.in_ok-write.ensures.read_back c.requires.short;
      spelled = c.from.ensures ∙ (rw c.new-bytes.ensures.items at c.in_ok-write.ensures.ok);
    }
