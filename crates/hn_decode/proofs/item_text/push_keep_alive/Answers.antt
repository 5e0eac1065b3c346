use Rattle.hn_base.proofs.Names.{codes, string_bytes, decimal}
use Rattle.hn_decode.proofs.ItemLemmas.{added, two_fields}
use Rattle.hn_decode.proofs.item_text.push_keep_alive.Goals as goal

pub returns : goal.returns
returns c =
    let same = two_fields (codes "keep-alive endpoint=") (decimal c.args.endpoint.0) (codes " interval=") (decimal c.args.interval) in
    added c.write.result (string_bytes c.args.out.now) (string_bytes c.write.new.self) _ _ same c.write.ensures.bytes
