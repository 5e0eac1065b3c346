use Rattle.hn_base.proofs.Names.{codes, string_bytes, decimal, id_text}
use Rattle.hn_decode.proofs.ItemLemmas.{added, two_fields}
use Rattle.hn_decode.proofs.item_text.push_node_endpoint.Goals as goal

pub returns : goal.returns
returns c =
    let same = two_fields (codes "node-endpoint node=") (id_text c.args.node.0) (codes " endpoint=") (decimal c.args.endpoint.0) in
    added c.write.result (string_bytes c.args.out.now) (string_bytes c.write.new.self) _ _ same c.write.ensures.bytes
