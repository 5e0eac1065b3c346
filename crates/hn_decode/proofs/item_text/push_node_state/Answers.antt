use Rattle.hn_base.proofs.Names.{codes, string_bytes, decimal, hex_text, id_text}
use Rattle.hn_decode.proofs.ItemLemmas.{added, four_fields}
use Rattle.hn_decode.proofs.item_text.push_node_state.Goals as goal

pub returns : goal.returns
returns c =
    let same = four_fields (codes "node-state node=") (id_text c.args.node.0) (codes " number=") (decimal c.args.number)
    (codes " age=") (decimal c.args.age) (codes " hash=") (hex_text c.as_slice.result.now) in
    rw (← c.as_slice.ensures) (added c.write.result (string_bytes c.args.out.now) (string_bytes c.write.new.self) _ _ same c.write.ensures.bytes)
