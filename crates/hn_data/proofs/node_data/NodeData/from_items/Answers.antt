use Rattle.hn_base.proofs.Names.{subst, IfOk-weaker}
use Rattle.hn_data.proofs.Names.{AreBytes}
use Rattle.hn_data.proofs.WrittenPieces.{set_is_written, reads_written}
use Rattle.hn_data.proofs.node_data.NodeData.from_items.Goals as goal

pub read_data-requires : goal.read_data-requires
read_data-requires c =
    let are : AreBytes c.in_ok-bytes.bytes = subst AreBytes c.as_slice.ensures c.are_bytes.ensures in
    let written = set_is_written c.spelling_is_prefix_free.ensures c.item_is_unique.ensures c.written_is_read.ensures c.args.items.now c.in_ok-bytes.bytes c.requires are c.in_ok-bytes.ensures in
    (written.tlvs, written.list)

pub returns-clause-items : goal.returns-clause-items
returns-clause-items c =
    let are : AreBytes c.in_ok-bytes.bytes = subst AreBytes c.as_slice.ensures c.are_bytes.ensures in
    let written = set_is_written c.spelling_is_prefix_free.ensures c.item_is_unique.ensures c.written_is_read.ensures c.args.items.now c.in_ok-bytes.bytes c.requires are c.in_ok-bytes.ensures in
    IfOk-weaker c.read_data.result _ _ (λ d same. reads_written c.args.items.now c.in_ok-bytes.bytes d same written) c.read_data.ensures
