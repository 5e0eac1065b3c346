use Rattle.hn_base.proofs.Names.{on_ok_weaker}
use Rattle.hn_addr.proofs.GrownByEach.{grown_by_node}
use Rattle.hn_addr.proofs.of_node.add_of_node.Goals as goal

pub returns : goal.returns
returns g c =
    on_ok_weaker c.add_of_parts.result
    (grown_by_node g.T.OfNode.says g.T.OfNode.makes c.args.node.now c.args.list.now.items c.add_of_parts.new.list.items c.parts.result.now
    (c.version.ensures.found.0 c.if-is_none.ensures) c.parts.ensures)
    c.add_of_parts.ensures
