use Rattle.hn_base.proofs.Names.{◌↔◌, ◌∙◌, List, Contains, subst, IfOk-weaker}
use Rattle.hn_addr.proofs.Names.{Entry, seen_by, IsGivenByOne, IsOfNode}
use Rattle.hn_addr.specs.OfNodes.{AreOfNodes}
use Rattle.hn_addr.proofs.of_node.from_nodes.Goals as goal

pub returns : goal.returns
returns g c =
    let is_of = IsOfNode g.T.OfNode.says g.T.OfNode.makes in
    IfOk-weaker c.of_nodes.result
    (λ list. (x : g.row.T.Denot) → Contains list.items x ↔ IsGivenByOne is_of c.as_slice.result.now x)
    (λ list. AreOfNodes g.T.OfNode.says g.T.OfNode.makes (seen_by c.args.router.now) list.items)
    (λ list are. subst (λ (nodes : List Entry). (x : g.row.T.Denot) → Contains list.items x ↔ IsGivenByOne is_of nodes x) (c.as_slice.ensures.value ∙ c.in_ok-nodes.ensures) are)
    c.of_nodes.ensures
