use Rattle.hn_base.proofs.Names.{IfOk-weaker}
use Rattle.hn_ula.proofs.Names.{HasDelegation, AreOfNodes, seen_by, IsOfDelegation, AreGenerated}
use Rattle.hn_ula.proofs.GeneratedOfNodes.{are_generated}
use Rattle.hn_ula.proofs.generated.of_router.Goals as goal

pub returns : goal.returns
returns c =
    let view = seen_by c.args.router.now in
    IfOk-weaker c.from_nodes.result (λ list. AreOfNodes HasDelegation IsOfDelegation view list.items) (λ list. AreGenerated view list.items)
    (λ list are. are_generated view list.items are) c.from_nodes.ensures
