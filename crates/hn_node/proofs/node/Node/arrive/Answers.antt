use Rattle.hn_base.proofs.Names.{on_ok_weaker}
use Rattle.hn_node.proofs.Names.{plain_site}
use Rattle.hn_node.proofs.Turned.{arrived}
use Rattle.hn_node.proofs.node.Node.arrive.Goals as goal

pub returns-in-Some-clause-ok : goal.returns-in-Some-clause-ok
returns-in-Some-clause-ok g c =
    rw c.in-Some.is (on_ok_weaker c.step.result (arrived (plain_site c.args.site.now) c.args.now c.in-Some.event _ _ _ _ _ _) c.step.ensures.ok)
