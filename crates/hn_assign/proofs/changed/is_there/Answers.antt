use Rattle.hn_base.proofs.Names.{◌∙◌, sym}
use Rattle.hn_assign.proofs.ChangedNodes.{there_if}
use Rattle.hn_assign.proofs.changed.is_there.Goals as goal

pub returns : goal.returns
returns c = λ yes. there_if c.args.nodes.now c.args.node.now c.place_of.result c.place_of.ensures.found (sym c.is_some.ensures ∙ yes)
