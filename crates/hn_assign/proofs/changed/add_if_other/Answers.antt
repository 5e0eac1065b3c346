use Rattle.hn_assign.specs.Changed.{SaidSame}
use Rattle.hn_assign.proofs.ChangedNodes.{told_so, told_pushed}
use Rattle.hn_assign.proofs.changed.add_if_other.Goals as goal

pub returns-then-said_same : goal.returns-then-said_same
returns-then-said_same c = told_so (SaidSame c.args.before.now) c.args.node.now c.args.ids.now.items (c.said_same.ensures c.if-said_same.true)

pub returns : goal.returns
returns c = rw c.in_ok-push.ensures.items (told_pushed (SaidSame c.args.before.now) c.args.node.now c.args.ids.now.items)
