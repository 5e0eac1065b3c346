use Rattle.hn_assign.specs.Changed.{HasNodeOf}
use Rattle.hn_assign.proofs.ChangedNodes.{told_so, told_pushed}
use Rattle.hn_assign.proofs.changed.add_if_gone.Goals as goal

pub returns-then-is_there : goal.returns-then-is_there
returns-then-is_there c = told_so (HasNodeOf c.args.after.now) c.args.was.now c.args.ids.now.items (c.is_there.ensures c.if-is_there.true)

pub returns : goal.returns
returns c = rw c.in_ok-push.ensures.items (told_pushed (HasNodeOf c.args.after.now) c.args.was.now c.args.ids.now.items)
