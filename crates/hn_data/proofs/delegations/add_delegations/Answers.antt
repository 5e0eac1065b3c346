use Rattle.hn_base.proofs.Names.{on_ok_weaker}
use Rattle.hn_data.proofs.OneMoreItem.{inner_more, inner_in_order}
use Rattle.hn_data.proofs.delegations.add_delegations.Goals as goal

pub returns-in-External-clause-exact : goal.returns-in-External-clause-exact
returns-in-External-clause-exact c =
    let subs = c.in-External.subs.now in
    rw c.in-External.is (on_ok_weaker c.add_inner.result
    (inner_more subs c.args.list.now.items c.add_inner.new.list.items (c.items_are_unique.ensures subs)) c.add_inner.ensures)

pub returns-in-External-clause-in_order : goal.returns-in-External-clause-in_order
returns-in-External-clause-in_order c =
    rw c.in-External.is (on_ok_weaker c.add_inner.result (inner_in_order c.in-External.subs.now c.args.list.now.items c.add_inner.new.list.items) c.add_inner.ensures)
