use Rattle.hn_base.proofs.Names.{on_ok_weaker}
use Rattle.hn_deleg.proofs.Live.{live_added}
use Rattle.hn_deleg.proofs.announcements.add_node.Goals as goal

pub returns-clause-added : goal.returns-clause-added
returns-clause-added c =
    on_ok_weaker c.add_live.result
    (live_added c.args.node.now c.args.list.now.items c.add_live.new.list.items c.delegations.result.now (c.version.ensures.found.0 c.if-is_none.ensures) c.delegations.ensures.exact)
    c.add_live.ensures.added
