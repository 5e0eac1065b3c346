use Rattle.hn_base.proofs.Names.{subst, sym}
use Rattle.hn_rules.proofs.Names.{plain_state, IsTable}
use Rattle.hn_rules.proofs.ReachStays.{takes_where}
use Rattle.hn_rules.proofs.running.Running.take_new.Goals as goal

pub returns-clause-known : goal.returns-clause-known
returns-clause-known c is known =
    takes_where c.same_links_reach.ensures c.held_is_of_an_entry.ensures c.others_stay.ensures c.put_changes_one_node.ensures (plain_state c.args.carried.now) c.in_ok-how.how
    c.args.self.now c.take_in.new.self c.in_ok-before.before (subst IsTable c.get.ensures c.entries-before.ensures.valid) (subst IsTable c.get-2.ensures c.entries-after.ensures.valid)
    c.in_ok-how.ensures c.in_ok-before.ensures (c.leads_as-known.ensures is) known
