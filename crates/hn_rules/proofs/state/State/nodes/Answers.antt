use Rattle.hn_base.proofs.Names.{arith, subst, common_steps}
use Rattle.hn_rules.proofs.Names.{IsTable}
use Rattle.hn_rules.proofs.NodeLists.{nodes_are_network}
use Rattle.hn_rules.proofs.state.State.nodes.Goals as goal

pub returns-clause-network : goal.returns-clause-network
returns-clause-network c =
    let held_is_table : IsTable c.args.self.now.table = subst IsTable c.get.ensures c.entries-held.ensures.valid in
    nodes_are_network c.args.self.now c.add_greater.new.nodes.items held_is_table (grind (arith, common_steps))
