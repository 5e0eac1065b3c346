use Rattle.hn_base.proofs.Names.{◌≡◌, ◌++◌, filter, map, nat_lt, take}
use Rattle.hn_rules.proofs.Names.{held_entry}
use Rattle.hn_rules.proofs.state.State.add_lower.Given as goal

abbrev pub invariant-loop-node : goal.invariant-loop-node
invariant-loop-node l = record {
  all : l.node-items ≡ l.self.table.entries;
  so_far : l.nodes.items ≡ l.initial.nodes.items ++ filter (λ n. nat_lt n.id.0 l.self.id.0) (map (held_entry l.self.moment) (take l.node-index l.node-items));
}
