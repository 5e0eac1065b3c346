use Rattle.hn_base.proofs.Names.{◌≡◌, take, filter_map}
use Rattle.hn_rules.proofs.Names.{entry_of}
use Rattle.hn_rules.proofs.state.State.seen.Given as goal

abbrev pub invariant-loop-id : goal.invariant-loop-id
invariant-loop-id l = record {
  all : l.id-items ≡ l.self.reach;
  so_far : l.nodes.items ≡ filter_map (entry_of l.self) (take l.id-index l.id-items);
}
