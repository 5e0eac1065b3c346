use Rattle.hn_base.proofs.Names.{filter_map, option_map, ◌≡◌, take}
use Rattle.hn_rules.proofs.Names.{leaf_of, entry_of}
use Rattle.hn_rules.proofs.state.State.leaves.Given as goal

abbrev pub invariant-loop-id : goal.invariant-loop-id
invariant-loop-id l = record {
  all : l.id-items ≡ l.self.reach;
  so_far : l.leaves.items ≡ filter_map (λ id. option_map leaf_of (entry_of l.self id)) (take l.id-index l.id-items);
}
