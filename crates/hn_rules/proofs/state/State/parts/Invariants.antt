use Rattle.hn_base.proofs.Names.{◌≡◌, take, filter_map}
use Rattle.hn_hash.specs.Network.{part_text}
use Rattle.hn_rules.proofs.Names.{part_of}
use Rattle.hn_rules.proofs.state.State.parts.Given as goal

abbrev pub invariant-loop-id : goal.invariant-loop-id
invariant-loop-id l = record {
  all : l.id-items ≡ l.self.reach;
  so_far : l.text.items ≡ part_text (filter_map (part_of l.self) (take l.id-index l.id-items));
}
