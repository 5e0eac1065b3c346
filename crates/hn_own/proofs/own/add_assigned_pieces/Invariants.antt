use Rattle.hn_base.proofs.Names.{◌≡◌, ◌++◌, map, take, All}
use Rattle.hn_own.proofs.Names.{IsWritable, assigned_item, encodings}
use Rattle.hn_own.proofs.own.add_assigned_pieces.Given as goal

abbrev pub invariant-loop-a : goal.invariant-loop-a
invariant-loop-a l = record {
  pieces : l.pieces.items ≡ l.initial.pieces.items ++ encodings (map assigned_item (take l.a-index l.assigned));
  writable : All IsWritable (map assigned_item (take l.a-index l.assigned));
}
