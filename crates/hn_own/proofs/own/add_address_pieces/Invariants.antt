use Rattle.hn_base.proofs.Names.{◌≡◌, ◌++◌, map, take, All}
use Rattle.hn_own.proofs.Names.{IsWritable, address_item, encodings}
use Rattle.hn_own.proofs.own.add_address_pieces.Given as goal

abbrev pub invariant-loop-a : goal.invariant-loop-a
invariant-loop-a l = record {
  pieces : l.pieces.items ≡ l.initial.pieces.items ++ encodings (map address_item (take l.a-index l.addresses));
  writable : All IsWritable (map address_item (take l.a-index l.addresses));
}
