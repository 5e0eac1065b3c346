use Rattle.hn_base.proofs.Names.{◌≡◌, ◌++◌, map, take, All}
use Rattle.hn_own.proofs.Names.{IsWritable, peer_item, encodings}
use Rattle.hn_own.proofs.own.add_link_pieces.Given as goal

abbrev pub invariant-loop-link : goal.invariant-loop-link
invariant-loop-link l = record {
  pieces : l.pieces.items ≡ l.initial.pieces.items ++ encodings (map peer_item (take l.link-index l.links));
  writable : All IsWritable (map peer_item (take l.link-index l.links));
}
