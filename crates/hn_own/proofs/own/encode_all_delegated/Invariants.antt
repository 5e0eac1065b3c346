use Rattle.hn_base.proofs.Names.{◌≡◌, map, take, All, flat_map}
use Rattle.hn_own.proofs.Names.{spelling, tlv_of, IsWritable, delegated_item}
use Rattle.hn_own.proofs.own.encode_all_delegated.Given as goal

abbrev pub invariant-loop-own : goal.invariant-loop-own
invariant-loop-own l = record {
  bytes : l.bytes.items ≡ flat_map (λ own. spelling (tlv_of (delegated_item l.now own))) (take l.own-index l.list);
  writable : All IsWritable (map (delegated_item l.now) (take l.own-index l.list));
}
