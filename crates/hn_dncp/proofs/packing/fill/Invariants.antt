use Rattle.hn_base.proofs.Names.{◌≡◌, ◌≤◌, ◌⊎◌, length, take}
use Rattle.hn_dncp.proofs.Names.{datagram_of}
use Rattle.hn_dncp.proofs.packing.fill.Given as goal

-- the datagram holds the TLVs so far, and a second one did not carry it past its bound
abbrev pub invariant-loop-count : goal.invariant-loop-count
invariant-loop-count l = record {
  datagram_is : l.datagram.items ≡ datagram_of l.fn.own l.fn.endpoint (take l.count l.tlvs);
  within : (l.count ≡ 1) ⊎ (length l.datagram.items ≤ 4000);
}
