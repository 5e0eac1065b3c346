use Rattle.hn_base.proofs.Names.{ℕ, ◌≤◌, ◌-◌, List, ◌++◌, length, drop}
use Rattle.hn_dncp.proofs.Names.{IsPacking}
use Rattle.hn_dncp.proofs.packing.pack.Given as goal

-- with datagrams that hold the TLVs that are left, those so far hold all
abbrev pub invariant-loop-at : goal.invariant-loop-at
invariant-loop-at l = record {
  within : l.at ≤ length l.tlvs;
  packed : (rest : List (List ℕ)) → IsPacking l.own l.endpoint (drop l.at l.tlvs) rest → IsPacking l.own l.endpoint l.tlvs (l.datagrams ++ rest);
}

abbrev pub decreases-loop-at : goal.decreases-loop-at
decreases-loop-at l = length l.tlvs - l.at
