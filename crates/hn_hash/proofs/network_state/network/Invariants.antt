use Rattle.hn_base.proofs.Names.{take}
use Rattle.hn_hash.proofs.Names.{Holds, leaf_text, AreNumbered}
use Rattle.hn_hash.proofs.network_state.network.Given as goal

-- the hasher holds the entries of the leaves so far, and their numbers were read
abbrev pub invariant-loop-leaf : goal.invariant-loop-leaf
invariant-loop-leaf l = record {
  held : Holds l.hasher (leaf_text (take l.leaf-index l.leaves));
  numbered : AreNumbered (take l.leaf-index l.leaves);
}
