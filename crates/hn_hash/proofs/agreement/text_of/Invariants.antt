use Rattle.hn_base.proofs.Names.{◌≡◌, take}
use Rattle.hn_hash.proofs.Names.{leaf_text}
use Rattle.hn_hash.proofs.agreement.text_of.Given as goal

-- the entries of the leaves so far
abbrev pub invariant-loop-leaf : goal.invariant-loop-leaf
invariant-loop-leaf l = l.text.items ≡ leaf_text (take l.leaf-index l.leaves)
