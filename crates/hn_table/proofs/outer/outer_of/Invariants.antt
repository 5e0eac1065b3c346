use Rattle.hn_base.proofs.Names.{take}
use Rattle.hn_table.proofs.Names.{All, HasNoOuter}
use Rattle.hn_table.proofs.outer.outer_of.Given as goal

-- none of the nodes so far has one
abbrev pub invariant-loop-node : goal.invariant-loop-node
invariant-loop-node l = All (HasNoOuter l.prefix) (take l.node-index l.node-items)
