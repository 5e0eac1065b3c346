use Rattle.hn_base.proofs.Names.{take}
use Rattle.hn_table.proofs.Names.{All, IsNoOuter}
use Rattle.hn_table.proofs.outer.outer_among.Given as goal

-- none of those so far is one
abbrev pub invariant-loop-d : goal.invariant-loop-d
invariant-loop-d l = All (IsNoOuter l.age l.prefix) (take l.d-index l.delegations)
