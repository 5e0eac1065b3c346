use Rattle.hn_base.proofs.Names.{take, Contains, ◌↔◌}
use Rattle.hn_deleg.proofs.Names.{Delegated, HasPrefixes, IsLiveIn}
use Rattle.hn_deleg.proofs.announcements.announced.Given as goal

abbrev pub invariant-loop-node : goal.invariant-loop-node
invariant-loop-node l = ((u : Delegated) → Contains l.list.items u ↔ IsLiveIn (take l.node-index l.nodes) u) × HasPrefixes l.list.items
