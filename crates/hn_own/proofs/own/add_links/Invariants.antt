use Rattle.hn_base.proofs.Names.{◌≡◌, ◌++◌, map, take}
use Rattle.hn_own.proofs.Names.{link_at}
use Rattle.hn_own.proofs.own.add_links.Given as goal

abbrev pub invariant-loop-peer : goal.invariant-loop-peer
invariant-loop-peer l = l.links ≡ l.initial.links ++ map (link_at l.port) (take l.peer-index l.peer-items)
