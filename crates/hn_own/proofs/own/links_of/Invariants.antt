use Rattle.hn_base.proofs.Names.{◌≡◌, ◌≤◌, ◌*◌, take, length, flat_map}
use Rattle.hn_own.proofs.Names.{links_at}
use Rattle.hn_own.proofs.own.links_of.Given as goal

abbrev pub invariant-loop-port : goal.invariant-loop-port
invariant-loop-port l = (l.links ≡ flat_map links_at (take l.port-index l.port-items)) × (length l.links ≤ 64 * l.port-index)
