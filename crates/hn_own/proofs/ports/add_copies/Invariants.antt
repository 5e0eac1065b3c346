use Rattle.hn_base.proofs.Names.{◌≡◌, ◌++◌, take}
use Rattle.hn_own.proofs.ports.add_copies.Given as goal

abbrev pub invariant-loop-port : goal.invariant-loop-port
invariant-loop-port l = l.items.items ≡ l.fn.items.items ++ take l.port-index l.ports
