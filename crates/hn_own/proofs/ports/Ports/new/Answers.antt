use Rattle.hn_own.proofs.PortLists.{ArePorts-none}
use Rattle.hn_own.proofs.ports.Ports.new.Goals as goal

pub invariant_of-result : goal.invariant_of-result
invariant_of-result c = rw c.new.ensures.items ArePorts-none
