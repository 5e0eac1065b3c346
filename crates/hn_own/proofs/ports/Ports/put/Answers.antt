use Rattle.hn_base.proofs.Names.{◌≡◌, position, None, sym}
use Rattle.hn_own.proofs.Names.{Port, map-unpassed, is_port}
use Rattle.hn_own.proofs.PortLists.{ArePorts-set, put_port-set}
use Rattle.hn_own.proofs.ports.Ports.put.Goals as goal

pub invariant_of-self : goal.invariant_of-self
invariant_of-self c = ArePorts-set c.self.inside.items.items c.in-Some.place c.args.port c.self.invariant (cc)

pub returns-in-Some : goal.returns-in-Some
returns-in-Some c = rw (← c.self.view_is) (sym (put_port-set c.self.inside.items.items c.in-Some.place c.args.port c.self.invariant (cc)))

pub returns-in_default : goal.returns-in_default
returns-in_default c =
    let none : position (is_port c.args.port.id) c.args.self.now ≡ None = cc in
    sym (map-unpassed (is_port c.args.port.id) (λ (_ : Port). c.args.port) c.args.self.now none)
