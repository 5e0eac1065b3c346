use Rattle.hn_base.proofs.Names.{◌≡◌, take, IsSooner, IsOfElement}
use Rattle.hn_dncp.specs.Due.{IsPortDue}
use Rattle.hn_rules.proofs.state.State.next_of_timers.Given as goal

abbrev pub invariant-loop-port : goal.invariant-loop-port
invariant-loop-port l = record {
  all : l.port-items ≡ l.self.ports;
  so_far : IsSooner (IsOfElement IsPortDue (take l.port-index l.port-items)) l.self.moment l.best l.first;
}
