use Rattle.hn_base.proofs.Names.{ℕ, subst, IsSooner}
use Rattle.hn_dncp.specs.Due.{IsPortDue}
use Rattle.hn_rules.proofs.Names.{sooner_each}
use Rattle.hn_rules.proofs.state.State.next_of_timers.Goals as goal

pub loop-port-preserved : goal.loop-port-preserved
loop-port-preserved c =
    let s = c.args.self.now in
    let due = subst (λ (t : ℕ). IsSooner (IsPortDue c.port-item.result) t c.loop-port.first c.next_due-first.result) c.get-now.ensures.moment c.next_due-first.ensures in
    record {
      all = c.loop-port.invariant.all;
      so_far = sooner_each IsPortDue s.moment c.as_slice-port-items.result.now c.loop-port.port-index c.port-item.result
          c.port-item.result c.args.best c.loop-port.first c.next_due-first.result c.loop-port-test.true c.port-item.is c.loop-port.invariant.so_far due;
    }
