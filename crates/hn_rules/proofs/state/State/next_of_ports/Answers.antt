use Rattle.hn_rules.proofs.Names.{sooner_each, IsDueAtPort}
use Rattle.hn_rules.proofs.state.State.next_of_ports.Goals as goal

pub loop-port-preserved : goal.loop-port-preserved
loop-port-preserved c =
    let s = c.args.self.now in
    record {
      all = c.loop-port.invariant.all;
      so_far = sooner_each (IsDueAtPort s.table.entries) s.moment c.as_slice-port-items.result.now c.loop-port.port-index c.port-item.result
          c.port-item.result c.args.best c.loop-port.first c.next_of_port-first.result c.loop-port-test.true c.port-item.is c.loop-port.invariant.so_far c.next_of_port-first.ensures;
    }
