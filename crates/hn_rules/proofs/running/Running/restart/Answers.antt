use Rattle.hn_base.proofs.Names.{on_ok_weaker}
use Rattle.hn_rules.proofs.Restarting.{ran_restart}
use Rattle.hn_rules.proofs.running.Running.restart.Goals as goal

pub returns : goal.returns
returns g c =
    on_ok_weaker c.publish.result
    (λ publishes. ran_restart _ _ c.args.self.now c.empty.new.self c.restart_ports.new.self c.publish.new.self c.in_ok-empty.ensures c.in_ok-restart_ports.ensures publishes)
    c.publish.ensures
