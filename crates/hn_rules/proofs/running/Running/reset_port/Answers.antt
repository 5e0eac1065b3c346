use Rattle.hn_base.proofs.Names.{◌≢◌, subst, on_ok_weaker}
use Rattle.hn_rules.proofs.Names.{Port}
use Rattle.hn_rules.proofs.Refreshing.{reset_one}
use Rattle.hn_rules.proofs.running.Running.reset_port.Goals as goal

pub returns : goal.returns
returns g c =
    on_ok_weaker c.put_port.result
    (λ gives. reset_one c.args.at c.in-Some.port.now c.in_ok-port.port c.reset.new.self c.in_ok-word.word c.get-now.result _ _ c.get.result.now c.args.self.now c.take.new.self _
    c.in-Some.ensures c.get.ensures (subst (λ (p : Port). p.trickle.len ≢ 200) c.port.view_is c.if-port-eq-SHORTEST_INTERVAL.false) c.in_ok-port.ensures.cases
    c.get-now.ensures.moment c.reset.ensures c.in_ok-word.ensures.word c.in_ok-word.ensures.drew gives)
    c.put_port.ensures
