use Rattle.hn_base.proofs.Names.{◌∙◌, sym, on_ok_weaker}
use Rattle.hn_rules.proofs.Restarting.{restart_one}
use Rattle.hn_rules.proofs.running.Running.restart_port.Goals as goal

pub returns : goal.returns
returns g c =
    on_ok_weaker c.put_port.result
    (λ gives. restart_one c.args.at c.get.result.now c.start-port.result c.get-2.result c.in_ok-word.word _ _ c.args.self.now c.take.new.self c.put_port.new.self
    (sym c.has.ensures ∙ c.if-not-has.false) c.get.ensures c.get-2.ensures.moment c.start-port.ensures c.in_ok-word.ensures.word c.in_ok-word.ensures.drew gives)
    c.put_port.ensures
