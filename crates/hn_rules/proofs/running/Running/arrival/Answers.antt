use Rattle.hn_base.proofs.Names.{on_ok_weaker}
use Rattle.hn_rules.proofs.Arriving.{ran_arrival}
use Rattle.hn_rules.proofs.running.Running.arrival.Goals as goal

pub returns : goal.returns
returns g c =
    on_ok_weaker c.send_answers.result
    (λ answering tlvs list. ran_arrival c.args.from.now tlvs _ _ c.args.self.now c.tlvs.new.self c.send_answers.new.self (c.in_ok-tlvs.ensures tlvs list) answering)
    c.send_answers.ensures
