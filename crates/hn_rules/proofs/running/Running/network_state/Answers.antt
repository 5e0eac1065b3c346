use Rattle.hn_base.proofs.Names.{◌≡◌, ◌∙◌, ap, sym, subst}
use Rattle.hn_rules.proofs.Names.{may_ask, ArePorts, port_at, network_state}
use Rattle.hn_rules.proofs.AtPorts.{at_port}
use Rattle.hn_rules.proofs.Resting.{compared_stays}
use Rattle.hn_rules.proofs.running.Running.network_state.Goals as goal

pub returns-then-not-may_ask : goal.returns-then-not-may_ask
returns-then-not-may_ask c =
    let r = c.args.self.now in
    let at = c.args.from.now.endpoint in
    let ports = c.get-ports.ensures in
    at_port at c.in-Some.port.now c.get-ports.result.now (λ port b a. a ≡ network_state c.args.hash port b) r r c.in-Some.ensures ports
    (compared_stays at _ c.in-Some.port.now r (sym c.same_hash-same.ensures.value ∙ c.if-not-same.true)
    (ap (λ now. may_ask now c.in-Some.port.now.asked) (sym c.get.ensures.moment) ∙ sym c.may_ask.ensures ∙ c.if-not-may_ask.true)
    (subst ArePorts ports c.as_slice-kept.ensures.kept) (sym (c.in-Some.ensures ∙ ap (port_at at) ports)))
