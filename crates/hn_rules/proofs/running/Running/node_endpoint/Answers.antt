use Rattle.hn_base.proofs.Names.{◌≡◌, ◌∙◌, ap, sym, subst, cond-false, ◌||◌}
use Rattle.hn_rules.proofs.Names.{may_ask, has_peer, ArePorts, port_at, not, node_endpoint}
use Rattle.hn_rules.proofs.AtPorts.{at_port}
use Rattle.hn_rules.proofs.Resting.{named_stays}
use Rattle.hn_rules.proofs.TouchesNothingRead.{named_untouched}
use Rattle.hn_rules.proofs.running.Running.node_endpoint.Goals as goal

pub returns-then-stays_at-clause-rule : goal.returns-then-stays_at-clause-rule
returns-then-stays_at-clause-rule c =
    let r = c.args.self.now in
    let from = c.args.from.now in
    let port = c.in-Some.port.now in
    let ports = c.get-ports.ensures in
    let passes = ap (λ now. has_peer c.args.node c.args.endpoint port.peers || not (may_ask now port.asked)) (sym c.get.ensures.moment) ∙ sym c.stays_at.ensures ∙ c.if-stays_at.true in
    let stays = named_stays from c.args.node c.args.endpoint port r c.if-from.true passes (subst ArePorts ports c.as_slice-kept.ensures.kept)
    (sym (c.in-Some.ensures ∙ ap (port_at from.endpoint) ports)) in
    at_port from.endpoint port c.get-ports.result.now (λ p b a. a ≡ node_endpoint from c.args.node c.args.endpoint p b) r _ c.in-Some.ensures ports
    (sym (cond-false _ _ _ (sym c.eq.ensures ∙ c.if-eq.false) ∙ cond-false _ _ _ (sym c.eq-2.ensures ∙ c.if-eq-2.false) ∙ cond-false _ _ _ (sym c.is_some.ensures ∙ c.if-is_some.false) ∙ stays))

pub returns-clause-untouched : goal.returns-clause-untouched
returns-clause-untouched c none =
    named_untouched c.args.from.now c.args.node c.args.endpoint c.in-Some.port.now c.in_ok-port.port c.get-ports.result.now c.args.self.now c.name_sender.new.self
    c.as_slice-kept.ensures.kept c.in-Some.ensures c.get-ports.ensures c.in_ok-port.ensures.cases (c.in_ok-touched.ensures.untouched none) c.in_ok-touched.ensures.rule
