use Rattle.hn_base.proofs.Names.{◌∙◌, ℕ, ap, refl, sym, subst, inl, inr}
use Rattle.hn_rules.proofs.Names.{tick_sends, ran_plain, ArePorts, port_at, IsPortUndue, AtPort, words_taken, IsPortTick}
use Rattle.hn_rules.proofs.AtPorts.{at_port}
use Rattle.hn_rules.proofs.Resting.{port_rests}
use Rattle.hn_rules.proofs.Ticking.{port_ticks}
use Rattle.hn_rules.proofs.running.Running.tick_port.Goals as goal

pub returns-then-is_port_undue : goal.returns-then-is_port_undue
returns-then-is_port_undue g c =
    let r = c.args.self.now in
    let port = c.in-Some.port.now in
    let ports = c.get-ports.ensures in
    let still = subst (λ (now : ℕ). IsPortUndue now port) c.get.ensures.moment (c.is_port_undue.ensures.0 c.if-is_port_undue.true) in
    let rests = port_rests c.undue_port.ensures c.args.at port r (subst ArePorts ports c.as_slice-kept.ensures.kept) (sym (c.in-Some.ensures ∙ ap (port_at c.args.at) ports)) still in
    ran_plain words_taken (AtPort c.args.at IsPortTick) _ r r (at_port c.args.at port c.get-ports.result.now IsPortTick r r c.in-Some.ensures ports rests) refl

pub returns-in_ok-send_state : goal.returns-in_ok-send_state
returns-in_ok-send_state g c =
    let moved = c.in_ok-move_port in
    port_ticks c.args.at c.in-Some.port.now c.in_ok-port.port c.get-ports.result.now _ _ c.args.self.now c.move_port.new.self c.send_state.new.self
    c.in-Some.ensures c.get-ports.ensures c.in_ok-port.ensures.cases moved.ensures.ran
    (inl (c.in_ok-send_state.ensures, ap (λ (n : ℕ). tick_sends n c.in_ok-port.port) moved.ensures.moment ∙ sym moved.ensures.sends ∙ c.if-branch.true))

pub returns-else-branch : goal.returns-else-branch
returns-else-branch g c =
    let moved = c.in_ok-move_port in
    port_ticks c.args.at c.in-Some.port.now c.in_ok-port.port c.get-ports.result.now _ _ c.args.self.now c.move_port.new.self c.move_port.new.self
    c.in-Some.ensures c.get-ports.ensures c.in_ok-port.ensures.cases moved.ensures.ran
    (inr (refl, ap (λ (n : ℕ). tick_sends n c.in_ok-port.port) moved.ensures.moment ∙ sym moved.ensures.sends ∙ c.if-branch.false))
