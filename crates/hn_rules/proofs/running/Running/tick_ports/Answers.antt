use Rattle.hn_base.proofs.Names.{ℕ, refl, subst, All}
use Rattle.hn_rules.proofs.Names.{IsPortUndue, ArePorts, AtPort, words_taken, IsPortTick, IsPortsTick, ran_plain, ran_next}
use Rattle.hn_rules.proofs.Resting.{ports_rest}
use Rattle.hn_rules.proofs.running.Running.tick_ports.Goals as goal

pub returns-then-are_ports_undue : goal.returns-then-are_ports_undue
returns-then-are_ports_undue g c =
    let r = c.args.self.now in
    let still = subst (λ (now : ℕ). All (IsPortUndue now) r.state.ports) c.get-now.ensures.moment (c.are_ports_undue.ensures.0 c.if-are_ports_undue.true) in
    ran_plain words_taken IsPortsTick _ r r (ports_rest c.undue_port.ensures r (subst ArePorts c.get.ensures c.as_slice-kept.ensures.kept) still) refl

pub loop-at-preserved : goal.loop-at-preserved
loop-at-preserved g c =
    ran_next words_taken (λ at. AtPort at IsPortTick) c.deref-at-items.result.now c.loop-at.at-index _ (record { 0 = 0 }) _ _ _ c.args.self.now c.loop-at.self c.tick_port.new.self
    c.loop-at-test.true refl c.loop-at.invariant c.in_ok-tick_port.ensures
