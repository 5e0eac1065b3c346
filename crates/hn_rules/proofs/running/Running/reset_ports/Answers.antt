use Rattle.hn_base.proofs.Names.{refl}
use Rattle.hn_rules.proofs.Names.{AtPort, words_taken, IsPortReset, ran_next}
use Rattle.hn_rules.proofs.running.Running.reset_ports.Goals as goal

pub loop-at-preserved : goal.loop-at-preserved
loop-at-preserved g c =
    ran_next words_taken (λ at. AtPort at IsPortReset) c.deref-at-items.result.now c.loop-at.at-index _ (record { 0 = 0 }) _ _ _ c.args.self.now c.loop-at.self c.reset_port.new.self
    c.loop-at-test.true refl c.loop-at.invariant c.in_ok-reset_port.ensures
