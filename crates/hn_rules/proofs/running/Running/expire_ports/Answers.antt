use Rattle.hn_base.proofs.Names.{◌∙◌, refl, subst}
use Rattle.hn_rules.proofs.Names.{ArePorts, AtPort, IsPortExpiry, each_next}
use Rattle.hn_rules.proofs.Resting.{none_expire_at}
use Rattle.hn_rules.proofs.TouchesNothingRead.{neither}
use Rattle.hn_rules.proofs.running.Running.expire_ports.Goals as goal

pub returns-then-not-has_expired_peer-clause-rule : goal.returns-then-not-has_expired_peer-clause-rule
returns-then-not-has_expired_peer-clause-rule c =
    none_expire_at c.args.self.now (subst ArePorts c.get.ensures c.as_slice-kept.ensures.kept) (c.has_expired_peer.ensures c.if-not-has_expired_peer.true)

pub loop-at-preserved : goal.loop-at-preserved
loop-at-preserved c = record {
  so_far = each_next (λ at. AtPort at IsPortExpiry) c.deref-at-items.result.now c.loop-at.at-index _
      (record { 0 = 0 }) c.args.self.now c.loop-at.self c.expire_port.new.self c.loop-at-test.true refl c.loop-at.invariant.so_far c.in_ok-touched.ensures.rule;
  untouched = neither c.loop-at.touched c.in_ok-touched.field-0 c.loop-at.invariant.untouched (λ none before. c.in_ok-touched.ensures.untouched none ∙ before);
}
