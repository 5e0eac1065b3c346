use Rattle.hn_base.proofs.Names.{subst}
use Rattle.hn_rules.proofs.Names.{ArePorts}
use Rattle.hn_rules.proofs.TouchesNothingRead.{none_expire}
use Rattle.hn_rules.proofs.running.Running.expire_port.Goals as goal

pub returns-then-not-has_expired-clause-rule : goal.returns-then-not-has_expired-clause-rule
returns-then-not-has_expired-clause-rule c =
    none_expire c.args.at c.args.self.now (subst ArePorts c.get.ensures c.as_slice-kept.ensures.kept) (c.has_expired.ensures c.if-not-has_expired.true)
