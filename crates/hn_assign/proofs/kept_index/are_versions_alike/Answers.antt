use Rattle.hn_base.proofs.DecidingTests.{not_both}
use Rattle.std.proofs.lemmas.Bool.{not-true}
use Rattle.hn_assign.proofs.kept_index.are_versions_alike.Goals as goal

pub returns-then-a_has : goal.returns-then-a_has
returns-then-a_has c is = (λ _. c.has_version-b_has.ensures.0 is, λ _. c.has_version-a_has.ensures.0 c.if-a_has.true)

pub returns-else-a_has : goal.returns-else-a_has
returns-else-a_has c is = (
  λ has. absurd (not_both c.has_version-a_has.result (c.has_version-a_has.ensures.1 has) c.if-a_has.false),
  λ has. absurd (not_both c.has_version-b_has.result (c.has_version-b_has.ensures.1 has) (not-true c.has_version-b_has.result is)),
)
