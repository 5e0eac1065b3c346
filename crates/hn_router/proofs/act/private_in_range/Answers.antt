use Rattle.hn_base.proofs.Names.{◌≤◌, ℕ, subst}
use Rattle.hn_router.proofs.act.private_in_range.Goals as goal

pub returns-in-Some : goal.returns-in-Some
returns-in-Some c =
    rw c.in-Some.is (
      subst (λ (n : ℕ). 1 ≤ n) c.get-bits.ensures.length c.get-bits.ensures.some,
      subst (λ (n : ℕ). n ≤ 64) c.get-bits.ensures.length c.get-bits.ensures.in_range,
    )
