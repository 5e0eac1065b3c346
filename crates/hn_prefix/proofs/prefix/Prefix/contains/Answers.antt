use Rattle.hn_base.proofs.Names.{◌≡◌, ap, subst, arith, nat_tests, PlainPrefix, IsPrefix}
use Rattle.hn_prefix.proofs.InsideAndOverlap.{within_range}
use Rattle.hn_prefix.proofs.prefix.Prefix.contains.Goals as goal

pub returns-then-self-other : goal.returns-then-self-other
returns-then-self-other c =
    let outer : c.self.inside.bits ≡ c.args.self.now.bits = ap (λ (p : PlainPrefix). p.bits) c.self.view_is in
    let inner : c.other.inside.bits ≡ c.args.other.now.bits = ap (λ (p : PlainPrefix). p.bits) c.other.view_is in
    let range = within_range c.args.self.now c.args.other.now c.last_address-then-self-other.ensures.valid c.last_address.ensures.valid in (
      (λ ends. range.1 (omega arith, grind (arith, nat_tests))),
      (λ within. let ends = range.0 within in grind (arith, nat_tests)),
    )

pub returns-else-self-other : goal.returns-else-self-other
returns-else-self-other c =
    let outer : c.self.inside.bits ≡ c.args.self.now.bits = ap (λ (p : PlainPrefix). p.bits) c.self.view_is in
    let inner : c.other.inside.bits ≡ c.args.other.now.bits = ap (λ (p : PlainPrefix). p.bits) c.other.view_is in
    let valid_outer : IsPrefix c.args.self.now = subst IsPrefix c.self.view_is c.self.invariant in
    let valid_inner : IsPrefix c.args.other.now = subst IsPrefix c.other.view_is c.other.invariant in
    let range = within_range c.args.self.now c.args.other.now valid_outer valid_inner in (
      (λ starts. absurd (grind (arith, nat_tests))),
      (λ within. let starts = range.0 within in absurd (omega arith)),
    )
