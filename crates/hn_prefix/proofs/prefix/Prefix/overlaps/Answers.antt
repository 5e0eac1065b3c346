use Rattle.hn_base.proofs.Names.{◌≡◌, ap, arith, nat_tests, PlainPrefix}
use Rattle.hn_prefix.proofs.InsideAndOverlap.{overlap_range}
use Rattle.hn_prefix.proofs.prefix.Prefix.overlaps.Goals as goal

pub returns-then-self-last_address : goal.returns-then-self-last_address
returns-then-self-last_address c =
    let one : c.self.inside.bits ≡ c.args.self.now.bits = ap (λ (p : PlainPrefix). p.bits) c.self.view_is in
    let another : c.other.inside.bits ≡ c.args.other.now.bits = ap (λ (p : PlainPrefix). p.bits) c.other.view_is in
    let range = overlap_range c.args.self.now c.args.other.now c.last_address-then-self-last_address.ensures.valid c.last_address.ensures.valid in (
      (λ starts. range.1 (omega arith, grind (arith, nat_tests))),
      (λ overlap. let starts = range.0 overlap in grind (arith, nat_tests)),
    )
