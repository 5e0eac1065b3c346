use Rattle.hn_base.proofs.Names.{subst, sym}
use Rattle.hn_audit.proofs.Names.{AreUsable, seen_by}
use Rattle.hn_audit.proofs.EqualInPlace.{use_these}
use Rattle.hn_audit.proofs.knowing.uses_these.Goals as goal

pub returns : goal.returns
returns c r is_used =
    let is_other : AreUsable (seen_by c.args.s.now) c.as_slice.result.now = subst (AreUsable (seen_by c.args.s.now)) (sym c.as_slice.ensures) c.in_ok-other.ensures in
    let law = use_these c.usable_is_unique.ensures r c.args.s.now c.args.used.now c.as_slice.result.now is_used is_other in
    (λ yes. law.0 (c.are_same.ensures.0 yes), λ h. c.are_same.ensures.1 (law.1 h))
