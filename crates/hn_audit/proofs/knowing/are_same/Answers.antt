use Rattle.hn_base.proofs.Names.{rules, ◌≡◌, ◌≤◌, length, refl, arith}
use Rattle.hn_audit.proofs.Names.{tests}
use Rattle.hn_audit.proofs.EqualInPlace.{same_when}
use Rattle.hn_audit.proofs.knowing.are_same.Goals as goal

pub returns : goal.returns
returns c =
    let same : length c.args.a.now ≡ length c.args.b.now = search (rules, tests) in
    let end : length c.args.a.now ≤ c.loop-place.place = omega (arith, c.loop-place-test.false) in
    (λ yes. same_when c.args.a.now c.args.b.now same (λ k within. c.loop-place.invariant k (omega (arith, within, end))), λ h. refl)
