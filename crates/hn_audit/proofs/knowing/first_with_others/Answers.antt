use Rattle.hn_base.proofs.Names.{rules, ◌≡◌, ◌∙◌, IsTrue, false, refl, sym, subst, arith, Bor, false≢true}
use Rattle.hn_audit.proofs.Names.{AreUsable, seen_by, Member, FindsUsed, UseSame}
use Rattle.hn_audit.proofs.Searching.{member_found, no_member_found, none_more}
use Rattle.hn_audit.proofs.knowing.first_with_others.Goals as goal

pub returns-then-not-branch : goal.returns-then-not-branch
returns-then-not-branch c =
    let r = c.args.r.now in
    let is_used : AreUsable (seen_by r.router) c.as_slice.result.now = subst (AreUsable (seen_by r.router)) (sym c.as_slice.ensures) c.in_ok-used.ensures in
    let no : c.in_ok-uses_these.field-0 ≡ false = search rules in
    let other : ¬ UseSame r.router c.s-item.result.now.router = λ same. false≢true (sym no ∙ (c.in_ok-uses_these.ensures r.router is_used).1 same) in
    member_found (FindsUsed r) c.args.set.now c.loop-s.s-index c.loop-s.invariant c.s-item.result _ c.loop-s-test.true c.s-item.is (refl, other)

pub loop-s-preserved : goal.loop-s-preserved
loop-s-preserved c =
    let r = c.args.r.now in
    let same : Bor Member → Type 0 = λ s. UseSame r.router s.now.router in
    let is_used : AreUsable (seen_by r.router) c.as_slice.result.now = subst (AreUsable (seen_by r.router)) (sym c.as_slice.ensures) c.in_ok-used.ensures in
    let yes : IsTrue c.in_ok-uses_these.field-0 = search rules in
    let here : same c.s-item.result = (c.in_ok-uses_these.ensures r.router is_used).0 yes in
    none_more same c.args.set.now c.loop-s.s-index c.s-item.result c.s-item.result c.loop-s.invariant c.loop-s-test.true c.s-item.is here

pub returns : goal.returns
returns c = no_member_found (FindsUsed c.args.r.now) c.args.set.now c.loop-s.s-index c.loop-s.invariant (omega (arith, c.loop-s-test.false))
