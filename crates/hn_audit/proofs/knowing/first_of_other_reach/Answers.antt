use Rattle.hn_base.proofs.Names.{rules, ◌≡◌, ◌≢◌, IsTrue, None, false, refl, sym, ◌∙◌, arith, Bor, false≢true}
use Rattle.hn_audit.proofs.Names.{Member, FindsReach}
use Rattle.hn_audit.proofs.Searching.{member_found, no_member_found, none_more}
use Rattle.hn_audit.proofs.knowing.first_of_other_reach.Goals as goal

pub returns-then-not-reaches : goal.returns-then-not-reaches
returns-then-not-reaches c =
    let no : c.reaches.result ≡ false = search rules in
    let other : c.s-item.result.now.router.reach ≢ c.args.reach.now = λ same. false≢true (sym no ∙ c.reaches.ensures.1 same) in
    member_found (FindsReach c.args.reach.now) c.args.set.now c.loop-s.s-index c.loop-s.invariant c.s-item.result _ c.loop-s-test.true c.s-item.is (refl, other)

pub loop-s-preserved : goal.loop-s-preserved
loop-s-preserved c =
    let none : Bor Member → Type 0 = λ s. FindsReach c.args.reach.now s.now None in
    let yes : IsTrue c.reaches.result = search rules in
    let here : none c.s-item.result = c.reaches.ensures.0 yes in
    none_more none c.args.set.now c.loop-s.s-index c.s-item.result c.s-item.result c.loop-s.invariant c.loop-s-test.true c.s-item.is here

pub returns : goal.returns
returns c = no_member_found (FindsReach c.args.reach.now) c.args.set.now c.loop-s.s-index c.loop-s.invariant (omega (arith, c.loop-s-test.false))
