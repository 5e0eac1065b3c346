use Rattle.hn_base.proofs.Names.{rules, ◌≡◌, ◌≢◌, ◌∙◌, IsTrue, None, false, sym, arith, Bor, false≢true}
use Rattle.hn_audit.proofs.Names.{Member, FindsHeld, HoldsState}
use Rattle.hn_audit.proofs.Searching.{member_found, no_member_found, none_more}
use Rattle.hn_audit.proofs.knowing.first_unheld.Goals as goal

pub returns-then-not-holds_other : goal.returns-then-not-holds_other
returns-then-not-holds_other c =
    let s = c.args.s.now in
    let o = c.u-item.result.now in
    let no : c.holds_other.result ≡ false = search rules in
    let not : ¬ (s.router.id ≢ o.router.id → HoldsState s.router o.router) = λ holds. false≢true (sym no ∙ c.holds_other.ensures.1 holds) in
    member_found (FindsHeld s) c.args.set.now c.loop-u.u-index c.loop-u.invariant c.u-item.result _ c.loop-u-test.true c.u-item.is
    (record { is = c.unheld.ensures; another = λ same. not (λ other. absurd (other same)); unheld = λ holds. not (λ other. holds) })

pub loop-u-preserved : goal.loop-u-preserved
loop-u-preserved c =
    let none : Bor Member → Type 0 = λ u. FindsHeld c.args.s.now u.now None in
    let yes : IsTrue c.holds_other.result = search rules in
    let here : none c.u-item.result = c.holds_other.ensures.0 yes in
    none_more none c.args.set.now c.loop-u.u-index c.u-item.result c.u-item.result c.loop-u.invariant c.loop-u-test.true c.u-item.is here

pub returns : goal.returns
returns c = no_member_found (FindsHeld c.args.s.now) c.args.set.now c.loop-u.u-index c.loop-u.invariant (omega (arith, c.loop-u-test.false))
