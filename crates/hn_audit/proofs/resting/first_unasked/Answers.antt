use Rattle.hn_base.proofs.Names.{rules, ◌≡◌, ◌∙◌, IsTrue, None, false, refl, sym, arith, false≢true}
use Rattle.hn_audit.proofs.Names.{Assigned, IsWished, assigned_pair, FindsUnasked}
use Rattle.hn_audit.proofs.Searching.{found_here_in, found_nowhere_in, none_more}
use Rattle.hn_audit.proofs.resting.first_unasked.Goals as goal

pub returns-then-not-is_asked : goal.returns-then-not-is_asked
returns-then-not-is_asked c =
    let s = c.args.s.now in
    let all = c.loop-c.invariant in
    let no : c.is_asked.result ≡ false = search rules in
    let unasked : ¬ IsWished c.args.wishes.now (assigned_pair c.c-item.result) = λ asked. false≢true (sym no ∙ c.is_asked.ensures.1 asked) in
    found_here_in (FindsUnasked s.name c.args.wishes.now) c.as_slice-c-items.result.now s.router.held.assigned all.all c.loop-c.c-index all.so_far
    c.c-item.result _ _ c.loop-c-test.true c.c-item.is (refl, unasked)

pub loop-c-preserved : goal.loop-c-preserved
loop-c-preserved c =
    let asked : Assigned → Type 0 = λ a. FindsUnasked c.args.s.now.name c.args.wishes.now a None in
    let is : IsTrue c.is_asked.result = search rules in
    record {
      all = c.loop-c.invariant.all;
      so_far = none_more asked c.as_slice-c-items.result.now c.loop-c.c-index c.c-item.result _ c.loop-c.invariant.so_far c.loop-c-test.true c.c-item.is (c.is_asked.ensures.0 is);
    }

pub returns : goal.returns
returns c =
    let s = c.args.s.now in
    let all = c.loop-c.invariant in
    found_nowhere_in (FindsUnasked s.name c.args.wishes.now) c.as_slice-c-items.result.now s.router.held.assigned all.all c.loop-c.c-index all.so_far (omega (arith, c.loop-c-test.false))
