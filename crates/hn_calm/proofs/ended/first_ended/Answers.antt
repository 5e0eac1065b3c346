use Rattle.hn_base.proofs.Names.{None, ℕ, subst, arith}
use Rattle.hn_calm.specs.Home.{FindsEnded}
use Rattle.hn_calm.proofs.Searching.{found_here, found_nowhere, none_more}
use Rattle.hn_calm.proofs.ended.first_ended.Goals as goal

pub returns-in-Some : goal.returns-in-Some
returns-in-Some c =
    let all = c.loop-m.invariant in
    let now = c.args.world.now.parts.moment in
    let m = c.m-item.result in
    found_here (FindsEnded now) c.members-m-items.result.now c.args.world.now.parts.members all.all c.loop-m.m-index all.so_far m _ _ c.loop-m-test.true c.m-item.is
    (subst (FindsEnded now m) c.in-Some.is (subst (λ (t : ℕ). FindsEnded t m c.in_ok-found.field-0) c.moment-now.ensures.moment c.in_ok-found.ensures))

pub loop-m-preserved : goal.loop-m-preserved
loop-m-preserved c =
    let all = c.loop-m.invariant in
    let now = c.args.world.now.parts.moment in
    let m = c.m-item.result in
    record {
      all = all.all;
      so_far = none_more (λ one. FindsEnded now one None) c.members-m-items.result.now c.loop-m.m-index m _ all.so_far c.loop-m-test.true c.m-item.is
          (subst (FindsEnded now m) c.in_default.is (subst (λ (t : ℕ). FindsEnded t m c.in_ok-found.field-0) c.moment-now.ensures.moment c.in_ok-found.ensures));
    }

pub returns : goal.returns
returns c =
    let all = c.loop-m.invariant in
    found_nowhere (FindsEnded c.args.world.now.parts.moment) c.members-m-items.result.now c.args.world.now.parts.members all.all c.loop-m.m-index all.so_far (omega (arith, c.loop-m-test.false))
