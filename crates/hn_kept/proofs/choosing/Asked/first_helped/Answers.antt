use Rattle.hn_base.proofs.Names.{take_all, subst, All, All-contains}
use Rattle.hn_kept.specs.Choosing.{PlainAsked, plain_asked, Helps, MayBePassed}
use Rattle.hn_kept.proofs.Choosings.{first_of, of_some, of_none, all_so_far}
use Rattle.hn_kept.proofs.choosing.Asked.first_helped.Goals as goal

pub returns-in-Some-clause-first : goal.returns-in-Some-clause-first
returns-in-Some-clause-first c =
    let ask : PlainAsked = plain_asked c.args.self.now in (
      c.wanted-item.result,
      first_of c.pairs_are_ordered.ensures.total ask c.requires.ascends c.args.front.now c.loop-wanted.wanted-index c.wanted-item.result c.loop-wanted-test.true c.wanted-item.is
          c.loop-wanted.invariant.passed (of_some (λ _. Helps ask c.args.front.now c.wanted-item.result) c.in_ok-found.found c.in-Some.words c.in-Some.is c.in_ok-found.ensures.helps),
      c.word.ensures,
    )

pub loop-wanted-preserved : goal.loop-wanted-preserved
loop-wanted-preserved c =
    let ask : PlainAsked = plain_asked c.args.self.now in
    record {
      passed = all_so_far (MayBePassed ask c.args.front.now) c.args.self.now.preferred.now c.loop-wanted.wanted-index c.wanted-item.result c.loop-wanted-test.true c.wanted-item.is
          c.loop-wanted.invariant.passed (of_none (MayBePassed ask c.args.front.now c.wanted-item.result) c.in_ok-found.found c.in_default.is c.in_ok-found.ensures.passed);
      taker = c.in_ok-found.ensures.taker;
    }

pub returns-clause-none : goal.returns-clause-none
returns-clause-none c = λ f there.
    let ask : PlainAsked = plain_asked c.args.self.now in
    All-contains (MayBePassed ask c.args.front.now) c.args.self.now.preferred.now f
    (subst (All (MayBePassed ask c.args.front.now)) (take_all c.loop-wanted.wanted-index c.args.self.now.preferred.now c.loop-wanted-test.false) c.loop-wanted.invariant.passed) there
