use Rattle.hn_base.proofs.Names.{◌∙◌, ap}
use Rattle.hn_pair.specs.declared.held.Held.{Held}
use Rattle.hn_kept.specs.Choosing.{PlainAsked, plain_asked}
use Rattle.hn_kept.specs.Preferred.{word_of}
use Rattle.hn_kept.proofs.Choosings.{taker_of, passed}
use Rattle.hn_kept.proofs.choosing.Asked.tried.Goals as goal

pub returns-then-is_passed-clause-passed : goal.returns-then-is_passed-clause-passed
returns-then-is_passed-clause-passed c =
    let ask : PlainAsked = plain_asked c.args.self.now in
    passed c.one_result.ensures ask c.args.front.now c.args.wanted.now c.args.own.now c.args.taker.now c.requires.own c.requires.taker (c.is_passed.ensures.passed c.if-is_passed.true)

pub returns-clause-taker : goal.returns-clause-taker
returns-clause-taker c =
    let ask : PlainAsked = plain_asked c.args.self.now in
    taker_of ask c.args.front.now (word_of c.args.wanted.now) c.args.own.now c.helped.new.other c.as_slice-had.result.now c.as_slice.result.now c.in_ok-taker.field-0
    (c.as_slice-had.ensures.value ∙ ap (λ (h : Held). h.assigned) c.held.ensures) (c.as_slice.ensures.value ∙ ap (λ (h : Held). h.assigned) c.held-2.ensures)
    c.requires.own c.in_ok-found.ensures.leaves c.in_ok-taker.ensures.earlier c.in_ok-taker.ensures.changed
