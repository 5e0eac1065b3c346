use Rattle.hn_base.proofs.Names.{◌∙◌, sym, ap}
use mathlib.Core.Bool.{true≢false}
use Rattle.hn_pair.specs.declared.held.Held.{Held}
use Rattle.hn_kept.specs.Choosing.{PlainAsked, plain_asked}
use Rattle.hn_kept.proofs.Choosings.{helps_by, not_served, others_left}
use Rattle.hn_kept.proofs.choosing.Asked.helped.Goals as goal

pub returns-then-branch-clause-helps : goal.returns-then-branch-clause-helps
returns-then-branch-clause-helps c =
    let ask : PlainAsked = plain_asked c.args.self.now in
    helps_by ask c.args.front.now c.args.wanted.now c.args.own.now c.come.new.seen c.as_slice-had.result.now c.as_slice-2.result.now
    (c.as_slice-had.ensures.value ∙ ap (λ (h : Held). h.assigned) c.held.ensures) (c.as_slice-2.ensures.value ∙ ap (λ (h : Held). h.assigned) c.held-2.ensures)
    c.requires.own c.requires.missed
    (others_left ask c.args.front.now c.as_slice.result.now c.in_ok-words.words c.word.result c.args.wanted.now c.come.new.seen
    (c.as_slice.ensures ∙ c.in_ok-listed.ensures) c.word.ensures c.in_ok-words.ensures) (c.in_ok-is_served.ensures.0 c.if-branch.true)

pub returns-clause-none : goal.returns-clause-none
returns-clause-none c =
    let ask : PlainAsked = plain_asked c.args.self.now in
    not_served c.one_result.ensures ask c.args.front.now c.args.wanted.now c.args.own.now c.come.new.seen c.as_slice-had.result.now c.as_slice-2.result.now
    (c.as_slice-had.ensures.value ∙ ap (λ (h : Held). h.assigned) c.held.ensures) (c.as_slice-2.ensures.value ∙ ap (λ (h : Held). h.assigned) c.held-2.ensures)
    c.requires.own
    (others_left ask c.args.front.now c.as_slice.result.now c.in_ok-words.words c.word.result c.args.wanted.now c.come.new.seen
    (c.as_slice.ensures ∙ c.in_ok-listed.ensures) c.word.ensures c.in_ok-words.ensures)
    (λ served. true≢false (sym (c.in_ok-is_served.ensures.1 served) ∙ c.if-branch.false))
