use Rattle.hn_base.proofs.Names.{None, sym, subst}
use Rattle.hn_play.proofs.Names.{Carried, Other, Replaces, IsReplaced, ComesTo, ComesToSome, injection_for, stage_of}
use Rattle.hn_play.proofs.RunAnswers.{answered_as}
use Rattle.hn_play.proofs.RunDeliveries.{IsComing}
use Rattle.hn_play.proofs.delivery.come_to.Goals as goal

pub returns-in-Same-clause-ends : goal.returns-in-Same-clause-ends
returns-in-Same-clause-ends c route text k is =
    subst (λ (x : Carried). IsComing c.args.copy k x c.noted.result (stage_of c.args.playing.now route text) (stage_of c.noted.new.self route text)) (sym c.in-Same.is)
    (c.noted.ensures.ends route text)

pub returns-in-Lost-clause-ends : goal.returns-in-Lost-clause-ends
returns-in-Lost-clause-ends c route text k is =
    subst (λ (x : Carried). IsComing c.args.copy k x c.noted-in-Lost.result (stage_of c.args.playing.now route text) (stage_of c.noted-in-Lost.new.self route text)) (sym c.in-Lost.is)
    (c.noted-in-Lost.ensures.ends route text)

pub returns-in-Other-clause-ends : goal.returns-in-Other-clause-ends
returns-in-Other-clause-ends c route text k is =
    let p = stage_of c.args.playing.now route text in
    let a = stage_of c.replace.new.playing route text in
    let bytes = c.in-Other.bytes in
    let other = injection_for p.world k bytes in
    subst (λ (x : Carried). IsComing c.args.copy k x c.replace.result p a) (sym c.in-Other.is)
    (answered_as (IsReplaced c.args.copy other) (ComesToSome c.args.copy k (Other bytes)) p p a (λ code h. h) (λ notes. Replaces c.args.copy other notes None)
    (λ notes. ComesTo c.args.copy k (Other bytes) notes None) c.replace.result (λ notes h. h) (c.replace.ensures.ends route text k is))
