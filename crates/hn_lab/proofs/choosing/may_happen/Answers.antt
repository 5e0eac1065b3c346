use Rattle.hn_base.proofs.Names.{Option, None, Some, sym, subst}
use Rattle.hn_lab.proofs.Names.{WEvent, MayHappen, EventEnds, stage_of}
use Rattle.hn_play.proofs.RunAnswers.{answered_as}
use Rattle.hn_play.specs.Ended.{IsAnswered}
use Rattle.hn_lab.proofs.choosing.may_happen.Goals as goal

pub returns-in-Some : goal.returns-in-Some
returns-in-Some c route text =
    let p = stage_of c.args.playing.now route text in
    let a = stage_of c.event.new.self route text in
    subst (λ (e : Option WEvent). IsAnswered (MayHappen e) c.event.result p a) (sym c.in-Some.is)
    (answered_as (EventEnds c.in-Some.event) (MayHappen (Some c.in-Some.event)) p p a (λ code h. h) (λ _. EventEnds c.in-Some.event None)
    (λ _. MayHappen (Some c.in-Some.event) None) c.event.result (λ _ h. h) (c.event.ensures.ends route text))
