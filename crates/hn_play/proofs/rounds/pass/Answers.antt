use Rattle.hn_base.proofs.Names.{◌≡◌, ◌+◌, ℕ, min, Some, None, subst, arith}
use Rattle.hn_play.proofs.Names.{Refused, EventEnds, Passes, stage_of}
use Rattle.hn_world.specs.declared.event.WEvent.TheVariants.{Time}
use Rattle.hn_play.proofs.RunAnswers.{answered_as}
use Rattle.hn_play.proofs.rounds.pass.Goals as goal

pub returns-clause-ends : goal.returns-clause-ends
returns-clause-ends c route text =
    let p = stage_of c.args.playing.now route text in
    let a = stage_of c.event.new.self route text in
    let same : c.min-moment.result ≡ min (c.args.playing.now.world.parts.moment + c.args.step) c.args.end =
    omega (arith, c.min-moment.ensures, c.saturating_add.ensures, c.moment.ensures.moment, c.requires.end)
    in
    let ends = Passes c.args.end c.args.step in
    answered_as (EventEnds (Time c.min-moment.result)) ends p p a (λ code h. subst (λ (moment : ℕ). EventEnds (Time moment) (Some (Refused code)) p a) same h)
    (λ _. EventEnds (Time c.min-moment.result) None) (λ _. ends None) c.event.result (λ _ h. subst (λ (moment : ℕ). EventEnds (Time moment) None p a) same h)
    (c.event.ensures.ends route text)
