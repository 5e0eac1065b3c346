use Rattle.hn_base.proofs.Names.{None, Err, refl, ap}
use Rattle.hn_play.proofs.Names.{SeenWorld, EventNotes, EventEnds, stage_of, stream_words}
use Rattle.hn_play.proofs.RunAnswers.{answer_on}
use Rattle.hn_play.proofs.RunEvents.{same_stage, not_applied, one_more}
use Rattle.hn_play.proofs.playing.Playing.noted.Goals as goal

pub returns-in_err-apply-clause-ends : goal.returns-in_err-apply-clause-ends
returns-in_err-apply-clause-ends c route text =
    let p = stage_of c.args.self.now route text in
    let a = stage_of (record { world = c.apply.new.self; loss = c.args.self.now.loss; words = c.apply.new.draw; senders = c.args.self.now.senders; room = c.args.self.now.room }) route text in
    let ev = c.args.event in
    let why = c.in_err-apply.field-0.0 in
    answer_on (EventEnds ev) (EventEnds ev) p p a (λ code h. h) (λ notes. EventNotes ev notes None) (λ notes. EventNotes ev notes None) why c.from_residual.result
    c.from_residual.ensures.1 (not_applied ev why p a (λ code is. (
      (c.in_err-apply.ensures.refused code).0 (ap Err is),
      same_stage p a (ap (λ (w : SeenWorld). w.parts) c.in_err-apply.ensures.err) refl (ap stream_words (c.in_err-apply.ensures.undrawn code (ap Err is))) refl refl refl,
    )))

pub returns-clause-entered : goal.returns-clause-entered
returns-clause-entered c =
    let step = c.in_ok-apply.ensures.ok.step in
    (c.each_event_is_entered.ensures.room _ _ _ _ step, one_more _ _ _ (c.each_event_is_entered.ensures.entered _ _ _ _ step))
