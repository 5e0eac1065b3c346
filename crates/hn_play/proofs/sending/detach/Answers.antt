use Rattle.hn_base.proofs.Names.{List, None, inl, refl, ap}
use Rattle.hn_play.proofs.Names.{Sending, EventEnds, Sets, Process, ThenProcess, ended_sending, stage_of}
use Rattle.hn_world.specs.declared.event.WEvent.TheVariants as event
use Rattle.hn_play.proofs.RunAnswers.{answer_on}
use Rattle.hn_play.proofs.sending.detach.Goals as goal

pub returns-in_err-event : goal.returns-in_err-event
returns-in_err-event c route text =
    let p = stage_of c.args.playing.now route text in
    let a = stage_of c.event.new.self route text in
    let first : Process = EventEnds (event.Detach c.args.name c.args.endpoint) in
    let all : Process = ThenProcess first (Sets (ended_sending c.args.name c.args.endpoint)) in
    answer_on first all p p a (λ code h. inl h) (λ (_ : Unit {0}). first None) (λ _. all None) c.in_err-event.field-0.0 c.from_residual.result c.from_residual.ensures.1
    (c.in_err-event.ensures.ends route text)

pub returns : goal.returns
returns c route text =
    let m = stage_of c.event.new.self route text in
    (m, c.in_ok-event.ensures.ends route text, (refl, ap (λ (l : List Sending). record m { senders = l }) c.end.ensures))
