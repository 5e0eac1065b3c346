use Rattle.hn_base.proofs.Names.{true, List, refl, ap}
use Rattle.hn_play.proofs.Names.{Sending, stage_of, stream_words}
use Rattle.hn_play.proofs.RunTurns.{goes}
use Rattle.hn_play.proofs.sending.is_due.Goals as goal

pub returns-clause-due : goal.returns-clause-due
returns-clause-due c route text sending there =
    let p = stage_of c.args.playing.now route text in
    goes c.args.place sending c.args.shape c.asked-sender.result c.moment.result true p _ (c.asked-sender.ensures sending there) c.if-not-due.ensures.answer c.moment.ensures.moment
    c.due.new.self (stream_words c.due.new.draw) refl (c.if-not-due.ensures.sent refl)
    (ap (λ (l : List Sending). record p { senders = l; words = stream_words c.due.new.draw }) (c.sent.ensures sending there))
