use Rattle.hn_base.proofs.Names.{refl}
use Rattle.hn_play.proofs.Names.{NoMemory, Cut, TurnEnds, stage_of}
use Rattle.hn_play.proofs.RunTurns.{turn_starves}
use Rattle.hn_play.proofs.RunWrites.{writing_on, lines_written, lines_cut}
use Rattle.hn_play.proofs.sending.turn.Goals as goal

pub returns-in_err-lines-clause-ends : goal.returns-in_err-lines-clause-ends
returns-in_err-lines-clause-ends g c route text =
    writing_on (TurnEnds c.args.name.now c.args.endpoint) (Cut NoMemory) c.from_residual.result _ _ _ _ c.from_residual.ensures.1
    (turn_starves c.args.name.now c.args.endpoint (stage_of c.args.playing.now route text) _ _ refl)

pub returns-in_err-write_lines-clause-ends : goal.returns-in_err-write_lines-clause-ends
returns-in_err-write_lines-clause-ends g c route text =
    let ends = TurnEnds c.args.name.now c.args.endpoint in
    let p = stage_of c.args.playing.now route text in
    let a = stage_of c.take_turn.new.playing route text in
    let fault = c.in_err-write_lines.field-0.0 in
    writing_on ends (Cut fault) c.from_residual-in_err-write_lines.result p a _ _ c.from_residual-in_err-write_lines.ensures.1
    (lines_cut ends c.in_ok-lines.lines p a _ _ refl (c.in_ok-lines.ensures.ends route text) fault c.in_err-write_lines.ensures.cut)

pub returns-clause-ends : goal.returns-clause-ends
returns-clause-ends g c route text =
    lines_written (TurnEnds c.args.name.now c.args.endpoint) c.in_ok-lines.lines (stage_of c.args.playing.now route text) (stage_of c.take_turn.new.playing route text) _ _ refl
    (c.in_ok-lines.ensures.ends route text) c.in_ok-write_lines.ensures.ok
