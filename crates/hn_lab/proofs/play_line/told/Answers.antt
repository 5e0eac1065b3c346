use Rattle.hn_base.proofs.Names.{◌≢◌, [], Err, refl, arith}
use Rattle.hn_lab.proofs.Names.{Failed, Cut, EndsAs, report_of, stage_of}
use Rattle.hn_play.proofs.RunStops.{no_other_error}
use Rattle.hn_play.proofs.RunWrites.{lines_written, lines_cut, still_stopped, writing_on}
use Rattle.hn_lab.proofs.play_line.told.Goals as goal

pub returns-in_err-lines-clause-ends : goal.returns-in_err-lines-clause-ends
returns-in_err-lines-clause-ends g c text =
    let p = stage_of c.args.playing.now (g.C.Carrier.route c.args.carrier.now c.args.outside.now) text in
    let a = stage_of c.said.new.playing (g.C.Carrier.route c.args.carrier.now c.said.new.outside) text in
    let why = c.in_err-lines.field-0.0 in
    writing_on (EndsAs c.args.line (report_of c.args.line)) why c.from_residual.result p a _ _ c.from_residual.ensures.1
    (still_stopped (EndsAs c.args.line (report_of c.args.line)) why p a _ (c.in_err-lines.ensures.ends text))

pub returns-in_err-write_lines-clause-ends : goal.returns-in_err-write_lines-clause-ends
returns-in_err-write_lines-clause-ends g c text =
    let p = stage_of c.args.playing.now (g.C.Carrier.route c.args.carrier.now c.args.outside.now) text in
    let a = stage_of c.said.new.playing (g.C.Carrier.route c.args.carrier.now c.said.new.outside) text in
    let fault = c.in_err-write_lines.field-0.0 in
    writing_on (EndsAs c.args.line (report_of c.args.line)) (Cut fault) c.from_residual-in_err-write_lines.result p a _ _ c.from_residual-in_err-write_lines.ensures.1
    (lines_cut (EndsAs c.args.line (report_of c.args.line)) c.in_ok-lines.lines p a _ _ refl (c.in_ok-lines.ensures.ends text) fault c.in_err-write_lines.ensures.cut)

pub returns-clause-ends : goal.returns-clause-ends
returns-clause-ends g c text =
    let p = stage_of c.args.playing.now (g.C.Carrier.route c.args.carrier.now c.args.outside.now) text in
    let a = stage_of c.said.new.playing (g.C.Carrier.route c.args.carrier.now c.said.new.outside) text in
    lines_written (EndsAs c.args.line (report_of c.args.line)) c.in_ok-lines.lines p a _ _ refl (c.in_ok-lines.ensures.ends text) c.in_ok-write_lines.ensures.ok

-- nothing was written yet
unwritten : (g : _) (c : goal.After-from_residual g) → c.from_residual.result ≢ Err (Cut Failed)
unwritten g c = no_other_error c.in_err-lines.field-0.0 (Cut Failed) c.from_residual.result c.from_residual.ensures.1 (c.in_err-lines.ensures.ends []).unwritten

pub returns-in_err-lines-clause-sink_caused : goal.returns-in_err-lines-clause-sink_caused
returns-in_err-lines-clause-sink_caused g c = record {
  counts = record { rises = λ failed. absurd (unwritten g c failed); stays = λ _. refl; never_falls = omega arith };
  reliable = λ never. (never, unwritten g c);
}
