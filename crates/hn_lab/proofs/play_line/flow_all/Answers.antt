use Rattle.hn_base.proofs.Names.{refl}
use Rattle.hn_lab.proofs.Names.{Flow, OtherEnds, stage_of}
use Rattle.hn_script.specs.declared.line.Line.TheVariants as line
use Rattle.hn_play.proofs.RunStops.{leaving_on, nothing_left, stopped_within}
use Rattle.hn_lab.proofs.play_line.flow_all.Goals as goal

pub returns-in_err-flow-clause-ends : goal.returns-in_err-flow-clause-ends
returns-in_err-flow-clause-ends g c text =
    let p = stage_of c.args.playing.now (g.C.Carrier.route c.args.carrier.now c.args.outside.now) text in
    let a = stage_of c.flow.new.playing (g.C.Carrier.route c.args.carrier.now c.flow.new.outside) text in
    let why = c.in_err-flow.field-0.0 in
    leaving_on (OtherEnds line.Flow) why c.from_residual.result p a c.from_residual.ensures.1 (stopped_within Flow (OtherEnds line.Flow) why p p a (λ at h. h) refl (c.in_err-flow.ensures.ends text))

pub returns-clause-ends : goal.returns-clause-ends
returns-clause-ends g c text =
    nothing_left (OtherEnds line.Flow) c.new.result (stage_of c.args.playing.now (g.C.Carrier.route c.args.carrier.now c.args.outside.now) text)
    (stage_of c.flow.new.playing (g.C.Carrier.route c.args.carrier.now c.flow.new.outside) text) c.new.ensures (c.in_ok-flow.ensures.ends text)
