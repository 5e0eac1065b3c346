use Rattle.hn_base.proofs.Names.{inl, refl, sym, subst}
use Rattle.hn_lab.proofs.Names.{Line, Leaves, EndsLeaving, OtherEnds, stage_of}
use Rattle.hn_lab.proofs.LineEnds.{act_cut, acts}
use Rattle.hn_play.proofs.RunAnswers.{leaves_so}
use Rattle.hn_lab.proofs.play_line.other.Goals as goal

pub returns-in-Seed-clause-ends : goal.returns-in-Seed-clause-ends
returns-in-Seed-clause-ends g c text =
    let w = g.C.Carrier.route c.args.carrier.now c.args.outside.now in
    subst (λ (l : Line). Leaves (OtherEnds l) c.seed.result (stage_of c.args.playing.now w text) (stage_of c.seed.new.playing w text)) (sym c.in-Seed.is) (c.seed.ensures w text)

pub returns-in-Loss-clause-ends : goal.returns-in-Loss-clause-ends
returns-in-Loss-clause-ends g c text =
    let w = g.C.Carrier.route c.args.carrier.now c.args.outside.now in
    subst (λ (l : Line). Leaves (OtherEnds l) c.lose.result (stage_of c.args.playing.now w text) (stage_of c.lose.new.playing w text)) (sym c.in-Loss.is) (c.lose.ensures w text)

pub returns-in-Deliver-clause-ends : goal.returns-in-Deliver-clause-ends
returns-in-Deliver-clause-ends g c text =
    let p = stage_of c.args.playing.now (g.C.Carrier.route c.args.carrier.now c.args.outside.now) text in
    let a = stage_of c.delivered.new.playing (g.C.Carrier.route c.args.carrier.now c.delivered.new.outside) text in
    subst (λ (l : Line). EndsLeaving (OtherEnds l) c.delivered.result p a) (sym c.in-Deliver.is) (c.delivered.ensures.ends text)

pub returns-in-Flow-clause-ends : goal.returns-in-Flow-clause-ends
returns-in-Flow-clause-ends g c text =
    let p = stage_of c.args.playing.now (g.C.Carrier.route c.args.carrier.now c.args.outside.now) text in
    let a = stage_of c.flow_all.new.playing (g.C.Carrier.route c.args.carrier.now c.flow_all.new.outside) text in
    subst (λ (l : Line). EndsLeaving (OtherEnds l) c.flow_all.result p a) (sym c.in-Flow.is) (c.flow_all.ensures.ends text)

pub returns-in_default-clause-ends : goal.returns-in_default-clause-ends
returns-in_default-clause-ends g c text =
    let w = g.C.Carrier.route c.args.carrier.now c.args.outside.now in
    let p = stage_of c.args.playing.now w text in
    let a = stage_of c.act.new.playing w text in
    let ends = OtherEnds c.args.line in
    let act = acts c.args.line c.requires.other c.requires.no_report c.requires.no_run c.in_default.not-Seed c.in_default.not-Loss c.in_default.not-Deliver c.in_default.not-Flow in
    leaves_so ends ends p p a (λ code h. h) c.act.result c.stopping.result c.stopping.ensures.same refl (act_cut c.args.line p act) (inl refl) (λ lines h. h) (c.act.ensures w text)
