use Rattle.hn_base.proofs.Names.{◌≡◌, ◌∙◌, Option, None, Some, IsSome, inl, sym, refl, subst}
use Rattle.hn_lab.proofs.Names.{Report, EndsLeaving, EndsAs, OtherEnds, report_of, ReportEnds, stage_of}
use Rattle.hn_lab.proofs.LineEnds.{report_answered}
use Rattle.hn_play.proofs.RunAnswers.{leaves_so}
use Rattle.hn_play.proofs.RunStops.{leaving_within}
use Rattle.hn_lab.proofs.play_line.said.Goals as goal

pub returns-in-Some-clause-ends : goal.returns-in-Some-clause-ends
returns-in-Some-clause-ends g c text =
    let p = stage_of c.args.playing.now (g.C.Carrier.route c.args.carrier.now c.args.outside.now) text in
    let ends = ReportEnds c.in-Some.asked in
    let is : report_of c.args.line ≡ Some c.in-Some.asked = sym c.report_of.ensures ∙ c.in-Some.is in
    subst (λ (o : Option Report). EndsLeaving (EndsAs c.args.line o) c.stopping.result p p) (sym is)
    (leaves_so ends ends p p p (λ code h. h) c.reported.result c.stopping.result c.stopping.ensures.same refl (inl refl) (inl refl) (λ lines h. h)
    (report_answered c.in-Some.asked c.reported.result p c.reported.ensures.told c.reported.ensures.refused))

pub returns-in-None-clause-ends : goal.returns-in-None-clause-ends
returns-in-None-clause-ends g c text =
    let p = stage_of c.args.playing.now (g.C.Carrier.route c.args.carrier.now c.args.outside.now) text in
    let a = stage_of c.other.new.playing (g.C.Carrier.route c.args.carrier.now c.other.new.outside) text in
    let is : report_of c.args.line ≡ None = sym c.report_of.ensures ∙ c.in-None.is in
    leaving_within (OtherEnds c.args.line) (EndsAs c.args.line (report_of c.args.line)) c.other.result p a
    (λ stop at h. subst (λ (o : Option Report). EndsAs c.args.line o stop p at) (sym is) h) (c.other.ensures.ends text)

pub returns-in-None-clause-looks : goal.returns-in-None-clause-looks
returns-in-None-clause-looks g c some =
    let is : report_of c.args.line ≡ None = sym c.report_of.ensures ∙ c.in-None.is in
    let none = subst (λ (o : Option Report). IsSome o) is some in
    absurd cc
