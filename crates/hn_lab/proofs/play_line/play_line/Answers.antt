use Rattle.hn_base.proofs.Names.{◌≡◌, ◌∙◌, Option, None, IsSome, sym, subst, refl}
use Rattle.hn_lab.proofs.Names.{Line, WEvent, Stop, EventEnds, Runs, LineEnds, EndsAs, EndsBy, Follows, event_of, report_of, ThenProcess, Stage, stage_of}
use Rattle.hn_lab.proofs.OpenLines.{report_no_event, run_is_no_report}
use Rattle.hn_play.proofs.RunWrites.{writing_as}
use Rattle.hn_lab.proofs.play_line.play_line.Goals as goal

-- a line that is no event
other_ends : (l : Line) → event_of l ≡ None → (p : Stage) (stop : Option Stop) (at : Stage) → EndsAs l (report_of l) stop p at → LineEnds l stop p at
other_ends l is p stop at h = subst (λ (o : Option WEvent). EndsBy l o stop p at) (sym is) h

pub returns-in-Ok-clause-ends : goal.returns-in-Ok-clause-ends
returns-in-Ok-clause-ends g c text =
    let v = g.C.Carrier.route c.args.carrier.now c.args.outside.now in
    let p = stage_of c.args.playing.now v text in
    let ev = c.in-Ok.event in
    writing_as (ThenProcess (EventEnds ev) (Follows ev)) (LineEnds c.args.line) c.happen.result p (stage_of c.happen.new.playing v text) _ _
    (λ stop at h. subst (λ (o : Option WEvent). EndsBy c.args.line o stop p at) (sym c.in-Ok.ensures.event) h) (c.happen.ensures.ends v text)

pub returns-in-Err-Run-clause-ends : goal.returns-in-Err-Run-clause-ends
returns-in-Err-Run-clause-ends g c text =
    let p = stage_of c.args.playing.now (g.C.Carrier.route c.args.carrier.now c.args.outside.now) text in
    let a = stage_of c.run.new.playing (g.C.Carrier.route c.args.carrier.now c.run.new.outside) text in
    let is = c.in-Err-Run.ensures.other c.in-Err-Run.field-0 refl in
    writing_as (Runs c.in-Err-Run.end c.in-Err-Run.step) (LineEnds c.args.line) c.run.result p a _ _
    (λ stop at h. other_ends c.args.line is.1 p stop at (subst (λ (l : Line). EndsAs l (report_of l) stop p at) (sym c.in-Err-Run.field-0-is ∙ is.0) h)) (c.run.ensures.ends text)

pub returns-in-Err-clause-ends : goal.returns-in-Err-clause-ends
returns-in-Err-clause-ends g c text =
    let p = stage_of c.args.playing.now (g.C.Carrier.route c.args.carrier.now c.args.outside.now) text in
    let a = stage_of c.told.new.playing (g.C.Carrier.route c.args.carrier.now c.told.new.outside) text in
    let is = c.in-Err.ensures.other c.in-Err.line refl in
    writing_as (EndsAs c.in-Err.line (report_of c.in-Err.line)) (LineEnds c.args.line) c.told.result p a _ _
    (λ stop at h. other_ends c.args.line is.1 p stop at (subst (λ (l : Line). EndsAs l (report_of l) stop p at) is.0 h)) (c.told.ensures.ends text)

pub returns-in-Ok-clause-looks : goal.returns-in-Ok-clause-looks
returns-in-Ok-clause-looks g c some = absurd (report_no_event c.args.line c.in-Ok.event some c.in-Ok.ensures.event)

pub returns-in-Err-Run-clause-looks : goal.returns-in-Err-Run-clause-looks
returns-in-Err-Run-clause-looks g c some =
    let is = c.in-Err-Run.ensures.other c.in-Err-Run.field-0 refl in
    absurd (run_is_no_report c.args.line c.in-Err-Run.end c.in-Err-Run.step (sym is.0 ∙ c.in-Err-Run.field-0-is) some)

pub returns-in-Err-clause-looks : goal.returns-in-Err-clause-looks
returns-in-Err-clause-looks g c some =
    let is = c.in-Err.ensures.other c.in-Err.line refl in
    c.told.ensures.looks (subst (λ (l : Line). IsSome (report_of l)) (sym is.0) some)
