use Rattle.hn_base.proofs.Names.{◌∙◌, List, inl, refl, sym, ap}
use Rattle.hn_lab.proofs.Names.{Sending, OtherEnds, stage_of}
use Rattle.hn_script.specs.declared.line.Line.TheVariants as line
use Rattle.hn_play.proofs.RunAnswers.{no_memory}
use Rattle.hn_lab.proofs.Solicitings.{radv_left}
use Rattle.hn_lab.proofs.soliciting.radv.Goals as goal

pub returns-in-Some : goal.returns-in-Some
returns-in-Some c route text = inl (sym c.unless_elects.ensures ∙ c.in-Some.is, refl)

pub returns-in_err-start : goal.returns-in_err-start
returns-in_err-start c route text = no_memory _ (OtherEnds (line.Radv c.args.name c.args.endpoint)) c.from_residual.result _ _ c.from_residual.ensures.1

pub returns : goal.returns
returns c route text =
    let p = stage_of c.args.playing.now route text in
    radv_left c.args.name c.args.endpoint c.moment.result c.new.result p _ (sym c.unless_elects.ensures ∙ c.in_default.is) c.moment.ensures.moment
    (ap (λ (l : List Sending). record p { senders = l }) c.in_ok-start.ensures) c.new.ensures
