use Rattle.hn_base.proofs.Names.{◌∙◌, [], ◌∷◌, Option, None, Some, inl, refl, sym, subst}
use Rattle.hn_lab.proofs.Names.{Decides, WEvent, Refused, decided_event, MayHappen, Leaves, OtherEnds, Stage, stage_of, stream_words, ula_line}
use Rattle.hn_script.specs.declared.line.Line.TheVariants as line
use Rattle.hn_lab.proofs.Choosings.{has_chosen, choice_refused, choice_left}
use Rattle.hn_play.proofs.RunAnswers.{no_memory, answer_on}
use Rattle.hn_lab.proofs.choosing.ula.Goals as goal

pub returns-in-Some : goal.returns-in-Some
returns-in-Some c route text = inl (sym c.unless_runs.ensures ∙ c.in-Some.is, refl)

pub returns-in_err-decided : goal.returns-in_err-decided
returns-in_err-decided c route text = no_memory _ (OtherEnds (line.Ula c.args.name)) c.from_residual.result _ _ c.from_residual.ensures.1

pub returns-in_err-may_happen : goal.returns-in_err-may_happen
returns-in_err-may_happen c route text =
    let name = c.args.name in
    let made = c.in_ok-decided.decided in
    let p = stage_of c.args.playing.now route text in
    let s : Stage = record p { words = stream_words c.decide.new.draw } in
    let a = stage_of c.may_happen.new.playing route text in
    let chosen = has_chosen name Decides (decided_event name) (λ made. ula_line name made ∷ []) made c.running-router.result.now p s
    (sym c.unless_runs.ensures ∙ c.in_default.is) c.running-router.ensures c.in_ok-decided.ensures.decided refl in
    let ends = OtherEnds (line.Ula name) in
    answer_on (MayHappen c.decided_event.result) ends p s a
    (λ code h. choice_refused name Decides (decided_event name) (λ made. ula_line name made ∷ []) made p s a chosen code
    (subst (λ (e : Option WEvent). MayHappen e (Some (Refused code)) s a) c.decided_event.ensures.event h))
    (λ (_ : Unit {0}). MayHappen c.decided_event.result None) (Leaves ends) c.in_err-may_happen.field-0.0 c.from_residual-in_err-may_happen.result
    c.from_residual-in_err-may_happen.ensures.1 (c.in_err-may_happen.ensures route text)

pub returns-in_err-ula_line : goal.returns-in_err-ula_line
returns-in_err-ula_line c route text = no_memory _ (OtherEnds (line.Ula c.args.name)) c.from_residual-in_err-ula_line.result _ _ c.from_residual-in_err-ula_line.ensures.1

pub returns : goal.returns
returns c route text =
    let name = c.args.name in
    let made = c.in_ok-decided.decided in
    let p = stage_of c.args.playing.now route text in
    let s : Stage = record p { words = stream_words c.decide.new.draw } in
    let a = stage_of c.may_happen.new.playing route text in
    let chosen = has_chosen name Decides (decided_event name) (λ made. ula_line name made ∷ []) made c.running-router.result.now p s
    (sym c.unless_runs.ensures ∙ c.in_default.is) c.running-router.ensures c.in_ok-decided.ensures.decided refl in
    choice_left name Decides (decided_event name) (λ made. ula_line name made ∷ []) made c.in_ok-ula_line.field-0 p s a chosen
    (subst (λ (e : Option WEvent). MayHappen e None s a) c.decided_event.ensures.event (c.in_ok-may_happen.ensures route text)) c.in_ok-ula_line.ensures
