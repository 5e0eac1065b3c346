use Rattle.hn_base.proofs.Names.{◌∙◌, [], Option, None, Some, inl, refl, sym, subst}
use Rattle.hn_lab.proofs.Names.{IsChoice, WEvent, Refused, chosen_event, MayHappen, Leaves, OtherEnds, Stage, stage_of, stream_words}
use Rattle.hn_script.specs.declared.line.Line.TheVariants as line
use Rattle.hn_lab.proofs.Choosings.{has_chosen, choice_refused, choice_left}
use Rattle.hn_play.proofs.RunAnswers.{no_memory, answer_on}
use Rattle.hn_lab.proofs.choosing.address.Goals as goal

pub returns-in-Some : goal.returns-in-Some
returns-in-Some c route text = inl (sym c.unless_runs.ensures ∙ c.in-Some.is, refl)

pub returns-in_err-choice : goal.returns-in_err-choice
returns-in_err-choice c route text = no_memory _ (OtherEnds (line.Address c.args.name)) c.from_residual.result _ _ c.from_residual.ensures.1

pub returns-in_err-may_happen : goal.returns-in_err-may_happen
returns-in_err-may_happen c route text =
    let name = c.args.name in
    let made = c.in_ok-choice.choice in
    let p = stage_of c.args.playing.now route text in
    let s : Stage = record p { words = stream_words c.choose.new.draw } in
    let a = stage_of c.may_happen.new.playing route text in
    let chosen = has_chosen name IsChoice (chosen_event name) (λ made. []) made c.running-router.result.now p s
    (sym c.unless_runs.ensures ∙ c.in_default.is) c.running-router.ensures c.in_ok-choice.ensures.chosen refl in
    let ends = OtherEnds (line.Address name) in
    answer_on (MayHappen c.chosen_event.result) ends p s a
    (λ code h. choice_refused name IsChoice (chosen_event name) (λ made. []) made p s a chosen code
    (subst (λ (e : Option WEvent). MayHappen e (Some (Refused code)) s a) c.chosen_event.ensures.event h))
    (λ (_ : Unit {0}). MayHappen c.chosen_event.result None) (Leaves ends) c.in_err-may_happen.field-0.0 c.from_residual-in_err-may_happen.result
    c.from_residual-in_err-may_happen.ensures.1 (c.in_err-may_happen.ensures route text)

pub returns : goal.returns
returns c route text =
    let name = c.args.name in
    let made = c.in_ok-choice.choice in
    let p = stage_of c.args.playing.now route text in
    let s : Stage = record p { words = stream_words c.choose.new.draw } in
    let a = stage_of c.may_happen.new.playing route text in
    let chosen = has_chosen name IsChoice (chosen_event name) (λ made. []) made c.running-router.result.now p s
    (sym c.unless_runs.ensures ∙ c.in_default.is) c.running-router.ensures c.in_ok-choice.ensures.chosen refl in
    choice_left name IsChoice (chosen_event name) (λ made. []) made c.new.result p s a chosen
    (subst (λ (e : Option WEvent). MayHappen e None s a) c.chosen_event.ensures.event (c.in_ok-may_happen.ensures route text)) c.new.ensures
