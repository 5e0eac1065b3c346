use Rattle.hn_base.proofs.Names.{◌∙◌, List, [], inl, refl, subst}
use Rattle.hn_play.proofs.Names.{Name, NoMemory, Cut, Ticks, EachProcess, TickEnds, stage_of}
use Rattle.hn_play.proofs.RunEach.{each_starved}
use Rattle.hn_play.proofs.RunWrites.{starves, writing_as, writing_on}
use Rattle.hn_world.specs.Receivers.{running_names}
use Rattle.hn_play.proofs.rounds.ticks.Goals as goal

pub returns-in_err-names-clause-ends : goal.returns-in_err-names-clause-ends
returns-in_err-names-clause-ends g c route text =
    let p = stage_of c.args.playing.now route text in
    writing_on Ticks (Cut NoMemory) c.from_residual.result p _ _ _ c.from_residual.ensures.1
    (starves Ticks p _ _ (each_starved TickEnds (λ name q. inl ([], refl)) (running_names p.world) p) refl)

pub returns-clause-ends : goal.returns-clause-ends
returns-clause-ends g c route text =
    let p = stage_of c.args.playing.now route text in
    let a = stage_of c.ticks_of.new.playing route text in
    writing_as (EachProcess TickEnds c.as_slice.result.now) Ticks c.ticks_of.result p a _ _
    (λ stop at h. subst (λ (names : List Name). EachProcess TickEnds names stop p at) (c.as_slice.ensures.value ∙ c.in_ok-names.ensures) h) (c.ticks_of.ensures.ends route text)
