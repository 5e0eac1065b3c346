use Rattle.hn_base.proofs.Names.{◌∙◌, List, [], Ok, Err, inl, refl, subst}
use Rattle.hn_play.proofs.Names.{EpId, NoMemory, Cut, EventEnds, EachProcess, TurnEnds, TickEnds, stage_of}
use Rattle.hn_world.specs.declared.event.WEvent.TheVariants as event
use Rattle.hn_play.proofs.RunEvents.{event_ends}
use Rattle.hn_play.proofs.RunWrites.{starves, still_done, still_stopped, first_stops, then_writes, writing_as, writing_on}
use Rattle.hn_play.specs.Sending.{Turns}
use Rattle.hn_play.proofs.sending.tick.Goals as goal

pub returns-in_err-stopping-clause-ends : goal.returns-in_err-stopping-clause-ends
returns-in_err-stopping-clause-ends g c route text =
    let p = stage_of c.args.playing.now route text in
    let a = stage_of c.event.new.self route text in
    let why = c.in_err-stopping.field-0.0 in
    let ev = event.Tick c.args.name in
    writing_on (TickEnds c.args.name) why c.from_residual.result p a _ _ c.from_residual.ensures.1
    (first_stops (EventEnds ev) (Turns c.args.name) why p a _ _ (still_stopped (EventEnds ev) why p a _
    (event_ends ev (EventEnds ev) c.event.result (Err why) p a c.in_err-stopping.ensures.same refl refl (λ stop at h. h) (c.event.ensures.ends route text))))

pub returns-in_err-endpoints-clause-ends : goal.returns-in_err-endpoints-clause-ends
returns-in_err-endpoints-clause-ends g c route text =
    let p = stage_of c.args.playing.now route text in
    writing_on (TickEnds c.args.name) (Cut NoMemory) c.from_residual-in_err-endpoints.result p _ _ _ c.from_residual-in_err-endpoints.ensures.1
    (starves (TickEnds c.args.name) p _ _ (inl ([], refl)) refl)

pub returns-clause-ends : goal.returns-clause-ends
returns-clause-ends g c route text =
    let p = stage_of c.args.playing.now route text in
    let m = stage_of c.event.new.self route text in
    let a = stage_of c.turns.new.playing route text in
    let name = c.args.name in
    let ev = event.Tick name in
    let ticked = event_ends ev (EventEnds ev) c.event.result (Ok c.in_ok-stopping.field-0) p m c.in_ok-stopping.ensures.same refl refl (λ stop at h. h) (c.event.ensures.ends route text) in
    let first = still_done (EventEnds ev) p m (g.K.Sink.held c.args.out.now) refl ticked in
    then_writes (EventEnds (event.Tick name)) (Turns name) c.turns.result p m a _ _ _ first
    (writing_as (EachProcess (TurnEnds name) c.deref.result.now) (Turns name) c.turns.result (record m { text = first.at.text }) (record a { text = first.at.text }) _ _
    (λ stop at h. subst (λ (es : List EpId). EachProcess (TurnEnds name) es stop (record m { text = first.at.text }) at) (c.deref.ensures.value ∙ c.in_ok-endpoints.ensures) h)
    (c.turns.ensures.ends route first.at.text))
