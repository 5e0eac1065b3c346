use Rattle.hn_base.proofs.Names.{◌≡◌, ℕ, List, [], Option, None, Result, inl, refl, sym, subst}
use Rattle.hn_play.proofs.Names.{WEvent, WorldFault, Stop, EventEnds, Follows, Sets, IsAnswered, stopping, Process, ThenProcess, TickEnds, ended_sending, ending_all, Stage, stage_of}
use Rattle.hn_play.proofs.Names.{EndsWriting}
use Rattle.hn_world.specs.declared.event.WEvent.TheVariants as event
use Rattle.hn_play.proofs.RunAnswers.{ends_so}
use Rattle.hn_play.proofs.RunEvents.{event_ends}
use Rattle.hn_play.proofs.RunTurns.{none_follows}
use Rattle.hn_play.proofs.RunWrites.{writing_as, still_writes, still_then}
use Rattle.hn_play.proofs.sending.happen.Goals as goal

-- what is known of an event is known of what it is
so : (ev other : WEvent) → ev ≡ other → (p : Stage) (stop : Option Stop) (at : Stage) → ThenProcess (EventEnds other) (Follows other) stop p at → ThenProcess (EventEnds ev) (Follows ev) stop p at
so ev other is p stop at h = subst (λ (x : WEvent). ThenProcess (EventEnds x) (Follows x) stop p at) (sym is) h

-- an event after which something is set
set_after : {A : Type 0} (ev other : WEvent) (change : Stage → Stage) (answer : Result A WorldFault) (r : Result A Stop) (p a : Stage) (h : Option (List ℕ)) → ev ≡ other
    → ((stop : Option Stop) (at : Stage) → ThenProcess (EventEnds other) (Sets change) stop p at → ThenProcess (EventEnds other) (Follows other) stop p at)
    → r ≡ stopping answer → a.text ≡ p.text → a.route ≡ p.route → IsAnswered (ThenProcess (EventEnds other) (Sets change)) answer p a
    → EndsWriting (ThenProcess (EventEnds ev) (Follows ev)) r p a h h
set_after ev other change answer r p a h is sets_so same told stays answered =
    let sets : Process = ThenProcess (EventEnds other) (Sets change) in
    writing_as sets (ThenProcess (EventEnds ev) (Follows ev)) r p a h h (λ stop at x. so ev other is p stop at (sets_so stop at x))
    (still_writes sets r p a h told (ends_so sets sets p p a (λ code x. x) (λ _. sets None) (λ _. sets) answer r same told (inl ([], refl)) (inl stays) (λ _ x. x) answered))

pub returns-in-Tick-clause-ends : goal.returns-in-Tick-clause-ends
returns-in-Tick-clause-ends g c route text =
    let p = stage_of c.args.playing.now route text in
    let ev = c.args.event in
    writing_as (TickEnds c.in-Tick.name) (ThenProcess (EventEnds ev) (Follows ev)) c.tick.result p (stage_of c.tick.new.playing route text) _ _
    (so ev (event.Tick c.in-Tick.name) c.in-Tick.is p) (c.tick.ensures.ends route text)

pub returns-in-Detach-clause-ends : goal.returns-in-Detach-clause-ends
returns-in-Detach-clause-ends g c route text =
    let p = stage_of c.args.playing.now route text in
    set_after c.args.event (event.Detach c.in-Detach.name c.in-Detach.endpoint) (ended_sending c.in-Detach.name c.in-Detach.endpoint) c.detach.result c.stopping.result p
    (stage_of c.detach.new.playing route text) _ c.in-Detach.is (λ stop at h. h) c.stopping.ensures.same refl refl (c.detach.ensures route text)

pub returns-in-Stop-clause-ends : goal.returns-in-Stop-clause-ends
returns-in-Stop-clause-ends g c route text =
    let p = stage_of c.args.playing.now route text in
    set_after c.args.event (event.Stop c.in-Stop.name) (ending_all c.in-Stop.name) c.silence.result c.stopping-in-Stop.result p
    (stage_of c.silence.new.playing route text) _ c.in-Stop.is (λ stop at h. h) c.stopping-in-Stop.ensures.same refl refl (c.silence.ensures route text)

pub returns-in-Start-clause-ends : goal.returns-in-Start-clause-ends
returns-in-Start-clause-ends g c route text =
    let p = stage_of c.args.playing.now route text in
    set_after c.args.event (event.Start c.in-Start.name) (ending_all c.in-Start.name) c.silence-in-Start.result c.stopping-in-Start.result p
    (stage_of c.silence-in-Start.new.playing route text) _ c.in-Start.is (λ stop at h. h) c.stopping-in-Start.ensures.same refl refl (c.silence-in-Start.ensures route text)

pub returns-in_default-clause-ends : goal.returns-in_default-clause-ends
returns-in_default-clause-ends g c route text =
    let p = stage_of c.args.playing.now route text in
    let a = stage_of c.event.new.self route text in
    let ev = c.args.event in
    still_then (EventEnds ev) (Follows ev) c.stopping-in_default.result p a _ refl
    (none_follows ev c.in_default.not-Tick c.in_default.not-Detach c.in_default.not-Stop c.in_default.not-Start)
    (event_ends ev (EventEnds ev) c.event.result c.stopping-in_default.result p a c.stopping-in_default.ensures.same refl refl (λ stop at h. h) (c.event.ensures.ends route text))
