use Rattle.hn_base.proofs.Names.{Bool, true, false, None, sym, refl, subst}
use Rattle.hn_play.proofs.Names.{Delivers, Ended, TreatmentEnds, stage_of}
use Rattle.hn_world.specs.declared.event.WEvent.TheVariants as event
use Rattle.hn_play.proofs.RunEvents.{event_ends}
use Rattle.hn_play.proofs.RunStops.{handed_on, stopped_within}
use Rattle.hn_play.proofs.flowing.treat.Goals as goal

pub returns-then-lost-clause-ends : goal.returns-then-lost-clause-ends
returns-then-lost-clause-ends g c text =
    let w = g.C.Carrier.route c.args.carrier.now c.args.outside.now in
    let p = stage_of c.args.playing.now w text in
    let a = stage_of c.event.new.self w text in
    subst (λ (lost : Bool). Ended (TreatmentEnds lost c.args.copy) c.stopping.result p a) (sym c.if-lost.true)
    (event_ends (event.Drop c.args.copy) (TreatmentEnds true c.args.copy) c.event.result c.stopping.result p a c.stopping.ensures.same refl refl (λ stop at h. h) (c.event.ensures.ends w text))

pub returns-in_err-_notes-clause-ends : goal.returns-in_err-_notes-clause-ends
returns-in_err-_notes-clause-ends g c text =
    let p = stage_of c.args.playing.now (g.C.Carrier.route c.args.carrier.now c.args.outside.now) text in
    let a = stage_of c.deliver.new.playing (g.C.Carrier.route c.args.carrier.now c.deliver.new.outside) text in
    let copy = c.args.copy in
    let why = c.in_err-_notes.field-0.0 in
    subst (λ (lost : Bool). Ended (TreatmentEnds lost copy) c.from_residual.result p a) (sym c.if-lost.false)
    (handed_on (λ _. TreatmentEnds false copy) (TreatmentEnds false copy) why c.from_residual.result p a c.from_residual.ensures.1
    (stopped_within (Delivers copy) (TreatmentEnds false copy) why p p a (λ at h. h) refl (c.in_err-_notes.ensures.ends text)))

pub returns-clause-ends : goal.returns-clause-ends
returns-clause-ends g c text =
    let p = stage_of c.args.playing.now (g.C.Carrier.route c.args.carrier.now c.args.outside.now) text in
    let a = stage_of c.deliver.new.playing (g.C.Carrier.route c.args.carrier.now c.deliver.new.outside) text in
    subst (λ (lost : Bool). TreatmentEnds lost c.args.copy None p a) (sym c.if-lost.false) (c.in_ok-_notes._notes, c.in_ok-_notes.ensures.ends text)
