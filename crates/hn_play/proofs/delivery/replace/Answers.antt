use Rattle.hn_base.proofs.Names.{◌≡◌, Some}
use Rattle.hn_play.proofs.Names.{injection_for, stage_of}
use Rattle.hn_world.specs.declared.event.WEvent.TheVariants as event
use Rattle.hn_play.proofs.RunDeliveries.{injected_for, replaced, not_dropped}
use Rattle.hn_play.proofs.delivery.replace.Goals as goal

pub returns-in_err-event-clause-ends : goal.returns-in_err-event-clause-ends
returns-in_err-event-clause-ends c route text k is =
    let p = stage_of c.args.playing.now route text in
    let a = stage_of c.event.new.self route text in
    let info = c.in-Some.info in
    let inject = event.Inject info.to info.endpoint info.from info.multicast c.args.bytes in
    let other = injection_for p.world k c.args.bytes in
    let other_is : other ≡ Some inject = injected_for p.world k c.args.bytes info _ c.in-Some.ensures.info is in
    not_dropped c.args.copy inject other other_is p p a (Unit {0}) c.in_err-event.field-0.0 c.from_residual.result c.from_residual.ensures.1 (c.in_err-event.ensures.ends route text)

pub returns-clause-ends : goal.returns-clause-ends
returns-clause-ends c route text k is =
    let p = stage_of c.args.playing.now route text in
    let b = stage_of c.event.new.self route text in
    let a = stage_of c.noted.new.self route text in
    let info = c.in-Some.info in
    let inject = event.Inject info.to info.endpoint info.from info.multicast c.args.bytes in
    let other = injection_for p.world k c.args.bytes in
    let other_is : other ≡ Some inject = injected_for p.world k c.args.bytes info _ c.in-Some.ensures.info is in
    replaced c.args.copy inject other other_is p b a (c.in_ok-event.ensures.ends route text) c.noted.result (c.noted.ensures.ends route text)
