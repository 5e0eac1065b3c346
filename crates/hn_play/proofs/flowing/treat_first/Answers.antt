use Rattle.hn_base.proofs.Names.{refl}
use Rattle.hn_play.proofs.Names.{TreatmentEnds, CopyEnds, stage_of}
use Rattle.hn_play.proofs.RunCopies.{some_copy, copy_ends}
use Rattle.hn_play.proofs.RunStops.{ended_within}
use Rattle.hn_play.proofs.flowing.treat_first.Goals as goal

pub returns-clause-ends : goal.returns-clause-ends
returns-clause-ends g c text =
    let w = g.C.Carrier.route c.args.carrier.now c.args.outside.now in
    let p = stage_of c.args.playing.now w text in
    let q = stage_of c.is_lost-lost.new.playing w text in
    let a = stage_of c.treat.new.playing (g.C.Carrier.route c.args.carrier.now c.treat.new.outside) text in
    let place = c.requires.0 in
    let some = some_copy c.args.playing.now.world.parts.copies place c.requires.1 in
    let lost = c.is_lost-lost.ensures.lost w text place some.0 c.requires.2 some.1 in
    ended_within (TreatmentEnds c.is_lost-lost.result c.args.copy) CopyEnds c.treat.result p q a
    (copy_ends p q place some.0 c.args.copy c.is_lost-lost.result c.requires.1 some.1 c.requires.2 lost) refl (c.treat.ensures.ends text)
