use Rattle.hn_base.proofs.Names.{List, Err, ℕ, refl, ap, subst}
use Rattle.hn_play.proofs.Names.{copy_at, Carries, Breaks, stage_of}
use Rattle.hn_play.specs.Carrying.{Starves}
use Rattle.hn_play.proofs.RunDeliveries.{delivered_copy, bytes_of_copy, short_copy, conveyed_ends, broken, delivery_starved}
use Rattle.hn_play.proofs.delivery.convey.Goals as goal

pub carry-requires : goal.carry-requires
carry-requires g c = short_copy c.args.playing.now.world.parts c.args.copy c.in-Some.bytes.now
    (c.always_within_limits.ensures.now c.args.playing.now.world.parts c.is_replayed.ensures) c.in-Some.ensures c.requires

pub returns-in-Ok-clause-ends : goal.returns-in-Ok-clause-ends
returns-in-Ok-clause-ends g c text =
    let w = g.C.Carrier.route c.args.carrier.now c.args.outside.now in
    let v = g.C.Carrier.route c.args.carrier.now c.carry.new.outside in
    let copy = c.args.copy in
    let p = stage_of c.args.playing.now w text in
    let found = delivered_copy p.world copy c.requires in
    let bytes_are = bytes_of_copy c.in-Some.bytes.now (copy_at p.world copy) found.0 c.in-Some.ensures found.1 in
    let carries = subst (λ (b : List ℕ). Carries b c.in-Ok.carried w v) bytes_are c.in-Ok.ensures.carries in
    conveyed_ends copy found.0 c.in-Ok.carried c.come_to.result c.stopping.result p (stage_of c.args.playing.now v text) (stage_of c.come_to.new.playing v text) c.requires found.1 carries refl
    c.stopping.ensures.same refl refl (c.come_to.ensures.ends v text found.0 found.1)

pub returns-in-Err-Failed-clause-ends : goal.returns-in-Err-Failed-clause-ends
returns-in-Err-Failed-clause-ends g c text =
    let w = g.C.Carrier.route c.args.carrier.now c.args.outside.now in
    let v = g.C.Carrier.route c.args.carrier.now c.carry.new.outside in
    let p = stage_of c.args.playing.now w text in
    let found = delivered_copy p.world c.args.copy c.requires in
    let bytes_are = bytes_of_copy c.in-Some.bytes.now (copy_at p.world c.args.copy) found.0 c.in-Some.ensures found.1 in
    let breaks = subst (λ (b : List ℕ). Breaks b w v) bytes_are (c.in-Err-Failed.ensures.broken (ap Err c.in-Err-Failed.field-0-is)) in
    broken c.args.copy found.0 v p c.requires found.1 breaks

pub returns-in-Err-NoMemory-clause-ends : goal.returns-in-Err-NoMemory-clause-ends
returns-in-Err-NoMemory-clause-ends g c text =
    let w = g.C.Carrier.route c.args.carrier.now c.args.outside.now in
    let v = g.C.Carrier.route c.args.carrier.now c.carry.new.outside in
    let p = stage_of c.args.playing.now w text in
    let found = delivered_copy p.world c.args.copy c.requires in
    let bytes_are = bytes_of_copy c.in-Some.bytes.now (copy_at p.world c.args.copy) found.0 c.in-Some.ensures found.1 in
    let starves = subst (λ (b : List ℕ). Starves b w v) bytes_are (c.in-Err-NoMemory.ensures.starved (ap Err c.in-Err-NoMemory.field-0-is)) in
    delivery_starved c.args.copy found.0 p (stage_of c.args.playing.now v text) found.1 starves
