use Rattle.hn_base.proofs.Names.{ℕ, List, refl, ap, subst, lit<, Appends}
use Rattle.hn_lab.proofs.Names.{world_parts, IsLabOf, StatusOfScript, route_of}
use Rattle.hn_lab.proofs.PlayScripts.{lab_run, starved_run, appends_nothing, among_all}
use Rattle.hn_lab.proofs.scripts.read_and_play.Goals as goal

pub returns-in-Ok-clause-lab : goal.returns-in-Ok-clause-lab
returns-in-Ok-clause-lab g c _ =
    let first = route_of c.args.base (g.W.Wire.waiting c.args.wire.now) in
    let last = route_of c.args.base (g.W.Wire.waiting c.play_bytes.new.wire) in
    let result = c.play_bytes.result in
    let before = g.K.Sink.held c.args.out.now in
    let after = g.K.Sink.held c.play_bytes.new.out in
    let lab = subst (λ (bytes : List ℕ). (written : List ℕ) × IsLabOf first last bytes result.status (world_parts result.world) written
    × Appends before after written) c.deref.ensures.value c.play_bytes.ensures.lab in
    let only = subst (λ (bytes : List ℕ). StatusOfScript first bytes result.status) c.deref.ensures.value c.play_bytes.ensures.only in
    lab_run first last result.status (world_parts result.world) before after (g.S.Source.left c.args.src.now)
    (g.S.Source.left c.read_all.new.src) c.in-Ok.bytes.items c.in-Ok.ensures.all c.in-Ok.ensures.whole lab only

pub returns-in-Ok-clause-statuses : goal.returns-in-Ok-clause-statuses
returns-in-Ok-clause-statuses g c = among_all c.play_bytes.result.status c.play_bytes.ensures.statuses

pub returns-in-Err-Failed-clause-statuses : goal.returns-in-Err-Failed-clause-statuses
returns-in-Err-Failed-clause-statuses g c = rw c.without_world.ensures.status (2, lit< tt, refl)

pub returns-in-Err-NoMemory-clause-lab : goal.returns-in-Err-NoMemory-clause-lab
returns-in-Err-NoMemory-clause-lab g c _ =
    let w = g.W.Wire.waiting c.args.wire.now in
    starved_run (route_of c.args.base w) (route_of c.args.base w) c.without_world-in-Err-NoMemory.result.status (world_parts c.without_world-in-Err-NoMemory.result.world) _ _
    (g.S.Source.left c.args.src.now)
    c.without_world-in-Err-NoMemory.ensures.status (ap world_parts c.without_world-in-Err-NoMemory.ensures.no_world) refl (appends_nothing (g.K.Sink.held c.args.out.now))
