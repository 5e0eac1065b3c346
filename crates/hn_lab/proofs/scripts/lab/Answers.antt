use Rattle.hn_base.proofs.Names.{ℕ, Option, subst}
use Rattle.hn_lab.proofs.Names.{world_parts, IsLabRun, Mail, route_of}
use Rattle.hn_lab.proofs.scripts.lab.Goals as goal

pub returns-clause-transcript : goal.returns-clause-transcript
returns-clause-transcript g c none some =
    let last = route_of c.args.base (g.W.Wire.waiting c.read_and_play.new.wire) in
    let left = g.S.Source.left c.args.src.now in
    let result = c.read_and_play.result in
    let before = g.K.Sink.held c.args.out.now in
    let after = g.K.Sink.held c.read_and_play.new.out in
    let run : IsLabRun Mail last left result.status (world_parts result.world) before after =
    subst (λ (base : Option ℕ). IsLabRun (route_of base (g.W.Wire.waiting c.args.wire.now)) last left result.status (world_parts result.world) before after) none (c.read_and_play.ensures.lab some) in
    record { run = run; of_script = c.lab_is_of_transcript.ensures last left result.status (world_parts result.world) before after run (c.read_and_play.ensures.unwired none).1 }
