use Rattle.hn_base.proofs.Names.{ℕ, Option, subst}
use Rattle.hn_lab.proofs.Names.{world_parts, Plays, route_of}
use Rattle.hn_lab.proofs.scripts.play.Goals as goal

pub returns-clause-transcript : goal.returns-clause-transcript
returns-clause-transcript g c by_mail bytes is =
    let played = c.play_script.result in
    let world = world_parts played.world in
    let (written, plays, appends) = c.play_script.ensures.plays in
    let last = route_of c.args.base (g.W.Wire.waiting c.play_script.new.wire) in
    let mailed = subst (λ (base : Option ℕ). Plays (route_of base (g.W.Wire.waiting c.args.wire.now)) last c.args.script played.status world written) by_mail plays in
    (written, c.play_is_of_transcript.ensures last c.args.script bytes played.status world written (c.play_script.ensures.unwired by_mail).1 is mailed, appends)
