use Rattle.hn_base.proofs.Names.{ℕ, refl, ap}
use Rattle.hn_lab.proofs.Names.{OtherEnds, stage_of, Playing}
use Rattle.hn_script.specs.declared.line.Line.TheVariants as line
use Rattle.hn_play.proofs.RunStops.{nothing_left}
use Rattle.hn_lab.proofs.play_line.seed.Goals as goal

pub returns : goal.returns
returns c route text =
    let now = c.args.playing.now in
    let p = stage_of now route text in
    let q : Playing = record { world = now.world; loss = now.loss; words = c.of_seed-playing.result; senders = now.senders; room = now.room } in
    nothing_left (OtherEnds (line.Seed c.args.seed)) c.new.result p (stage_of q route text) c.new.ensures (refl, ap (λ (words : ℕ → ℕ). record p { words = words }) c.of_seed-playing.ensures)
