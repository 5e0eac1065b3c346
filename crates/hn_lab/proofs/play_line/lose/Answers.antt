use Rattle.hn_base.proofs.Names.{refl}
use Rattle.hn_lab.proofs.Names.{OtherEnds, stage_of, Playing}
use Rattle.hn_script.specs.declared.line.Line.TheVariants as line
use Rattle.hn_play.proofs.RunStops.{nothing_left}
use Rattle.hn_lab.proofs.play_line.lose.Goals as goal

pub returns : goal.returns
returns c route text =
    let q : Playing = record { world = c.args.playing.now.world; loss = c.args.percent; words = c.args.playing.now.words; senders = c.args.playing.now.senders; room = c.args.playing.now.room } in
    nothing_left (OtherEnds (line.Loss c.args.percent)) c.new.result (stage_of c.args.playing.now route text) (stage_of q route text) c.new.ensures (refl, refl)
