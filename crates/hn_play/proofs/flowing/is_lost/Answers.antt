use Rattle.hn_base.proofs.Names.{◌∙◌, sym, refl, ap}
use Rattle.hn_play.proofs.Names.{SeenWorld, stage_of}
use Rattle.hn_play.proofs.RunCopies.{away_of, when_near}
use Rattle.hn_play.proofs.flowing.is_lost.Goals as goal

pub returns-else-is_away-clause-lost : goal.returns-else-is_away-clause-lost
returns-else-is_away-clause-lost c route text place copy same at =
    let p = stage_of c.args.playing.now route text in
    let q = stage_of c.loses.new.playing route text in
    let near = sym (c.is_away.ensures ∙ away_of p.world c.args.copy place copy same at) ∙ c.if-is_away.false in
    when_near p q copy c.loses.result near (ap (λ (w : SeenWorld). w.parts) c.loses.ensures.world) c.loses.ensures.loss c.loses.ensures.words
    refl c.loses.ensures.senders refl c.loses.ensures.lost
