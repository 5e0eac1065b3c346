use Rattle.hn_lab_c.proofs.texts.kept_script.Goals as goal

pub returns-clause-lab : goal.returns-clause-lab
returns-clause-lab c =
    let play = c.args.play.now in
    λ end last status world before after ended run whole.
    c.lab_plays_the_source.ensures play end last status world before after ended c.is_of_transcript.ensures c.source.ensures.is_script run whole
