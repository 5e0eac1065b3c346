use Rattle.hn_look.proofs.log.push_again.Goals as goal

pub returns-clause-same : goal.returns-clause-same
returns-clause-same c notes after step = (c.in_ok-notes.ensures notes after step).1
