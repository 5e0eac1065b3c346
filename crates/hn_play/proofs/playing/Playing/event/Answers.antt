use Rattle.hn_play.proofs.playing.Playing.event.Goals as goal

pub returns-clause-ends : goal.returns-clause-ends
returns-clause-ends c route text = (c.in_ok-_notes._notes, c.in_ok-_notes.ensures.ends route text)
