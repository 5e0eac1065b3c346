use Rattle.hn_base.proofs.Names.{append_assoc}
use Rattle.hn_play.proofs.notes.note_text.Goals as goal

pub returns-in-Malformed : goal.returns-in-Malformed
returns-in-Malformed c = rw c.in-Malformed.is (simp append_assoc c.format.ensures.ok)

pub returns-in-Ignored : goal.returns-in-Ignored
returns-in-Ignored c = rw c.in-Ignored.is (simp append_assoc c.format-in-Ignored.ensures.ok)

pub returns-in-Took : goal.returns-in-Took
returns-in-Took c = rw c.in-Took.is (simp append_assoc (rw (← c.took_text-how.ensures) c.format-in-Took.ensures.ok))
