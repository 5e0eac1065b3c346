use Rattle.hn_base.proofs.Names.{append_assoc}
use Rattle.hn_play.proofs.notes.note_line.Goals as goal

pub returns : goal.returns
returns c = simp append_assoc (rw (← c.in_ok-text.ensures) c.format.ensures.ok)
