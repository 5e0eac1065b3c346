use Rattle.hn_base.proofs.Names.{◌≡◌, ◌++◌, take}
use Rattle.hn_play.specs.Notes.{note_line}
use Rattle.hn_play.proofs.notes.add_notes.Given as goal
use Rattle.std.specs.Prelude.{map}

-- the notes so far have a line each
abbrev pub invariant-loop-note : goal.invariant-loop-note
invariant-loop-note l = l.lines ≡ l.fn.lines ++ map (note_line l.name) (take l.note-index l.notes)
