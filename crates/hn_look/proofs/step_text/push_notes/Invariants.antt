use Rattle.hn_base.proofs.Names.{◌≡◌, ◌++◌, take, string_bytes, flat_map}
use Rattle.hn_look.specs.Steps.{noted_line}
use Rattle.hn_look.proofs.step_text.push_notes.Given as goal

-- the notes so far have a line each
abbrev pub invariant-loop-note : goal.invariant-loop-note
invariant-loop-note l = string_bytes l.text ≡ string_bytes l.fn.text ++ flat_map (noted_line l.name) (take l.note-index l.notes)
