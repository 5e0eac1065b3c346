use Rattle.hn_base.proofs.Names.{◌≡◌, ◌++◌, take}
use Rattle.hn_look.proofs.last_line.note.Given as goal

-- the bytes so far
abbrev pub invariant-loop-byte : goal.invariant-loop-byte
invariant-loop-byte l = l.written.items ≡ l.fn.written.items ++ take l.byte-index l.piece
