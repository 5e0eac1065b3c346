use Rattle.hn_look.proofs.LastLines.{kept_anew, kept_on}
use Rattle.hn_look.proofs.last_line.LastLine.keep.Goals as goal
use Rattle.hn_look.proofs.last_line.LastLine.keep.Goals.{in-Some+in_ok-self-inside-in-Some, in-None+in_ok-extend_from_slice-in-None}

pub invariant_of-self-2 : goal.invariant_of-self-2
invariant_of-self-2 c =
    let written = c.self.inside.written.items in
    let piece = c.args.piece.now in
    rw c.note.ensures (elim c.match-memrchr.branch [
      | in-Some+in_ok-self-inside-in-Some w ↦ rw (w.self-inside-is, w.in_ok-self-inside-in-Some.ensures.items) (kept_anew written piece w.in-Some.place w.in-Some.ensures)
      | in-None+in_ok-extend_from_slice-in-None w ↦
          rw (w.self-inside-is, w.in_ok-extend_from_slice-in-None.ensures.items) (kept_on written c.self.inside.kept.items piece c.self.invariant w.in-None.ensures)
    ])
