-- With the lines of the rest after them, the lines so far are those of all bytes; a first fault of the rest is one of all.
use Rattle.hn_base.proofs.Names.{ℕ, ◌+◌, ◌≤◌, List, ◌++◌, length}
use Rattle.hn_script.proofs.Names.{AreLines, FaultFrom, of_version, lines_of, ScriptFault, Line}
use Rattle.hn_script.proofs.script.read_lines.Given as goal

abbrev pub invariant-loop-text : goal.invariant-loop-text
invariant-loop-text l = record {
  completed : (more : List (ℕ × Line)) → AreLines (of_version l.fn.version) l.number (lines_of l.rest) more → AreLines (of_version l.fn.version) 2 (lines_of l.bytes) (l.lines ++ more);
  faulted : (fault : ScriptFault) → FaultFrom (of_version l.fn.version) l.number (lines_of l.rest) fault → FaultFrom (of_version l.fn.version) 2 (lines_of l.bytes) fault;
  bounded : l.number + length l.rest ≤ 2 + length l.bytes;
}

abbrev pub decreases-loop-text : goal.decreases-loop-text
decreases-loop-text l = length l.rest
