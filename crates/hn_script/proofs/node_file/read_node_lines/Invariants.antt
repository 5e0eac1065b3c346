-- With the lines of the rest after them, the lines so far are those of all bytes; a first fault of the rest is one of all.
use Rattle.hn_base.proofs.Names.{ℕ, ◌+◌, ◌≤◌, List, ◌++◌, length}
use Rattle.hn_script.proofs.Names.{AreLines, FaultFrom, of_node, lines_of, ScriptFault, NodeLine}
use Rattle.hn_script.proofs.node_file.read_node_lines.Given as goal

abbrev pub invariant-loop-text : goal.invariant-loop-text
invariant-loop-text l = record {
  completed : (more : List (ℕ × NodeLine)) → AreLines of_node l.number (lines_of l.rest) more → AreLines of_node 2 (lines_of l.bytes) (l.lines ++ more);
  faulted : (fault : ScriptFault) → FaultFrom of_node l.number (lines_of l.rest) fault → FaultFrom of_node 2 (lines_of l.bytes) fault;
  bounded : l.number + length l.rest ≤ 2 + length l.bytes;
}

abbrev pub decreases-loop-text : goal.decreases-loop-text
decreases-loop-text l = length l.rest
