-- A line gives an entry, and with it the lines go on.
use Rattle.hn_base.proofs.Names.{ℕ, List, [], ◌∷◌, ◌++◌, inr, ap, sym, ◌∙◌, subst, arith, append_assoc, append-nil}
use Rattle.hn_script.proofs.Names.{AreLines, numbered, of_node, lines_of, NodeLine}
use Rattle.hn_script.proofs.Entries.{no_lines, next_line, no_line_fault}
use Rattle.hn_script.proofs.node_file.read_node_lines.Goals as goal

pub loop-text-preserved : goal.loop-text-preserved
loop-text-preserved c =
    let cut = c.in-Some.ensures.found in
    let n = c.loop-text.number in
    let entry = c.in_ok-push_node_line.ensures.added in record {
      completed = λ more h.
          let whole = c.loop-text.invariant.completed (numbered n (entry.0 ∷ []) ++ more) (rw cut (next_line of_node n _ _ entry.0 more entry.1 h)) in
          let grown = ap (λ (lines : List (ℕ × NodeLine)). lines ++ more) entry.2 ∙ append_assoc c.loop-text.lines (numbered n (entry.0 ∷ [])) more in
          subst (AreLines of_node 2 (lines_of c.args.bytes.now)) (sym grown) whole;
      faulted = λ fault h. c.loop-text.invariant.faulted fault (rw cut (inr (no_line_fault of_node entry.0 _ entry.1, h)));
      bounded = omega (arith, c.in-Some.ensures.shorter);
    }

pub returns-clause-lines : goal.returns-clause-lines
returns-clause-lines c =
    let whole = c.loop-text.invariant.completed [] (rw c.in_default.ensures.none (no_lines of_node _)) in
    subst (AreLines of_node 2 (lines_of c.args.bytes.now)) (append-nil c.loop-text.lines) whole
