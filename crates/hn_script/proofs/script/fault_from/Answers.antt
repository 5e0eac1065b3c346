-- A line has a fault or gives an entry; with its entry the lines go on.
use Rattle.hn_base.proofs.Names.{[], ◌∷◌, ◌++◌, inr, arith}
use Rattle.hn_script.proofs.Names.{numbered, of_version}
use Rattle.hn_script.proofs.Entries.{no_lines, next_line, no_line_fault}
use Rattle.hn_script.proofs.script.fault_from.Goals as goal

pub loop-text-preserved : goal.loop-text-preserved
loop-text-preserved c =
    let cut = c.in-Some.ensures.found in
    let n = c.loop-text.number in
    let entry = c.in_default-line_fault.ensures.none in record {
      completed = λ more h.
          c.loop-text.invariant.completed (numbered n (entry.0 ∷ []) ++ more) (rw cut (next_line (of_version c.args.version) n _ _ entry.0 more entry.1 h));
      faulted = λ fault h. c.loop-text.invariant.faulted fault (rw cut (inr (no_line_fault (of_version c.args.version) entry.0 _ entry.1, h)));
      bounded = omega (arith, c.in-Some.ensures.shorter);
    }

pub returns-clause-none : goal.returns-clause-none
returns-clause-none c = c.loop-text.invariant.completed [] (rw c.in_default.ensures.none (no_lines (of_version c.args.version) _))
