-- What is wrong is what the reading says.
use Rattle.hn_base.proofs.Names.{rules}
use Rattle.hn_script.proofs.reader.line_fault.Goals.{in-Ok, in-Err}
use Rattle.hn_script.proofs.reader.line_fault.Goals as goal

pub returns-clause-found : goal.returns-clause-found
returns-clause-found c = elim c.match-read_text.branch [
  | in-Ok w ↦ search rules
  | in-Err w ↦ search rules
]
