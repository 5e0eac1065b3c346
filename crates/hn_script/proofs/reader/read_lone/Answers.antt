use Rattle.hn_base.proofs.Names.{refl, err_from_is_err_and}
use Rattle.hn_script.proofs.LineWords.{word_fault, lone_lines, lone_follows}
use Rattle.hn_script.proofs.reader.read_lone.Goals as goal

pub returns-in_err-nothing : goal.returns-in_err-nothing
returns-in_err-nothing c =
    let exit = err_from_is_err_and c.from_residual.result c.from_residual.ensures.1 in
    rw (exit.1, exit.2) (word_fault lone_lines 0 _ (λ _. refl) lone_follows _ c.requires _ _ c.in_err-nothing.ensures)
