use Rattle.hn_base.proofs.Names.{refl, err_from_is_err_and}
use Rattle.hn_script.proofs.LineWords.{word_fault, number_lines, number_follows}
use Rattle.hn_script.proofs.reader.read_number.Goals as goal

pub returns-in_err-number : goal.returns-in_err-number
returns-in_err-number c =
    let exit = err_from_is_err_and c.from_residual.result c.from_residual.ensures.1 in
    rw (exit.1, exit.2) (word_fault number_lines 1 _ (λ _. refl) number_follows _ c.requires _ _ c.in_err-number.ensures)
