use Rattle.hn_base.proofs.Names.{refl, err_from_is_err_and}
use Rattle.hn_script.proofs.LineWords.{word_fault, pair_lines, pair_follows}
use Rattle.hn_script.proofs.reader.read_pair.Goals as goal

pub returns-in_err-left : goal.returns-in_err-left
returns-in_err-left c =
    let exit = err_from_is_err_and c.from_residual.result c.from_residual.ensures.1 in
    rw (exit.1, exit.2) (word_fault pair_lines 2 _ (λ _. refl) pair_follows _ c.requires _ _ c.in_err-left.ensures)
