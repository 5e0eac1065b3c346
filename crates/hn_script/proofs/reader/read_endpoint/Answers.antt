use Rattle.hn_base.proofs.Names.{refl, err_from_is_err_and}
use Rattle.hn_script.proofs.LineWords.{word_fault, endpoint_lines, endpoint_follows}
use Rattle.hn_script.proofs.reader.read_endpoint.Goals as goal

pub returns-in_err-name : goal.returns-in_err-name
returns-in_err-name c =
    let exit = err_from_is_err_and c.from_residual.result c.from_residual.ensures.1 in
    rw (exit.1, exit.2) (word_fault endpoint_lines 2 _ (λ _. refl) endpoint_follows _ c.requires _ _ c.in_err-name.ensures)
