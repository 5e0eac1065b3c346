-- The words of each line fail as the words after its first do.
use Rattle.hn_base.proofs.Names.{inl, refl, err_from_is_err_and}
use Rattle.hn_script.proofs.LineWords.{word_fault, external_lines, external_follows, withdraw_lines, withdraw_follows, private_lines, private_follows}
use Rattle.hn_script.proofs.reader.read_prefixed.Goals as goal

pub returns-in_err-name-in-external : goal.returns-in_err-name-in-external
returns-in_err-name-in-external c =
    let exit = err_from_is_err_and c.from_residual.result c.from_residual.ensures.1 in
    rw (exit.1, exit.2) (word_fault external_lines 4 _ (λ _. refl) external_follows _ (inl c.in-external.is) _ _ c.in_err-name-in-external.ensures)

pub returns-in_err-name-in-withdraw : goal.returns-in_err-name-in-withdraw
returns-in_err-name-in-withdraw c =
    let exit = err_from_is_err_and c.from_residual-in_err-name-in-withdraw.result c.from_residual-in_err-name-in-withdraw.ensures.1 in
    rw (exit.1, exit.2) (word_fault withdraw_lines 2 _ (λ _. refl) withdraw_follows _ (inl c.in-withdraw.is) _ _ c.in_err-name-in-withdraw.ensures)

pub returns-in_err-name-in-private : goal.returns-in_err-name-in-private
returns-in_err-name-in-private c =
    let exit = err_from_is_err_and c.from_residual-in_err-name-in-private.result c.from_residual-in_err-name-in-private.ensures.1 in
    rw (exit.1, exit.2) (word_fault private_lines 2 _ (λ _. refl) private_follows _ (inl c.in-private.is) _ _ c.in_err-name-in-private.ensures)

pub read_ranged-requires : goal.read_ranged-requires
read_ranged-requires c = (c.in_default.not-external, (c.in_default.not-withdraw, (c.in_default.not-private, c.requires)))
