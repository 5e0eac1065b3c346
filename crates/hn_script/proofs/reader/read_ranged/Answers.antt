-- The words of each line fail as the words after its first do; and no other word begins a line.
use Rattle.hn_base.proofs.Names.{inl, refl, err_from_is_err_and}
use Rattle.hn_script.proofs.LineWords.{word_fault, unknown_word, loss_lines, loss_follows, time_lines, time_follows, run_lines, run_follows}
use Rattle.hn_script.proofs.reader.read_ranged.Goals as goal

pub returns-in_err-one_number-in-loss : goal.returns-in_err-one_number-in-loss
returns-in_err-one_number-in-loss c =
    let exit = err_from_is_err_and c.from_residual.result c.from_residual.ensures.1 in
    rw (exit.1, exit.2) (word_fault loss_lines 1 _ (λ _. refl) loss_follows _ (inl c.in-loss.is) _ _ c.in_err-one_number-in-loss.ensures)

pub returns-in_err-moment-in-time : goal.returns-in_err-moment-in-time
returns-in_err-moment-in-time c =
    let exit = err_from_is_err_and c.from_residual-in_err-moment-in-time.result c.from_residual-in_err-moment-in-time.ensures.1 in
    rw (exit.1, exit.2) (word_fault time_lines 1 _ (λ _. refl) time_follows _ (inl c.in-time.is) _ _ c.in_err-moment-in-time.ensures)

pub returns-in_err-end-in-run : goal.returns-in_err-end-in-run
returns-in_err-end-in-run c =
    let exit = err_from_is_err_and c.from_residual-in_err-end-in-run.result c.from_residual-in_err-end-in-run.ensures.1 in
    rw (exit.1, exit.2) (word_fault run_lines 2 _ (λ _. refl) run_follows _ (inl c.in-run.is) _ _ c.in_err-end-in-run.ensures)

pub returns-in_default : goal.returns-in_default
returns-in_default c = inl (unknown_word c.args.word.now (c.in_default.not-loss, (c.in_default.not-time, (c.in_default.not-run, c.requires))), refl)
