use Rattle.hn_base.proofs.Names.{inl, refl, err_from_is_err_and}
use Rattle.hn_look.proofs.look.see.Goals as goal

pub returns-in_err-write_log-in-Log-clause-looked : goal.returns-in_err-write_log-in-Log-clause-looked
returns-in_err-write_log-in-Log-clause-looked g c =
    let passed = err_from_is_err_and c.from_residual.result c.from_residual.ensures.1 in
    let cut = c.in_err-write_log-in-Log.ensures.cut in
    rw (passed.1, passed.2, c.in-Log.is) (inl (0, cut.0, (refl, cut.1), cut.2))
