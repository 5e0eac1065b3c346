-- A word that writes no value of its kind: the words write none together.
use Rattle.hn_base.proofs.Names.{inl, inr, refl, err_from_is_err_and}
use Rattle.hn_script.proofs.shapes.delegation.Goals as goal

pub returns-in_err-prefix : goal.returns-in_err-prefix
returns-in_err-prefix c =
    let exit = err_from_is_err_and c.from_residual-in_err-prefix.result c.from_residual-in_err-prefix.ensures.1 in
    let bad = c.in_err-prefix.ensures in
    rw (exit.1, exit.2, c.in-Some.ensures.found) (inr (λ differ. differ refl, inl (λ values all. bad.1 values.1 all.1.0, bad.0)))
