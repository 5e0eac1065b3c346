-- A word that writes no prefix: the words write nothing together.
use Rattle.hn_base.proofs.Names.{inl, inr, refl, err_from_is_err_and}
use Rattle.hn_script.proofs.node_file.uplink.Goals as goal

pub returns-in_err-prefix : goal.returns-in_err-prefix
returns-in_err-prefix c =
    let exit = err_from_is_err_and c.from_residual.result c.from_residual.ensures.1 in
    let bad = c.in_err-prefix.ensures in
    rw (exit.1, exit.2, c.in-Some.ensures.found) (inr (λ differ. differ refl, inl (λ values all. bad.1 values.0 all.0, bad.0)))
