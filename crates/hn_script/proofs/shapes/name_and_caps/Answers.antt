-- A word that writes no value of its kind: the words write none together.
use Rattle.hn_base.proofs.Names.{inl, inr, refl, err_from_is_err_and}
use Rattle.hn_script.proofs.shapes.name_and_caps.Goals as goal

pub returns-in_err-priority : goal.returns-in_err-priority
returns-in_err-priority c =
    let exit = err_from_is_err_and c.from_residual.result c.from_residual.ensures.1 in
    let bad = c.in_err-priority.ensures in
    rw (exit.1, exit.2, c.in-Some.ensures.found) (inr (λ differ. differ refl, inl (λ values all. bad.1 values.1.m all.1.0, bad.0)))

pub returns-in_err-priority-2 : goal.returns-in_err-priority-2
returns-in_err-priority-2 c =
    let exit = err_from_is_err_and c.from_residual-in_err-priority-2.result c.from_residual-in_err-priority-2.ensures.1 in
    let bad = c.in_err-priority-2.ensures in
    rw (exit.1, exit.2, c.in-Some.ensures.found) (inr (λ differ. differ refl, inl (λ values all. bad.1 values.1.p all.1.1.0, bad.0)))
