use Rattle.hn_base.proofs.Names.{◌≡◌, ◌∙◌, Err, ap, sym, err_from_is_err_and}
use Rattle.hn_sync.proofs.Names.{same_error}
use Rattle.hn_world.specs.declared.event.WorldFault.TheVariants as fault
use Rattle.hn_sync.proofs.exchange.deliver.Goals as goal

pub returns-in_err-apply-clause-refused : goal.returns-in_err-apply-clause-refused
returns-in_err-apply-clause-refused g c = λ code failed.
    let exit = err_from_is_err_and c.from_residual.result c.from_residual.ensures.1 in
    let is : c.in_err-apply.field-0.0 ≡ fault.Refused code = sym exit.2 ∙ same_error _ _ (sym exit.1 ∙ failed) in
    (c.in_err-apply.ensures.refused code).0 (ap Err is)
