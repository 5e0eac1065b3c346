use Rattle.hn_base.proofs.Names.{◌≡◌, ◌∙◌, Err, sym, ap, err_from_is_err_and}
use Rattle.hn_base.proofs.Results.{same_error}
use Rattle.hn_io.specs.declared.fault.IoFault.{IoFault}
use Rattle.hn_node.proofs.Names.{plain_site}
use Rattle.hn_node.proofs.Taken.{first_starves, second_starves}
use Rattle.hn_node.proofs.taking.take_turn.Goals as goal

pub returns-in_err-event-clause-starved : goal.returns-in_err-event-clause-starved
returns-in_err-event-clause-starved g c = λ starved.
    let exit = err_from_is_err_and c.from_residual.result c.from_residual.ensures.1 in
    let same : c.in_err-event.field-0.0 ≡ IoFault.NoMemory = sym exit.2 ∙ same_error _ _ (sym exit.1 ∙ starved) in
    first_starves (plain_site c.args.site.now) _ _ (c.in_err-event.ensures.starved (ap Err same))

pub returns-clause-starved : goal.returns-clause-starved
returns-clause-starved g c = λ starved.
    second_starves (plain_site c.args.site.now) _ _ _ _ c.in_ok-event.ensures.taken c.in_default.is (c.take_at-2.ensures.starved starved)
