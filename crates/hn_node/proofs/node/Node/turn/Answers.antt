use Rattle.hn_base.proofs.Names.{◌≡◌, ◌∙◌, Err, inl, sym, ap, on_ok_weaker, err_from_is_err_and}
use Rattle.hn_node.proofs.Names.{plain_site}
use Rattle.hn_base.proofs.Results.{same_error}
use Rattle.hn_io.specs.declared.fault.IoFault.{IoFault}
use Rattle.hn_node.proofs.Turned.{cut_taking, cut_arrival, cut_tick, starves_arriving, starves_ticking, turned}
use Rattle.hn_node.proofs.node.Node.turn.Goals as goal

pub returns-in_err-taken-clause-cut : goal.returns-in_err-taken-clause-cut
returns-in_err-taken-clause-cut g c = λ failed.
    let exit = err_from_is_err_and c.from_residual.result c.from_residual.ensures.1 in
    let same : c.in_err-taken.field-0.0 ≡ IoFault.Failed = sym exit.2 ∙ same_error _ _ (sym exit.1 ∙ failed) in
    cut_taking (plain_site c.args.site.now) c.args.now _ _ _ c.args.self.now (c.in_err-taken.ensures.cut (ap Err same))

pub returns-in_err-arrive-clause-cut : goal.returns-in_err-arrive-clause-cut
returns-in_err-arrive-clause-cut g c = λ failed.
    let exit = err_from_is_err_and c.from_residual-in_err-arrive.result c.from_residual-in_err-arrive.ensures.1 in
    cut_arrival (plain_site c.args.site.now) c.args.now _ _ _ c.in_ok-taken.ensures.taken _ c.args.self.now _ _ _ (c.in_err-arrive.ensures.cut (sym (ap Err exit.2) ∙ sym exit.1 ∙ failed))

pub returns-in_err-taken-clause-starved : goal.returns-in_err-taken-clause-starved
returns-in_err-taken-clause-starved g c = λ starved.
    let exit = err_from_is_err_and c.from_residual.result c.from_residual.ensures.1 in
    let same : c.in_err-taken.field-0.0 ≡ IoFault.NoMemory = sym exit.2 ∙ same_error _ _ (sym exit.1 ∙ starved) in
    inl (c.in_err-taken.ensures.starved (ap Err same))

pub returns-in_err-arrive-clause-starved : goal.returns-in_err-arrive-clause-starved
returns-in_err-arrive-clause-starved g c = λ starved.
    let exit = err_from_is_err_and c.from_residual-in_err-arrive.result c.from_residual-in_err-arrive.ensures.1 in
    starves_arriving (plain_site c.args.site.now) c.args.now _ _ _ _ _ c.in_ok-taken.ensures.taken (c.in_err-arrive.ensures.starved (sym (ap Err exit.2) ∙ sym exit.1 ∙ starved))

pub returns-clause-starved : goal.returns-clause-starved
returns-clause-starved g c = λ starved.
    let first = c.in_ok-arrive.ensures.ok in
    starves_ticking (plain_site c.args.site.now) c.args.now _ _ _ _ _ _ _ first.0 c.in_ok-taken.ensures.taken first.1 (c.step.ensures.starved starved)

pub returns-clause-ok : goal.returns-clause-ok
returns-clause-ok g c =
    on_ok_weaker c.step.result (turned (plain_site c.args.site.now) c.args.now _ _ _ c.in_ok-taken.ensures.taken _ c.args.self.now _ _ _ c.in_ok-arrive.ensures.ok _ _ _) c.step.ensures.ok

pub returns-clause-cut : goal.returns-clause-cut
returns-clause-cut g c = λ failed.
    cut_tick (plain_site c.args.site.now) c.args.now _ _ _ c.in_ok-taken.ensures.taken _ c.args.self.now _ _ _ c.in_ok-arrive.ensures.ok _ _ _ (c.step.ensures.cut failed)
