use Rattle.hn_kept.specs.declared.preferred.Preferred.{Preferred}
use Rattle.hn_router_c.specs.Calls.{PrefersIn, preferred_of}
use Rattle.hn_router_c.proofs.Refusals.{of_some}
use Rattle.hn_router_c.proofs.Remembered.{not_preferred, prefers}
use Rattle.hn_router_c.proofs.keeping.hn_router_prefer.Goals as goal

pub returns-in_default-clause-preferred : goal.returns-in_default-clause-preferred
returns-in_default-clause-preferred c =
    not_preferred (preferred_of c.args.endpoint c.args.delegated.now c.args.delegated_length c.args.prefix.now c.args.length) c.args.router.now.held c.in_default.ensures.none

pub returns-clause-preferred : goal.returns-clause-preferred
returns-clause-preferred c =
    let f : Preferred = preferred_of c.args.endpoint c.args.delegated.now c.args.delegated_length c.args.prefix.now c.args.length in
    let status = c.prefer-status in
    of_some c.in-Some-take.keeper.value c.in-Some-take.ensures.taken (λ before. PrefersIn f before c.of.result.held status.result)
    (prefers f c.in-Some.preferred c.deref_mut.result.now c.in-Some-take.keeper.value status.new.keeper c.of.result.held status.result c.in-Some.ensures.some.0
    c.deref_mut.ensures.value c.of.ensures c.in-Some.ensures.some.1 status.ensures.preferred status.ensures.refused status.ensures.as_before)
