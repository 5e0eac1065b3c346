use Rattle.hn_base.specs.Prefix.{PlainPrefix}
use Rattle.hn_router_c.specs.Calls.{DepartsIn, prefix_of}
use Rattle.hn_router_c.proofs.Refusals.{of_some}
use Rattle.hn_router_c.proofs.Remembered.{not_departed, departs}
use Rattle.hn_router_c.proofs.keeping.hn_router_depart.Goals as goal

pub returns-in_default-clause-departed : goal.returns-in_default-clause-departed
returns-in_default-clause-departed c = not_departed (record { 0 = c.args.endpoint }) (prefix_of c.args.prefix.now c.args.length) c.args.valid c.args.router.now.held c.in_default.ensures.none

pub returns-clause-departed : goal.returns-clause-departed
returns-clause-departed c =
    let prefix : PlainPrefix = prefix_of c.args.prefix.now c.args.length in
    let status = c.depart-status in
    of_some c.in-Some-take.keeper.value c.in-Some-take.ensures.taken (λ before. DepartsIn (record { 0 = c.args.endpoint }) prefix c.args.valid before c.of.result.held status.result)
    (departs (record { 0 = c.args.endpoint }) prefix c.in-Some.prefix c.args.valid c.deref_mut.result.now c.in-Some-take.keeper.value status.new.keeper c.of.result.held status.result
    c.in-Some.ensures.some.0 c.deref_mut.ensures.value c.of.ensures c.in-Some.ensures.some.1 status.ensures.departed status.ensures.refused status.ensures.as_before)
