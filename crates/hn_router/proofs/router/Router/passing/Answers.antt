use Rattle.hn_base.proofs.Names.{◌≤◌, sym, subst, IfSome_then}
use Rattle.hn_router.proofs.Names.{IfSome, Origin, State, nothing, after_passing, IsRouter, Arrive, Happened}
use Rattle.hn_router.proofs.Passings.{arrival_happened}
use Rattle.hn_router.proofs.router.Router.passing.Goals as goal

pub returns-clause-happened : goal.returns-clause-happened
returns-clause-happened c =
    let s = c.self.inside.state in
    let now = c.args.now in
    let bytes = c.in-Arrive.bytes.now in
    let from : Origin = record { endpoint = c.in-Arrive.endpoint; from = c.in-Arrive.from; multicast = c.in-Arrive.multicast } in
    rw c.in-Arrive.is (subst (λ (x : State). IfSome c.passing.result (λ p. Happened now (Arrive from bytes) x (after_passing p now x) nothing)) c.self.view_is
    (IfSome_then c.passing.result c.passing.ensures (arrival_happened now from bytes s)))

pub returns-clause-router : goal.returns-clause-router
returns-clause-router c =
    let s = c.self.inside.state in
    let now = c.args.now in
    let bytes = c.in-Arrive.bytes.now in
    let from : Origin = record { endpoint = c.in-Arrive.endpoint; from = c.in-Arrive.from; multicast = c.in-Arrive.multicast } in
    let rises : s.moment ≤ now = subst (λ (x : State). x.moment ≤ now) (sym c.self.view_is) c.requires.not_before in
    subst (λ (x : State). IfSome c.passing.result (λ p. IsRouter (after_passing p now x))) c.self.view_is
    (IfSome_then c.passing.result c.passing.ensures
    (λ p passes. c.router_stays.ensures now (Arrive from bytes) s (after_passing p now s) nothing c.self.invariant.kept.router rises tt (arrival_happened now from bytes s p passes)))
