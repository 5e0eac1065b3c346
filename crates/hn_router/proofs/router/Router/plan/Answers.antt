use Rattle.hn_base.proofs.Names.{◌≤◌, sym, subst}
use Rattle.hn_router.proofs.Names.{IsRouter, State, plain_event}
use Rattle.hn_router.proofs.Keeping.{KeptLaws, kept_happened}
use Rattle.hn_router.proofs.router.Router.plan.Goals as goal

pub run_to-requires-clause-not_before : goal.run_to-requires-clause-not_before
run_to-requires-clause-not_before g c = subst (λ (x : State). x.moment ≤ c.args.now) (sym c.self.view_is) c.requires.not_before

pub run_to-requires-clause-undue : goal.run_to-requires-clause-undue
run_to-requires-clause-undue g c = c.self.invariant.undue

pub invariant_of-result : goal.invariant_of-result
invariant_of-result g c =
    let laws : KeptLaws = record { later = c.router_stays_later.ensures; idle_is_undue = c.idle_is_undue.ensures; undue_is_idle = c.undue_is_idle.ensures } in
    let event = plain_event c.args.event.now in
    let s = c.self.inside.state in
    let rises : s.moment ≤ c.args.now = subst (λ (x : State). x.moment ≤ c.args.now) (sym c.self.view_is) c.requires.not_before in
    let stays : IsRouter c.in_ok-state.state =
    c.router_stays.ensures c.args.now event s c.in_ok-state.state c.in_ok-state.done c.self.invariant.kept.router rises c.event_in_range.ensures c.in_ok-state.ensures.happened in
    kept_happened laws c.args.now event s c.in_ok-state.state c.in_ok-state.done c.self.invariant.kept.router rises c.in_ok-state.ensures.happened stays

pub returns-clause-short : goal.returns-clause-short
returns-clause-short g c =
    let s = c.self.inside.state in
    let rises : s.moment ≤ c.args.now = subst (λ (x : State). x.moment ≤ c.args.now) (sym c.self.view_is) c.requires.not_before in
    c.sends_are_short.ensures c.args.now (plain_event c.args.event.now) s c.in_ok-state.state c.in_ok-state.done c.self.invariant.kept.router rises c.event_in_range.ensures
    c.in_ok-state.ensures.happened
