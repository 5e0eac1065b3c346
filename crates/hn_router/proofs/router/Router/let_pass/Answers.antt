use Rattle.hn_base.proofs.Names.{◌≡◌, ◌<◌, ◌≤◌, ℕ, sym, subst}
use Rattle.hn_router.proofs.Names.{State, after_passing, IsRouter}
use Rattle.hn_router.specs.Kept.{IsKeptUntil}
use Rattle.hn_router.proofs.Keeping.{kept_passed}
use Rattle.hn_router.proofs.router.Router.let_pass.Goals as goal

pub invariant_of-self : goal.invariant_of-self
invariant_of-self c = subst (IsKeptUntil c.self.inside.undue_until) (sym c.in_err-let_pass.ensures.err) c.self.invariant

pub invariant_of-self-2 : goal.invariant_of-self-2
invariant_of-self-2 c =
    let s = c.self.inside.state in
    let now = c.args.now in
    let until = c.still_undue-until.result in
    let router : IsRouter (after_passing c.args.passing now s) = subst (λ (x : State). IsRouter (after_passing c.args.passing now x)) (sym c.self.view_is) c.requires.router in
    let still = subst (λ (before : ℕ). 0 < until → (before ≤ now) × (until ≡ c.self.inside.undue_until)) c.get.ensures.moment c.still_undue-until.ensures in
    subst (IsKeptUntil until) (sym c.in_ok-let_pass.ensures.ok) (kept_passed c.passing_keeps_undue.ensures c.args.passing now c.self.inside.undue_until until s c.self.invariant router still)
