use Rattle.hn_base.proofs.Names.{◌≤◌, ◌<◌, ℕ, sym, subst}
use Rattle.hn_router.proofs.Names.{State, nothing, at_moment, Tick, Happened, IsKeptRouter}
use Rattle.hn_router.specs.Kept.{IsKeptUntil}
use Rattle.hn_router.proofs.Keeping.{KeptLaws, kept_later, idle_later, rested}
use Rattle.hn_router.proofs.router.Router.pass.Goals as goal

pub invariant_of-self : goal.invariant_of-self
invariant_of-self c =
    let laws : KeptLaws = record { later = c.router_stays_later.ensures; idle_is_undue = c.idle_is_undue.ensures; undue_is_idle = c.undue_is_idle.ensures } in
    let s = c.self.inside.state in
    let rises : s.moment ≤ c.args.now = subst (λ (x : State). x.moment ≤ c.args.now) (sym c.self.view_is) c.requires.not_before in
    let undue : c.args.now < s.due = subst (λ (x : State). c.args.now < x.due) (sym c.self.view_is) c.requires.undue in
    let until = c.self.inside.undue_until in
    subst (λ (m : ℕ). IsKeptUntil until (at_moment m s)) (sym c.new-self-inside.ensures)
    (kept_later laws c.idle_until_due.ensures c.idle_while_undue.ensures c.args.now until s c.self.invariant rises undue)

pub returns-clause-idle : goal.returns-clause-idle
returns-clause-idle c = (idle_later c.idle_until_due.ensures c.args.now c.args.self.now (subst IsKeptRouter c.self.view_is c.self.invariant.kept) c.requires.not_before c.requires.undue).0

pub returns-clause-next : goal.returns-clause-next
returns-clause-next c = (idle_later c.idle_until_due.ensures c.args.now c.args.self.now (subst IsKeptRouter c.self.view_is c.self.invariant.kept) c.requires.not_before c.requires.undue).1

pub returns-clause-happened : goal.returns-clause-happened
returns-clause-happened c =
    let now = c.args.now in
    let s = c.args.self.now in
    let next = idle_later c.idle_until_due.ensures now s (subst IsKeptRouter c.self.view_is c.self.invariant.kept) c.requires.not_before c.requires.undue in
    subst (λ (x : State). Happened now Tick s (at_moment c.new-self-inside.result x) nothing) (sym c.self.view_is)
    (subst (λ (m : ℕ). Happened now Tick s (at_moment m s) nothing) (sym c.new-self-inside.ensures) (rested now s.due s next.0 next.1))
