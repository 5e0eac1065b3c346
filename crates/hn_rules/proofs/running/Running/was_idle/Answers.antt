use Rattle.hn_base.proofs.Names.{◌↔◌, IsTrue, ℕ, subst}
use Rattle.hn_rules.proofs.Names.{IsLeft}
use Rattle.hn_rules.proofs.TickDoesNothing.{is_idle_where_left}
use Rattle.hn_rules.proofs.running.Running.was_idle.Goals as goal

pub returns : goal.returns
returns c =
    let after = c.args.self.now in
    let s = c.args.before.now in
    let now = after.state.moment in
    let silent = c.is_nothing.ensures.0 c.if-not-is_nothing.false in
    let left : IsTrue c.is_left.result ↔ IsLeft now s after.state = subst (λ (n : ℕ). IsTrue c.is_left.result ↔ IsLeft n s after.state) c.get.ensures.moment c.is_left.ensures in
    let idle = is_idle_where_left c.undue_is_idle.ensures c.idle_is_undue.ensures c.tick_of_nothing_is_undue.ensures c.rules_have_one_result.ensures.tick
    s now after c.requires.router c.requires.not_before c.requires.ran silent in
    (λ is. idle.0 (left.0 is), λ is. left.1 (idle.1 is))
