use Rattle.hn_base.proofs.Names.{ℕ, subst}
use Rattle.hn_world.proofs.Names.{plain_event, Happened, nothing, after_passing, IsRouter}
use Rattle.hn_world.proofs.DoneAsPlanned.{some_both}
use Rattle.hn_world.proofs.parts.Parts.passing.Goals as goal

pub returns : goal.returns
returns c =
    let m = c.at-member.result.now in
    some_both c.passing.result
    (λ p happened router. record {
      member = m;
      is_member = c.at-member.ensures;
      happened = subst (λ (now : ℕ). Happened now (plain_event c.args.event.now) m.router (after_passing p now m.router) nothing) c.get.ensures.moment happened;
      router = subst (λ (now : ℕ). IsRouter (after_passing p now m.router)) c.get.ensures.moment router;
    }) c.passing.ensures.happened c.passing.ensures.router
