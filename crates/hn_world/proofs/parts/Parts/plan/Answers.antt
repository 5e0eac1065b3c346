use Rattle.hn_base.proofs.Names.{◌≤◌, ℕ, sym, subst}
use Rattle.hn_world.proofs.Names.{ok_both, plain_event, Happened}
use Rattle.hn_world.proofs.DoneAsPlanned.{router_past}
use Rattle.hn_world.proofs.parts.Parts.plan.Goals as goal

pub plan-requires-clause-not_before : goal.plan-requires-clause-not_before
plan-requires-clause-not_before g c =
    let m = c.at-member.result.now in
    subst (λ (now : ℕ). m.router.moment ≤ now) (sym c.get.ensures.moment) (router_past c.args.self.now c.args.place c.requires.sound m c.at-member.ensures)

pub returns : goal.returns
returns g c =
    let m = c.at-member.result.now in
    ok_both c.plan.result _ _ _
    (λ plan happened drew. record {
      member = m;
      is_member = c.at-member.ensures;
      happened = subst (λ (now : ℕ). Happened now (plain_event c.args.event.now) m.router plan.state plan.done) c.get.ensures.moment happened;
      drew = drew;
    })
    c.plan.ensures.happened c.plan.ensures.drew
