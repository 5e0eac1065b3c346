use Rattle.hn_base.proofs.Names.{◌∙◌, ◌<◌, ◌-◌, ◌^◌, List, ℕ, Option, ap, sym, subst}
use Rattle.hn_rules.proofs.Names.{Nodes, held, LeadsAs, age_at}
use Rattle.std.proofs.Common.{IsSomeAnd}
use Rattle.hn_rules.proofs.state.State.leads_as.Goals as goal

pub returns-then-age_at-lt-AGE_LIMIT : goal.returns-then-age_at-lt-AGE_LIMIT
returns-then-age_at-lt-AGE_LIMIT c is =
    let stored = c.in-Some-get.stored.now in
    let leads : LeadsAs c.args.self.now c.args.id.0 c.in-Some.before =
    record {
      stored = stored;
      there = ap (λ (nodes : Nodes). held nodes.entries c.args.id.0) (sym c.get.ensures) ∙ sym c.in-Some-get.ensures.held;
      peers = c.say_same_peers.ensures is;
      recent = subst (λ (n : ℕ). n < 2 ^ 32 - 2 ^ 15) (c.age_at.ensures ∙ ap (λ (n : ℕ). age_at n stored) c.get-in-Some-get.ensures.moment) c.if-age_at-lt-AGE_LIMIT.true;
    } in
    subst (λ (o : Option (List ℕ)). IsSomeAnd o (LeadsAs c.args.self.now c.args.id.0)) (sym c.in-Some.is) leads
