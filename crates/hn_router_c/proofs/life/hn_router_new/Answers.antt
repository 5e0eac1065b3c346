use Rattle.hn_base.proofs.Names.{sym, subst}
use Rattle.hn_kept.specs.Kept.{Kept, IsNewKept}
use Rattle.hn_router_c.proofs.life.hn_router_new.Goals as goal

pub returns-clause-made : goal.returns-clause-made
returns-clause-made c =
    λ _. record {
      router = c.in-Ok-new.keeper.value;
      is = c.of.ensures;
      holds = subst (λ (kept : Kept). IsNewKept (record { 0 = c.args.id }) c.args.now c.args.seed.now kept) (sym c.in-Ok-new.ensures.ok) c.in-Ok.ensures;
    }
