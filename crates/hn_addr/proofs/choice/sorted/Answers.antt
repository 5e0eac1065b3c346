use Rattle.hn_base.proofs.Names.{◌↔◌, List, Contains, sym, subst}
use Rattle.hn_addr.proofs.Names.{OwnAddress}
use Rattle.hn_addr.proofs.choice.sorted.Goals as goal

pub returns-clause-same : goal.returns-clause-same
returns-clause-same c x =
    subst (λ (list : List OwnAddress). Contains list x ↔ Contains c.args.list x) (sym c.from.ensures)
    (subst (λ (list : List OwnAddress). Contains c.sort_to_set.new.items.items x ↔ Contains list x) c.into_vec-items.ensures (c.sort_to_set.ensures.same x))
