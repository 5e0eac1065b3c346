use Rattle.hn_base.proofs.Names.{◌↔◌, ℕ, List, Contains, subst}
use Rattle.hn_addr.proofs.others.addresses_of.Goals as goal

pub returns-clause-same : goal.returns-clause-same
returns-clause-same c x =
    subst (λ (all : List ℕ). Contains c.sort_to_set.new.items.items x ↔ Contains all x) c.in_ok-set.ensures (c.sort_to_set.ensures.same x)
