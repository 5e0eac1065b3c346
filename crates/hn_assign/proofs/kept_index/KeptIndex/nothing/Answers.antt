use Rattle.hn_base.proofs.Names.{List, [], sym, subst, HaveSame}
use Rattle.hn_assign.proofs.Names.{Advertised}
use Rattle.hn_assign.proofs.Indexes.{nothing_kept}
use Rattle.hn_assign.proofs.kept_index.KeptIndex.nothing.Goals as goal

pub invariant_of-result : goal.invariant_of-result
invariant_of-result c =
    nothing_kept 0 c.new-nodes.result.items c.new-assigned.result.items c.in_ok-index.index c.new-nodes.ensures.items c.new-assigned.ensures.items
    (subst (λ (xs : List Advertised). HaveSame xs []) (sym c.in_ok-index.ensures)
    (subst (λ (ys : List Advertised). HaveSame c.in_ok-known.known ys) c.new-none.ensures.items c.in_ok-known.ensures))
