use Rattle.hn_base.proofs.Names.{◌≡◌, ◌++◌, take, drop, length, map, sym, subst, arith, common_steps}
use Rattle.hn_pair.proofs.Names.{marked_applied, assigned_pair, IsAscending}
use Rattle.hn_pair.proofs.MarksInOrder.{marked_in_order}
use Rattle.hn_pair.proofs.assignments.OfPairs+Assigned.mark.Goals as goal

pub invariant_of-self : goal.invariant_of-self
invariant_of-self c =
    let xs = c.self.inside.items.items in
    let gives : take c.self.inside.items.len (c.mark_all.new.items ++ drop (length c.mark_all.new.items) xs) ≡ map (marked_applied c.args.now) xs = grind (arith, common_steps) in
    subst (IsAscending assigned_pair) (sym gives) (marked_in_order c.args.now xs c.self.invariant)
