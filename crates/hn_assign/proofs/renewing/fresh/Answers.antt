use Rattle.hn_base.proofs.Names.{◌↔◌, ◌⊎◌, List, Contains, subst}
use Rattle.hn_assign.proofs.Names.{plain_view, Assigned, IsOwn}
use Rattle.hn_assign.proofs.Renewals.{anew_all}
use Rattle.hn_assign.proofs.renewing.fresh.Goals as goal

pub returns : goal.returns
returns c a =
    let others = c.add_changed.new.items.items in
    let all = c.add_own.new.items.items in
    anew_all (plain_view c.args.view.now) c.args.changed.now c.args.held.now.assigned _ others all c.merge_by_bits.new.advertised.items a c.new-items.ensures.items (c.in_ok-add_changed.ensures a)
    (subst (λ (cs : List Assigned). Contains all a ↔ (Contains others a ⊎ ((x : Assigned) × Contains cs x × IsOwn c.args.view.now.own.0 x a))) c.as_slice.ensures.value (c.in_ok-add_own.ensures a))
    c.in_ok-merge_by_bits.ensures.same
