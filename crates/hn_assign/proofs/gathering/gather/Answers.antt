use Rattle.hn_base.proofs.Names.{◌↔◌, ◌⊎◌, List, Contains, subst}
use Rattle.hn_assign.proofs.Names.{plain_view, Assigned, IsOwn}
use Rattle.hn_assign.proofs.AdvertisedBy.{advertised_all}
use Rattle.hn_assign.proofs.gathering.gather.Goals as goal

pub returns : goal.returns
returns c a =
    let others = c.add_others.new.items.items in
    let all = c.add_own.new.items.items in
    rw c.from.ensures (advertised_all (plain_view c.args.view.now) c.args.held.now.assigned c.in_ok-items.items.items others all a c.in_ok-items.ensures.items (c.in_ok-add_others.ensures a)
    (subst (λ (cs : List Assigned). Contains all a ↔ (Contains others a ⊎ ((x : Assigned) × Contains cs x × IsOwn c.args.view.now.own.0 x a))) c.as_slice.ensures.value (c.in_ok-add_own.ensures a)))
