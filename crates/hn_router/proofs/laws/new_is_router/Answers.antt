use Rattle.hn_router.proofs.NewRouter.{new_is_one}
use Rattle.hn_router.proofs.laws.new_is_router.Goals as goal

pub returns : goal.returns
returns c =
    let none = c.none_are_well.ensures in
    new_is_one c.loss_keeps_table.ensures.none none.endpoints none.prefixes none.addresses c.own_is_reachable.ensures c.reachable_is_a_node.ensures
