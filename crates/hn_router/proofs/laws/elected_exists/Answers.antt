use Rattle.hn_router.proofs.SomeElections.{some_elected}
use Rattle.hn_router.proofs.laws.elected_exists.Goals as goal

pub returns : goal.returns
returns c = some_elected c.items_are_unique.ensures c.common_link_exists.ensures c.view_is_a_network.ensures
