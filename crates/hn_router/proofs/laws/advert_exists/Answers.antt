use Rattle.hn_router.proofs.SomeAdverts.{some_advert}
use Rattle.hn_router.proofs.laws.advert_exists.Goals as goal

pub returns : goal.returns
returns c = some_advert c.inside_keeps_the_order.ensures c.lifetimes_fit.ensures c.usable_exists.ensures c.elected_exists.ensures
