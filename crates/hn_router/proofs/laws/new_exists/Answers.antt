use Rattle.hn_router.proofs.SomeNew.{some_new}
use Rattle.hn_router.proofs.laws.new_exists.Goals as goal

pub returns : goal.returns
returns c = some_new c.own_data_exists.ensures
