use Rattle.hn_router.proofs.OneNew.{one_new}
use Rattle.hn_router.proofs.laws.new_is_unique.Goals as goal

pub returns : goal.returns
returns c = one_new c.own_data_is_unique.ensures
