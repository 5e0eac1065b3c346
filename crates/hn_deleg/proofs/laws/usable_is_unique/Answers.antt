use Rattle.hn_deleg.proofs.OneUsableList.{one_list}
use Rattle.hn_deleg.proofs.laws.usable_is_unique.Goals as goal

pub returns : goal.returns
returns c view a b p q = one_list view a b p q
