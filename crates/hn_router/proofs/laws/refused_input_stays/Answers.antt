use Rattle.hn_router.proofs.Refused.{input_stays}
use Rattle.hn_router.proofs.laws.refused_input_stays.Goals as goal

pub returns : goal.returns
returns c = input_stays c.first_fault_is_unique.ensures.no_list
