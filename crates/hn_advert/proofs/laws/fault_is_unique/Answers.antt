use Rattle.hn_advert.proofs.Unique.{no_advert, same_fault}
use Rattle.hn_advert.proofs.laws.fault_is_unique.Goals as goal

pub returns-clause-no_advert : goal.returns-clause-no_advert
returns-clause-no_advert c = no_advert

pub returns-clause-one : goal.returns-clause-one
returns-clause-one c = same_fault
