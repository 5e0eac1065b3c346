use Rattle.hn_advert.proofs.Total.{advert_or_fault}
use Rattle.hn_advert.proofs.laws.advert_or_fault.Goals as goal

pub returns : goal.returns
returns c = advert_or_fault
