use Rattle.hn_advert.proofs.Unique.{same_advert}
use Rattle.hn_advert.proofs.laws.advert_is_unique.Goals as goal

pub returns : goal.returns
returns c = same_advert
