use Rattle.hn_store.proofs.Uniqueness.{others_as_before}
use Rattle.hn_store.proofs.laws.others_stay.Goals as goal

pub returns : goal.returns
returns c = others_as_before
