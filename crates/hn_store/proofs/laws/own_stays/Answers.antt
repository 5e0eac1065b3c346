use Rattle.hn_store.proofs.Uniqueness.{own_as_before}
use Rattle.hn_store.proofs.laws.own_stays.Goals as goal

pub returns : goal.returns
returns c = own_as_before
