use Rattle.hn_store.proofs.Forgettings.{forgotten_from}
use Rattle.hn_store.proofs.laws.forgetting_is_a_moment.Goals as goal

pub returns : goal.returns
returns c = forgotten_from
