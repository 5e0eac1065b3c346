use Rattle.hn_store.proofs.Uniqueness.{acceptance_unique}
use Rattle.hn_store.proofs.laws.acceptance_is_unique.Goals as goal

pub returns : goal.returns
returns c = acceptance_unique
