use Rattle.hn_store.proofs.Tables.{held_of_entry}
use Rattle.hn_store.proofs.laws.held_is_of_an_entry.Goals as goal

pub returns : goal.returns
returns c = held_of_entry
