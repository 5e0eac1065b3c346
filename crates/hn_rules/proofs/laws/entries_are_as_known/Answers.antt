use Rattle.hn_rules.proofs.Entries.{entry_own, entry_held, entry_named}
use Rattle.hn_rules.proofs.laws.entries_are_as_known.Goals as goal

pub returns : goal.returns
returns c = record { own = entry_own; held = entry_held; named = entry_named }
