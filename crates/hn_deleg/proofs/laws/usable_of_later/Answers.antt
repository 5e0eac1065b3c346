use Rattle.hn_deleg.proofs.LaterUsable.{usable_later, same_prefixes, unwanted_later}
use Rattle.hn_deleg.proofs.laws.usable_of_later.Goals as goal

pub returns : goal.returns
returns c = record { usable = usable_later; prefixes = same_prefixes; unwanted = unwanted_later }
