use Rattle.hn_deleg.proofs.Exists.{usable_exists}
use Rattle.hn_deleg.proofs.laws.usable_exists.Goals as goal

pub returns : goal.returns
returns c = usable_exists c.items_or_none.ensures c.items_are_unique.ensures c.prefixes_are_ranges.ensures.within
