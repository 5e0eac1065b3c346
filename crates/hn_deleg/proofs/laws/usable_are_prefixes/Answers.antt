use Rattle.hn_deleg.proofs.Fits.{usable_prefixes}
use Rattle.hn_deleg.proofs.laws.usable_are_prefixes.Goals as goal

pub returns : goal.returns
returns c = usable_prefixes
