use Rattle.hn_own.proofs.PrefixLists.{AreOwnPrefixes-none}
use Rattle.hn_own.proofs.own_prefixes.OwnPrefixes.new.Goals as goal

pub invariant_of-result : goal.invariant_of-result
invariant_of-result c = rw c.new.ensures.items AreOwnPrefixes-none
