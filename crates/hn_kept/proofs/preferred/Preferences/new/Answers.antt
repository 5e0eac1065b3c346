use Rattle.hn_base.proofs.Names.{on}
use Rattle.hn_base.proofs.AscendingMade.{sorted_none}
use Rattle.hn_pair.specs.Pair.{pair_cmp}
use Rattle.hn_kept.specs.Preferred.{preferred_pair}
use Rattle.hn_kept.proofs.preferred.Preferences.new.Goals as goal

pub invariant_of-result : goal.invariant_of-result
invariant_of-result c = rw c.new.ensures.items (sorted_none (on preferred_pair pair_cmp))
