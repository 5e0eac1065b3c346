use Rattle.hn_pair.proofs.WishLemmas.{no_wishes}
use Rattle.hn_pair.proofs.wishes.Wishes.new.Goals as goal

pub invariant_of-result : goal.invariant_of-result
invariant_of-result c = rw c.new.ensures.items no_wishes
