use Rattle.hn_rules.proofs.Names.{plain_view}
use Rattle.hn_rules.proofs.WishLists.{HasBelow}
use Rattle.hn_rules.proofs.assigning.all_wishes.Given as goal

abbrev pub invariant-loop-place : goal.invariant-loop-place
invariant-loop-place l = HasBelow l.private (plain_view l.view) l.usable l.endpoints l.place l.wishes
