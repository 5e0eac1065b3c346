use Rattle.hn_base.proofs.Names.{take}
use Rattle.hn_rules.proofs.Names.{plain_view, endpoints_at}
use Rattle.hn_rules.proofs.WishLists.{HasAt}
use Rattle.hn_rules.proofs.assigning.add_wishes.Given as goal

abbrev pub invariant-loop-post : goal.invariant-loop-post
invariant-loop-post l = HasAt l.private (plain_view l.view) l.usable l.place (take l.post-index (endpoints_at l.posts)) l.initial.wishes l.wishes
