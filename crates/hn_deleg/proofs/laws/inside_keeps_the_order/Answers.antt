use Rattle.hn_deleg.proofs.Ordered.{inside_ordered}
use Rattle.hn_deleg.proofs.laws.inside_keeps_the_order.Goals as goal

pub returns : goal.returns
returns c view list d f p q are hd hf valid_p valid_q in_d in_f less =
    inside_ordered c.prefixes_are_ranges.ensures.within c.prefixes_are_ranges.ensures.overlap c.overlap_is_nesting.ensures view list d f p q are hd hf valid_p valid_q in_d in_f less
