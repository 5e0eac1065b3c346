use Rattle.hn_deleg.proofs.OneUsableList.{apart}
use Rattle.hn_deleg.proofs.laws.usable_never_overlap.Goals as goal

pub returns : goal.returns
returns c view list p q are hp hq overlap = apart c.overlap_is_nesting.ensures view list p q are hp hq overlap
