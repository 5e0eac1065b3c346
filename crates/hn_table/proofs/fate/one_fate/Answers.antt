use Rattle.hn_table.proofs.OneFate.{has_one_fate}
use Rattle.hn_table.proofs.fate.one_fate.Goals as goal

pub returns : goal.returns
returns c = has_one_fate c.overlap_is_nesting.ensures
