use Rattle.hn_script.proofs.SameScripts.{one_entry}
use Rattle.hn_script.proofs.laws.line_is_unique.Goals as goal

pub returns : goal.returns
returns c = one_entry c.read_form_is_of_one.ensures.prefix
