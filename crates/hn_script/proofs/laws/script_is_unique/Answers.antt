use Rattle.hn_script.proofs.SameScripts.{one_script}
use Rattle.hn_script.proofs.laws.script_is_unique.Goals as goal

pub returns : goal.returns
returns c = one_script c.read_form_is_of_one.ensures.prefix
