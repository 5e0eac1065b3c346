use Rattle.hn_script.proofs.Printed.{printed_script}
use Rattle.hn_script.proofs.laws.printed_is_read.Goals as goal

pub returns : goal.returns
returns c = printed_script c.written_form_is_read.ensures.prefix
