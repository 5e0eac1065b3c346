use Rattle.hn_prefix.proofs.WriteLemmas.{address_text_is_written}
use Rattle.hn_prefix.proofs.laws.written_form_is_one.Goals as goal

pub returns-clause-written : goal.returns-clause-written
returns-clause-written c = address_text_is_written
