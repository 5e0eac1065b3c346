use Rattle.hn_prefix.proofs.WriteLemmas.{address_text_is_read, prefix_text_is_read}
use Rattle.hn_prefix.proofs.laws.written_form_is_read.Goals as goal

pub returns-clause-address : goal.returns-clause-address
returns-clause-address c = address_text_is_read

pub returns-clause-prefix : goal.returns-clause-prefix
returns-clause-prefix c = prefix_text_is_read
