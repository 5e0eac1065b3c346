use Rattle.hn_prefix.proofs.OneRead.{same_address, same_prefix}
use Rattle.hn_prefix.proofs.laws.read_form_is_of_one.Goals as goal

pub returns-clause-address : goal.returns-clause-address
returns-clause-address c = same_address

pub returns-clause-prefix : goal.returns-clause-prefix
returns-clause-prefix c = same_prefix
