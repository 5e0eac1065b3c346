use Rattle.hn_prefix.proofs.WriteLemmas.{address_text_is_written, length-address_text_of}
use Rattle.hn_prefix.proofs.text.address_text.Goals as goal

pub returns-clause-written : goal.returns-clause-written
returns-clause-written c = address_text_is_written c.args.ip

pub returns-clause-short : goal.returns-clause-short
returns-clause-short c = length-address_text_of c.args.ip
