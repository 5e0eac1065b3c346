use Rattle.hn_store.proofs.Listed.{listed_or_not}
use Rattle.hn_store.proofs.AnswerMade.{acceptance_made}
use Rattle.hn_store.proofs.laws.acceptance_exists.Goals as goal

pub returns : goal.returns
returns c = acceptance_made (listed_or_not c.list_is_of_bytes.ensures c.list_or_first_fault.ensures c.first_fault_is_unique.ensures.no_list)
