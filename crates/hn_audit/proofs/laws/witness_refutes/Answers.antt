use Rattle.hn_audit.proofs.Disturbing.{names_one_not_at_rest, refutes_quiet}
use Rattle.hn_audit.proofs.Judging.{refutes_settled}
use Rattle.hn_audit.proofs.laws.witness_refutes.Goals as goal

pub returns-clause-settled : goal.returns-clause-settled
returns-clause-settled c = refutes_settled

pub returns-clause-quiet : goal.returns-clause-quiet
returns-clause-quiet c = refutes_quiet c.usable_is_unique.ensures c.pairs_are_ordered.ensures.total c.rest_knows_no_order.ensures

pub returns-clause-not_at_rest : goal.returns-clause-not_at_rest
returns-clause-not_at_rest c = names_one_not_at_rest c.usable_is_unique.ensures c.pairs_are_ordered.ensures.total c.rest_knows_no_order.ensures
