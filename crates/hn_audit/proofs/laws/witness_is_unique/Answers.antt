use Rattle.hn_audit.proofs.OneWitness.{unsettled_is_one, unquiet_is_one}
use Rattle.hn_audit.proofs.laws.witness_is_unique.Goals as goal

pub returns-clause-settled : goal.returns-clause-settled
returns-clause-settled c = unsettled_is_one

pub returns-clause-quiet : goal.returns-clause-quiet
returns-clause-quiet c w r replayed =
    unquiet_is_one c.answers_know_no_order.ensures.best c.rest_knows_no_order.ensures c.usable_is_unique.ensures c.pairs_are_ordered.ensures.total w r (c.always_sound.ensures.sound w replayed)
