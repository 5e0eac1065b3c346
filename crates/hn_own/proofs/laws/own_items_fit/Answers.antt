use Rattle.hn_own.proofs.OwnItemsFit.{items_few, items_ranged}
use Rattle.hn_own.proofs.laws.own_items_fit.Goals as goal

pub returns-clause-few : goal.returns-clause-few
returns-clause-few c = items_few

pub returns-clause-ranged : goal.returns-clause-ranged
returns-clause-ranged c = items_ranged
