use Rattle.hn_pair.proofs.Orders.{pair_total, pair_exact}
use Rattle.hn_pair.proofs.laws.pairs_are_ordered.Goals as goal

pub returns-clause-total : goal.returns-clause-total
returns-clause-total c = pair_total

pub returns-clause-exact : goal.returns-clause-exact
returns-clause-exact c = pair_exact
