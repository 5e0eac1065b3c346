use Rattle.hn_assign.proofs.SameAdvertised.{best_one}
use Rattle.hn_assign.proofs.laws.lines_exclude_each_other.Goals as goal

pub returns-clause-best : goal.returns-clause-best
returns-clause-best c at x y is_x is_y = best_one at.advertised at.own at.wish.common at.wish.delegated x y is_x is_y
