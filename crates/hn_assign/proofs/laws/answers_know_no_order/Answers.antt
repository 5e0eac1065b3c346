use Rattle.hn_assign.proofs.SameAdvertised.{best_in, best_one, first_one, none_in, same_back, valid_in}
use Rattle.hn_assign.proofs.laws.answers_know_no_order.Goals as goal

pub returns-clause-best : goal.returns-clause-best
returns-clause-best c a b same own common d x y is_x is_y = best_one b own common d x y (best_in a b own common d x same is_x) is_y

pub returns-clause-valid : goal.returns-clause-valid
returns-clause-valid c a b same own common x = (valid_in a b own common x same, valid_in b a own common x (same_back a b same))

pub returns-clause-first : goal.returns-clause-first
returns-clause-first c a b same d start len p q first_p first_q = first_one a b d start len p q same first_p first_q

pub returns-clause-none : goal.returns-clause-none
returns-clause-none c a b same d len = (none_in a b d len same, none_in b a d len (same_back a b same))
