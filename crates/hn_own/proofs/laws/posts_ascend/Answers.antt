use Rattle.hn_own.proofs.PostLists.{ascend, few}
use Rattle.hn_own.proofs.laws.posts_ascend.Goals as goal

pub returns-clause-ascending : goal.returns-clause-ascending
returns-clause-ascending c = ascend

pub returns-clause-few : goal.returns-clause-few
returns-clause-few c = few
