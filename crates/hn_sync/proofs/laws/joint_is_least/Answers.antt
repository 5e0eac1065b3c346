use Rattle.hn_sync.proofs.LeastJoint.{is_least, is_none}
use Rattle.hn_sync.proofs.laws.joint_is_least.Goals as goal

pub returns : goal.returns
returns c = record { least = is_least; none = is_none }
