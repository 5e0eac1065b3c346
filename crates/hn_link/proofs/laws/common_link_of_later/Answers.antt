use Rattle.hn_link.proofs.LaterCommonLink.{common_of_later}
use Rattle.hn_link.proofs.laws.common_link_of_later.Goals as goal

pub returns : goal.returns
returns c = common_of_later
