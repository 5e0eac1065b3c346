use Rattle.hn_data.proofs.LaterNetwork.{later_network}
use Rattle.hn_data.proofs.laws.later_is_a_network.Goals as goal

pub returns : goal.returns
returns c = later_network
