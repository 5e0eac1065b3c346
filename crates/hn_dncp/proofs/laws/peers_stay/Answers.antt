use Rattle.hn_dncp.proofs.HeardPeersStay.{ArePeers-met, ArePeers-contacted}
use Rattle.hn_dncp.proofs.laws.peers_stay.Goals as goal

pub returns-clause-met : goal.returns-clause-met
returns-clause-met c = ArePeers-met

pub returns-clause-contacted : goal.returns-clause-contacted
returns-clause-contacted c = ArePeers-contacted
