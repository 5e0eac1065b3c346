use Rattle.hn_dncp.proofs.PeerLemmas.{ArePeers-push}
use Rattle.hn_dncp.proofs.peers.Peers.add.Goals as goal

pub invariant_of-self-2 : goal.invariant_of-self-2
invariant_of-self-2 c = rw c.in_ok-push.ensures.items (ArePeers-push _ c.args.peer c.self.invariant (rw c.self.view_is c.requires.room) (rw c.self.view_is c.requires.unknown))
