use Rattle.hn_graph.proofs.Names.{peer_link}
use Rattle.hn_graph.proofs.search.says_back.Goals as goal

pub returns : goal.returns
returns c =
    let back = peer_link c.args.node.now.id.0 c.args.link.now.endpoint.0 c.args.link.now.peer_endpoint.0 in
    (λ h. (c.peers.ensures.exact back).0 (c.is_in_set.ensures.0 h), λ said. c.is_in_set.ensures.1 ((c.peers.ensures.exact back).1 said))
