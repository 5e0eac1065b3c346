use Rattle.hn_base.proofs.Names.{◌≡◌, position, None, sym}
use Rattle.hn_dncp.proofs.Names.{Neighbour, is_peer, map-unpassed}
use Rattle.hn_dncp.proofs.PeerLemmas.{renewed, found_key, ArePeers-set}
use Rattle.hn_dncp.proofs.peers.Peers.replace.Goals as goal

pub invariant_of-self : goal.invariant_of-self
invariant_of-self c =
    let peer = c.args.peer in
    let items = c.self.inside.items.items in
    ArePeers-set items c.in-Some.place peer peer c.self.invariant (found_key items c.in-Some.place peer peer (cc))

pub returns-in-Some : goal.returns-in-Some
returns-in-Some c =
    let peer = c.args.peer in
    rw (← c.self.view_is) (sym (renewed peer.node peer.endpoint
    (λ (_ : Neighbour). peer) c.self.inside.items.items c.in-Some.place c.index_mut.result.now c.self.invariant (cc) c.index_mut.ensures.value))

pub returns-in_default : goal.returns-in_default
returns-in_default c =
    let peer = c.args.peer in
    let none : position (is_peer peer.node peer.endpoint) c.args.self.now ≡ None = cc in
    sym (map-unpassed (is_peer peer.node peer.endpoint) (λ (_ : Neighbour). peer) c.args.self.now none)
