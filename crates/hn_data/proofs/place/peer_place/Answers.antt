use Rattle.hn_base.proofs.Names.{◌≡◌, Some, refl, slice_get, length, IsTrue, false, slice_get_read}
use Rattle.hn_data.proofs.Names.{ids_of, part_is}
use Rattle.hn_base.proofs.PartsAtPlaces.{contains_at}
use Rattle.hn_data.proofs.PeerPlaces.{peer_at, leads_to_peer}
use Rattle.hn_data.proofs.place.peer_place.Goals as goal

pub returns-in_err-place-clause-absent : goal.returns-in_err-place-clause-absent
returns-in_err-place-clause-absent c =
    rw c.from_residual.ensures (λ place leads.
    let nodes = c.args.nodes.now in
    let link = c.args.link.now in
    c.in_err-place.ensures.absent (contains_at (ids_of nodes) place link.peer.0 (peer_at nodes c.args.node.now link place leads)))

pub returns-then-linked-clause-found : goal.returns-then-linked-clause-found
returns-then-linked-clause-found c =
    let nodes = c.args.nodes.now in
    let place = c.in_ok-place.place in
    let peer = c.index-nodes-place.result in
    let at : slice_get nodes place ≡ Some peer = slice_get_read nodes (length nodes) place peer refl c.in_ok-place.ensures.within c.index-nodes-place.is in
    record {
      y = peer;
      at = at;
      is_peer = part_is (λ n. n.id.0) nodes place c.args.link.now.peer.0 peer at c.in_ok-place.ensures.found;
      linked = c.linked.ensures.0 c.if-linked.true;
    }

pub returns-else-linked-clause-absent : goal.returns-else-linked-clause-absent
returns-else-linked-clause-absent c other leads =
    let nodes = c.args.nodes.now in
    let place = c.in_ok-place.place in
    let peer = c.index-nodes-place.result in
    let at : slice_get nodes place ≡ Some peer = slice_get_read nodes (length nodes) place peer refl c.in_ok-place.ensures.within c.index-nodes-place.is in
    let linked : IsTrue c.linked.result = c.linked.ensures.1 (leads_to_peer nodes c.requires c.args.node.now c.args.link.now place other peer at c.in_ok-place.ensures.found leads) in
    let unlinked : c.linked.result ≡ false = c.if-linked.false in
    absurd (cc)
