-- Peers that are heard stay peers.
use Rattle.hn_base.proofs.Names.{◌≡◌, ℕ, Bool, true, false, cond, List, [], ◌∷◌, ◌++◌, length, map, get_or, Option, Some, None, refl, sym, arith, ◌==◌, AllPairs, cond_both, eqb-true, eqb-false}
use Rattle.hn_base.proofs.Names.{and_parts, get_or-map, length-map}
use Rattle.hn_dncp.proofs.Names.{NodeId, EpId, Neighbour, is_peer, has_peer, IsOther, ArePeers}
use Rattle.hn_dncp.specs.Greet.{peers_heard}
use Rattle.hn_dncp.specs.Hash.{contacted}
use Rattle.hn_dncp.proofs.PeerLemmas.{ArePeers-push}

others-map : (f : Neighbour → Neighbour) → ((x y : Neighbour) → IsOther x y → IsOther (f x) (f y)) → (xs : List Neighbour) → AllPairs IsOther xs → AllPairs IsOther (map f xs)
others-map f keeps xs all i j d less within =
    let long = length-map xs f in
    rw (get_or-map f xs i d d (omega arith), get_or-map f xs j d d (omega arith)) (keeps (get_or xs i d) (get_or xs j d) (all i j d less (omega arith)))

-- peers that keep their node and endpoint
rekeyed : (f : Neighbour → Neighbour) → ((x : Neighbour) → (f x).node.0 ≡ x.node.0) → ((x : Neighbour) → (f x).endpoint.0 ≡ x.endpoint.0)
    → (peers : List Neighbour) → ArePeers peers → ArePeers (map f peers)
rekeyed f node endpoint peers are = record {
  few = rw length-map are.few;
  once = others-map f (λ x y other. rw (node x, node y, endpoint x, endpoint y) other) peers are.once;
}

renewed_node : (peer other : Neighbour) → (cond (is_peer peer.node peer.endpoint other) peer other).node.0 ≡ other.node.0
renewed_node peer other =
    cond_both (is_peer peer.node peer.endpoint other) peer other (λ (p : Neighbour). p.node.0 ≡ other.node.0) (λ is. sym (eqb-true _ _ (and_parts _ _ is).0)) (λ _. refl)

renewed_endpoint : (peer other : Neighbour) → (cond (is_peer peer.node peer.endpoint other) peer other).endpoint.0 ≡ other.endpoint.0
renewed_endpoint peer other =
    cond_both (is_peer peer.node peer.endpoint other) peer other (λ (p : Neighbour). p.endpoint.0 ≡ other.endpoint.0) (λ is. sym (eqb-true _ _ (and_parts _ _ is).1)) (λ _. refl)

pub ArePeers-met : (peer : Neighbour) (peers : List Neighbour) → ArePeers peers → ArePeers (peers_heard peer peers)
ArePeers-met peer peers are =
    let renewed = map (λ other. cond (is_peer peer.node peer.endpoint other) peer other) peers in
    let added = peers ++ peer ∷ [] in
    cond_both (has_peer peer.node peer.endpoint peers) renewed (cond (length peers == 64) peers added) ArePeers
    (λ _. rekeyed (λ other. cond (is_peer peer.node peer.endpoint other) peer other) (renewed_node peer) (renewed_endpoint peer) peers are)
    (λ unknown. by_room (length peers == 64) refl unknown)
  where
    by_room : (full : Bool) → (length peers == 64) ≡ full → has_peer peer.node peer.endpoint peers ≡ false → ArePeers (cond full peers (peers ++ peer ∷ []))
    by_room true is unknown = are
    by_room false is unknown = ArePeers-push peers peer are (let few = are.few in let other = eqb-false (length peers) 64 is in omega arith) unknown

pub ArePeers-contacted : (sender : Option (NodeId × EpId)) (now : ℕ) (peers : List Neighbour) → ArePeers peers → ArePeers (contacted sender now peers)
ArePeers-contacted None now peers are = are
ArePeers-contacted (Some sender) now peers are =
    let heard = λ (peer : Neighbour). cond (is_peer sender.0 sender.1 peer) (record peer { contact = now }) peer in
    rekeyed heard
    (λ peer. cond_both (is_peer sender.0 sender.1 peer) (record peer { contact = now }) peer (λ (p : Neighbour). p.node.0 ≡ peer.node.0) (λ _. refl) (λ _. refl))
    (λ peer. cond_both (is_peer sender.0 sender.1 peer) (record peer { contact = now }) peer (λ (p : Neighbour). p.endpoint.0 ≡ peer.endpoint.0) (λ _. refl) (λ _. refl))
    peers are
