-- What a router says of its peers, and by whom it knows an endpoint, rests on the numbers of its endpoints and on whom
-- their peers are: the signs of its endpoints.
use Rattle.hn_base.proofs.Names.{◌≡◌, ◌∙◌, ℕ, Bool, true, false, cond, List, [], ◌∷◌, map, Contains, Option, Some, None, sym, ap, subst, refl, flat_map, list_any, IsStrictlySortedBy, option_map_or}
use Rattle.hn_base.proofs.Names.{nat_cmp, and_parts, cond_both, eqb-true, nat_cmp_total}
use Rattle.hn_sync.proofs.Names.{◌==◌, ◌&&◌, find, EpId, NodeId, Contains-head, Contains-tail, found_passes, Neighbour, Port, hashed, has_peer, links_of, endpoints_of, is_port, port_at}
use Rattle.hn_base.proofs.AscendingLists.{sorted_parts}
use Rattle.hn_base.proofs.PartsAtPlaces.{one_of_ascending}
use Rattle.hn_data.specs.declared.said.PeerLink.{PeerLink}
use Rattle.hn_dncp.specs.Greet.{peers_heard}
use Rattle.hn_dncp.specs.Hash.{contacted}
use Rattle.hn_dncp.specs.Peers.{is_peer}
use Rattle.hn_own.specs.Own.{links_at}
use Rattle.hn_own.specs.Ports.{number, put_port}

-- the endpoint of a node that a peer is
abbrev pub who : Neighbour → NodeId × EpId
who peer = (peer.node, peer.endpoint)

-- the sign of an endpoint
abbrev pub sign : Port → EpId × List (NodeId × EpId)
sign port = (port.id, map who port.peers)

abbrev pub signs : List Port → List (EpId × List (NodeId × EpId))
signs ports = map sign ports

-- ---- what rests on signs

map_map : {A B C : Type 0} (f : A → B) (g : B → C) (xs : List A) → map g (map f xs) ≡ map (λ x. g (f x)) xs
map_map f g [] = refl
map_map f g (x ∷ xs) = ap (λ rest. g (f x) ∷ rest) (map_map f g xs)

abbrev links_by : EpId × List (NodeId × EpId) → List PeerLink
links_by s = map (λ peer. record { endpoint = s.0; peer = peer.0; peer_endpoint = peer.1 }) s.1

links_signed : (ports : List Port) → links_of ports ≡ flat_map links_by (signs ports)
links_signed [] = refl
links_signed (port ∷ ports) =
    let rest = links_signed ports in
    let one : links_at port ≡ links_by (sign port) = sym (map_map who
    (λ (peer : NodeId × EpId). let l : PeerLink = record { endpoint = port.id; peer = peer.0; peer_endpoint = peer.1 } in l) port.peers) in
    cc

pub links_from_signs : (ports others : List Port) → signs ports ≡ signs others → links_of ports ≡ links_of others
links_from_signs ports others same = links_signed ports ∙ ap (flat_map links_by) same ∙ sym (links_signed others)

numbers_signed : (ports : List Port) → map number ports ≡ map (λ s. s.0.0) (signs ports)
numbers_signed ports = sym (map_map sign (λ (s : EpId × List (NodeId × EpId)). s.0.0) ports)

abbrev pub Ascend : List Port → Type 0
Ascend ports = IsStrictlySortedBy nat_cmp (map number ports)

pub ascend_from_signs : (ports others : List Port) → signs ports ≡ signs others → Ascend others → Ascend ports
ascend_from_signs ports others same up =
    subst (IsStrictlySortedBy nat_cmp) (sym (numbers_signed ports ∙ ap (map (λ (s : EpId × List (NodeId × EpId)). s.0.0)) same ∙ sym (numbers_signed others))) up

endpoints_signed : (ports : List Port) → endpoints_of ports ≡ map (λ s. s.0) (signs ports)
endpoints_signed ports = sym (map_map sign (λ (s : EpId × List (NodeId × EpId)). s.0) ports)

pub endpoints_from_signs : (ports others : List Port) → signs ports ≡ signs others → endpoints_of ports ≡ endpoints_of others
endpoints_from_signs ports others same =
    endpoints_signed ports ∙ ap (map (λ (s : EpId × List (NodeId × EpId)). s.0)) same ∙ sym (endpoints_signed others)

-- by whom an endpoint is known
abbrev is_signed : EpId → EpId × List (NodeId × EpId) → Bool
is_signed e s = s.0.0 == e.0

abbrev has_signed : NodeId → EpId → List (NodeId × EpId) → Bool
has_signed node f peers = list_any (λ p. p.0.0 == node.0 && p.1.0 == f.0) peers

peers_signed : (node : NodeId) (f : EpId) (peers : List Neighbour) → has_peer node f peers ≡ has_signed node f (map who peers)
peers_signed node f [] = refl
peers_signed node f (p ∷ peers) = let rest = peers_signed node f peers in cc

abbrev pub knows_at : EpId → NodeId → EpId → List Port → Bool
knows_at e node f ports = option_map_or (λ port. has_peer node f port.peers) (port_at e ports) false

knows_signed : (e : EpId) (node : NodeId) (f : EpId) (ports : List Port) → knows_at e node f ports ≡ option_map_or (λ s. has_signed node f s.1) (find (is_signed e) (signs ports)) false
knows_signed e node f [] = refl
knows_signed e node f (port ∷ ports) = by_test (is_port e port) (knows_signed e node f ports)
  where
    by_test : (b : Bool) → knows_at e node f ports ≡ option_map_or (λ s. has_signed node f s.1) (find (is_signed e) (signs ports)) false
        → option_map_or (λ p. has_peer node f p.peers) (cond b (Some port) (find (is_port e) ports)) false ≡ option_map_or
        (λ s. has_signed node f s.1) (cond b (Some (sign port)) (find (is_signed e) (signs ports))) false
    by_test true rest = peers_signed node f port.peers
    by_test false rest = rest

pub knows_from_signs : (e : EpId) (node : NodeId) (f : EpId) (ports others : List Port) → signs ports ≡ signs others → knows_at e node f ports ≡ knows_at e node f others
knows_from_signs e node f ports others same =
    knows_signed e node f ports ∙ ap (λ (ss : List (EpId × List (NodeId × EpId))). option_map_or (λ s. has_signed node f s.1) (find (is_signed e) ss) false) same ∙ sym (knows_signed e node f others)

-- ---- an endpoint is put that has the sign of the one with its number

pub one_port : (at : EpId) (ports : List Port) (port other : Port) → Ascend ports → port_at at ports ≡ Some port → Contains ports other → other.id.0 ≡ port.id.0 → other ≡ port
one_port at ports port other up found there same =
    let passes = found_passes (is_port at) ports port found in
    one_of_ascending number nat_cmp nat_cmp_total ports ((sorted_parts number nat_cmp ports).1 up) other port there passes.0 same

signs_put_each : (next : Port) (ports : List Port) → ((p : Port) → Contains ports p → p.id.0 ≡ next.id.0 → sign next ≡ sign p) → signs (put_port next ports) ≡ signs ports
signs_put_each next [] each = refl
signs_put_each next (p ∷ ports) each =
    let rest = signs_put_each next ports (λ q there is. each q (Contains-tail p ports q there) is) in
    let one = cond_both (is_port next.id p) next p (λ (q : Port). sign q ≡ sign p) (λ is. each p (Contains-head p ports) (eqb-true p.id.0 next.id.0 is)) (λ _. refl) in
    cc

pub signs_put : (at : EpId) (ports : List Port) (port next : Port) → Ascend ports → port_at at ports ≡ Some port → sign next ≡ sign port → signs (put_port next ports) ≡ signs ports
signs_put at ports port next up found same =
    signs_put_each next ports (λ p there is. same ∙ ap sign (sym (one_port at ports port p up found there (is ∙ ap (λ (s : EpId × List (NodeId × EpId)). s.0.0) same))))

-- ---- peers that are heard

map_alike : {A B : Type 0} (f : A → A) (g : A → B) → ((x : A) → g (f x) ≡ g x) → (xs : List A) → map g (map f xs) ≡ map g xs
map_alike f g same [] = refl
map_alike f g same (x ∷ xs) = let one = same x in let more = map_alike f g same xs in cc

pub contacted_signs : (sender : Option (NodeId × EpId)) (now : ℕ) (peers : List Neighbour) → map who (contacted sender now peers) ≡ map who peers
contacted_signs None now peers = refl
contacted_signs (Some sender) now peers =
    map_alike (λ (peer : Neighbour). cond (is_peer sender.0 sender.1 peer) (record peer { contact = now }) peer) who
    (λ peer. cond_both (is_peer sender.0 sender.1 peer) (record peer { contact = now }) peer (λ (p : Neighbour). who p ≡ who peer) (λ _. refl) (λ _. refl)) peers

pub hashed_sign : (same : Bool) (sender : Option (NodeId × EpId)) (now : ℕ) (port : Port) → sign (hashed same sender now port) ≡ sign port
hashed_sign true sender now port = let one = contacted_signs sender now port.peers in cc
hashed_sign false sender now port = refl

same_who : (peer other : Neighbour) → is_peer peer.node peer.endpoint other ≡ true → who peer ≡ who other
same_who peer other is =
    let parts = and_parts (other.node.0 == peer.node.0) (other.endpoint.0 == peer.endpoint.0) is in
    let pair = λ (node endpoint : ℕ). let p : NodeId × EpId = (record { 0 = node }, record { 0 = endpoint }) in p in
    ap (λ (n : ℕ). pair n peer.endpoint.0) (sym (eqb-true other.node.0 peer.node.0 parts.0)) ∙ ap (pair other.node.0) (sym (eqb-true other.endpoint.0 peer.endpoint.0 parts.1))

-- one that is known is met
pub met_signs : (peer : Neighbour) (peers : List Neighbour) → has_peer peer.node peer.endpoint peers ≡ true → map who (peers_heard peer peers) ≡ map who peers
met_signs peer peers known = rw known
    (map_alike (λ (other : Neighbour). cond (is_peer peer.node peer.endpoint other) peer other) who
    (λ other. cond_both (is_peer peer.node peer.endpoint other) peer other (λ (p : Neighbour). who p ≡ who other) (same_who peer other) (λ _. refl)) peers)
