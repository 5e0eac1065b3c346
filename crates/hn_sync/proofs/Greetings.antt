-- What a router does when it hears a peer that it knows: nothing that its peers and its node data would show.
use Rattle.hn_base.proofs.Names.{◌≡◌, ◌∙◌, ◌⊎◌, ◌<◌, ◌≤◌, ◌^◌, ℕ, Bool, true, false, cond, List, [], length, Contains, Option, Some, None, is_some, sym, ap, subst, refl, inl, inr, option_map_or}
use Rattle.hn_base.proofs.Names.{bytes_eq, cond_both, length-map, All-contains, OnSome}
use Rattle.hn_sync.proofs.Names.{◌==◌, Contains-map, Contains-from_map, all_of, EpId, NodeId, Neighbour, Port, hashed, has_peer, ArePorts, port_at, NetworkRequest, Note, Origin, Running, with_answer}
use Rattle.hn_sync.proofs.Names.{network_state, named, met, node_endpoint, AtPort, noted, RequestNetwork}
use Rattle.hn_dncp.specs.declared.greet.Greet.TheVariants.{Known, Unknown, Full, Added}
use Rattle.hn_dncp.specs.Greet as greet
use Rattle.hn_dncp.specs.Hash.{asks_for_state}
use Rattle.hn_rules.specs.declared.done.Note.TheVariants as note
use Rattle.hn_rules.specs.NodeEndpoint.{greeting_port}
use Rattle.hn_rules.specs.Rules.{with_port}
use Rattle.hn_sync.proofs.PeersSaid.{sign, signs, Ascend, signs_put, met_signs, hashed_sign, knows_at, endpoints_from_signs, ascend_from_signs}

-- endpoints change, but for what their signs say, the sender is named and notes are taken
pub record IsHeard (before after : Running) : Type 0 where
  pub ports : List Port
  pub gives : after ≡ record before { state = record before.state { ports = ports }; sender = after.sender; done = after.done }
  pub signed : signs ports ≡ signs before.state.ports

heard_noted : (n : Note) (r : Running) → IsHeard r (noted n r)
heard_noted n r = record { ports = r.state.ports; gives = refl; signed = refl }

heard_self : (r : Running) → IsHeard r r
heard_self r = record { ports = r.state.ports; gives = refl; signed = refl }

-- ---- a Node Endpoint

named_heard : (from : Origin) (node : NodeId) (endpoint : EpId) (port : Port) (r : Running) → from.multicast ≡ false → Ascend r.state.ports → port_at from.endpoint r.state.ports ≡ Some port
    → has_peer node endpoint port.peers ≡ true → IsHeard r (named from node endpoint port r)
named_heard from node endpoint port r unicast up found known =
    subst (λ (b : Bool). IsHeard r (met (cond b Known (cond from.multicast Unknown (cond (length port.peers == 64) Full Added))) after
    (with_port after (record r { sender = Some (node, endpoint) })))) (sym known)
    (record { ports = _; gives = refl; signed = signs_put from.endpoint r.state.ports port after up found same })
  where
    after : Port
    after = greeting_port from node endpoint r.state.moment port

    peer : Neighbour
    peer = record { node = node; endpoint = endpoint; contact = r.state.moment; addr = from.from }

    same : sign after ≡ sign port
    same = ap (λ (b : Bool). sign (record port { peers = cond b port.peers (greet.peers_heard peer port.peers) })) unicast ∙ (λ i. (port.id, met_signs peer port.peers known i))

pub endpoint_heard : (from : Origin) (node : NodeId) (endpoint : EpId) (r a : Running) → from.multicast ≡ false → Ascend r.state.ports → knows_at from.endpoint node endpoint r.state.ports ≡ true
    → AtPort from.endpoint (λ port b a. a ≡ node_endpoint from node endpoint port b) r a → IsHeard r a
endpoint_heard from node endpoint r a unicast up knows h = by_port (port_at from.endpoint r.state.ports) refl h
  where
    by_port : (o : Option Port) → port_at from.endpoint r.state.ports ≡ o → OnSome (λ port b a. a ≡ node_endpoint from node endpoint port b) o r a → IsHeard r a
    by_port None found is = subst (IsHeard r) (sym is) (heard_self r)
    by_port (Some port) found is =
        let known : has_peer node endpoint port.peers ≡ true = sym (ap (λ (o : Option Port). option_map_or (λ p. has_peer node endpoint p.peers) o false) found) ∙ knows in
        let greets = named from node endpoint port r in
        let third = cond (is_some r.sender) (noted (note.Ignored 3 5) r) greets in
        let second = cond (node.0 == r.state.id.0) (noted (note.Ignored 3 6) r) third in
        subst (IsHeard r) (sym is)
        (cond_both (endpoint.0 == 0) (noted (note.Ignored 3 7) r) second (IsHeard r) (λ _. heard_noted (note.Ignored 3 7) r)
        (λ _. cond_both (node.0 == r.state.id.0) (noted (note.Ignored 3 6) r) third (IsHeard r) (λ _. heard_noted (note.Ignored 3 6) r)
        (λ _. cond_both (is_some r.sender) (noted (note.Ignored 3 5) r) greets (IsHeard r) (λ _. heard_noted (note.Ignored 3 5) r)
        (λ _. named_heard from node endpoint port r unicast up found known))))

-- ---- a Network State

pub record IsCompared (before after : Running) : Type 0 where
  pub between : Running
  pub heard : IsHeard before between
  pub asks : (after ≡ between) ⊎ (after ≡ with_answer NetworkRequest (RequestNetwork []) between)

pub network_heard : (at : EpId) (hash : List ℕ) (r a : Running) → Ascend r.state.ports → AtPort at (λ port b a. a ≡ network_state hash port b) r a → IsCompared r a
network_heard at hash r a up h = by_port (port_at at r.state.ports) refl h
  where
    by_port : (o : Option Port) → port_at at r.state.ports ≡ o → OnSome (λ port b a. a ≡ network_state hash port b) o r a → IsCompared r a
    by_port None found is = record { between = r; heard = heard_self r; asks = inl is }
    by_port (Some port) found is =
        let same = bytes_eq hash r.state.net in
        let next = hashed same r.sender r.state.moment port in
        let between : Running = with_port next r in
        let heard : IsHeard r between = record { ports = _; gives = refl; signed = signs_put at r.state.ports port next up found (hashed_sign same r.sender r.state.moment port) } in
        subst (IsCompared r) (sym is)
        (cond_both (asks_for_state same r.state.moment port) (with_answer NetworkRequest (RequestNetwork []) between) between (IsCompared r)
        (λ _. record { between = between; heard = heard; asks = inr refl })
        (λ _. record { between = between; heard = heard; asks = inl refl }))

-- ---- endpoints with the same signs are endpoints of a router

pub ports_from_signs : (ports others : List Port) → signs ports ≡ signs others → ArePorts others → ArePorts ports
ports_from_signs ports others same are = record {
  ascending = ascend_from_signs ports others same are.ascending;
  few = subst (λ (n : ℕ). n ≤ 16) (sym (sym (length-map ports sign) ∙ ap length same ∙ length-map others sign)) are.few;
  numbered = all_of (λ (p : Port). (0 < p.id.0) × (p.id.0 < 2 ^ 32)) ports fits;
}
  where
    fits : (p : Port) → Contains ports p → (0 < p.id.0) × (p.id.0 < 2 ^ 32)
    fits p there =
        let in_ends = Contains-map (λ (q : Port). q.id) ports p there in
        let other = Contains-from_map (λ (q : Port). q.id) others p.id (subst (λ (es : List EpId). Contains es p.id) (endpoints_from_signs ports others same) in_ends) in
        let all = All-contains (λ (q : Port). (0 < q.id.0) × (q.id.0 < 2 ^ 32)) others other.0 are.numbered other.1 in
        subst (λ (e : EpId). (0 < e.0) × (e.0 < 2 ^ 32)) other.2 all
