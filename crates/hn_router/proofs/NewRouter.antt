-- A new router is one.
use Rattle.hn_base.proofs.Names.{◌≡◌, ◌<◌, ◌^◌, ◌∙◌, ℕ, List, [], ◌∷◌, ◌++◌, None, Some, map, filter, refl, sym, ap, subst, arith, All, is_none, All-nil, node_cmp, IsPrefix}
use Rattle.hn_router.proofs.Names.{nat_lt, IsTrue, NodeId, Assigned, IsInDelegated, Entry, Port, no_pairs, links_of, OwnItems, OwnAddress, is_attached, IsRangedHeld, IsRangedAddress, OwnPrefix}
use Rattle.hn_router.proofs.Names.{IsPrivateLength, IsWell}
use Rattle.std.specs.Prelude.{Contains, ◌↔◌}
use Rattle.std.specs.List.Sorted.{IsStrictlySortedBy}
use Rattle.hn_data.specs.declared.said.PeerLink.{PeerLink}
use Rattle.hn_pair.specs.declared.held.Held.{Held}
use Rattle.hn_pair.specs.Facts.{HasOwnPriority, IsAssignedPast, IsSoonDue}
use Rattle.hn_data.specs.View.{IsNetwork}
use Rattle.hn_graph.specs.Path.{IsReachable}
use Rattle.hn_graph.specs.Laws.{OwnIsReachable, ReachableIsANode}
use Rattle.hn_dncp.specs.Peers.{ArePeers}
use Rattle.hn_store.specs.Nodes.{Nodes, held, IsTable}
use Rattle.hn_store.specs.Loss.{is_among}
use Rattle.hn_store.specs.declared.stored.HeldNode.{HeldNode}
use Rattle.hn_store.specs.Laws.{NoNodesAreTable}
use Rattle.hn_own.specs.HeldPairs.{AreHeldPairs}
use Rattle.hn_own.specs.OwnPrefixes.{AreOwnPrefixes}
use Rattle.hn_own.specs.Addresses.{AreAddresses}
use Rattle.hn_own.specs.Ports.{ArePorts}
use Rattle.hn_own.specs.Ranges.{IsRangedPeer}
use Rattle.hn_rules.specs.Nodes.{held_entry, own_entry, nodes_of}
use Rattle.hn_rules.specs.Router.{IsPortPast, IsNodePast, EndsInRange, WasReach}
use Rattle.hn_router.specs.Laws.{NewIsRouter}
use Rattle.hn_base.proofs.AscendingLists.{Contains-one}

-- its own node is the only one
module _ (own : ℕ) (node : Entry) (here : node.id.0 ≡ own) (own_is_reachable : OwnIsReachable) (reachable_is_a_node : ReachableIsANode) where
  alone : IsNetwork own (node ∷ [])
  unfolding IsStrictlySortedBy
  alone = record { ascending = (tt, tt); own_is_there = (0, omega arith, here) }

  alone_reached : (id y : NodeId) → id.0 ≡ own → Contains (id ∷ []) y ↔ IsReachable own (node ∷ []) y.0
  alone_reached id y is_own = (
    λ is. let same = Contains-one id y is in
        subst (IsReachable own (node ∷ [])) (sym is_own ∙ ap (λ (i : NodeId). i.0) same) (own_is_reachable own (node ∷ []) alone),
    λ reachable. let same = Contains-one node.id.0 y.0 (reachable_is_a_node own (node ∷ []) y.0 reachable) in
        (0, omega arith, ap (λ (n : ℕ). let i : NodeId = record { 0 = n } in i) (is_own ∙ sym here ∙ same)),
  )

alone_ascending : (id : NodeId) → IsStrictlySortedBy node_cmp (id ∷ [])
unfolding IsStrictlySortedBy
alone_ascending id = (tt, tt)

nothing_held : AreHeldPairs no_pairs
unfolding IsStrictlySortedBy
nothing_held = record { assigned = tt; backoffs = tt; few = omega arith; inside = All-nil IsInDelegated; priority = All-nil HasOwnPriority }

pub new_is_one : NoNodesAreTable → ArePorts [] → AreOwnPrefixes [] → AreAddresses [] → OwnIsReachable → ReachableIsANode → NewIsRouter
new_is_one none no_endpoints no_delegated no_address own_is_reachable reachable_is_a_node id limit now s fits sized new =
    record { well = well; refreshed = record { published = sym new.items_are; reached = reached; lost = lost; hashed = new.net_is } }
  where
    links : s.own.items.links ≡ []
    links = ap (λ (items : OwnItems). items.links) new.items_are ∙ ap links_of new.ports_are

    well : IsWell s
    well = record {
      ports = subst ArePorts (sym new.ports_are) no_endpoints;
      peers = subst (λ (ports : List Port). All (λ port. ArePeers port.peers) ports) (sym new.ports_are) (All-nil (λ (port : Port). ArePeers port.peers));
      table = subst IsTable (sym new.table_is) (none limit sized);
      own = new.own_is;
      delegated = subst AreOwnPrefixes (sym new.no_prefixes) no_delegated;
      pairs = subst AreHeldPairs (sym new.nothing_held) nothing_held;
      other = subst (λ (nodes : Nodes). held nodes.entries s.id.0 ≡ None) (sym new.table_is) refl;
      addresses = subst AreAddresses (sym new.no_addresses) no_address;
      posted = record {
        addressed = subst (All (λ a. IsTrue (is_attached a.0 s.ports))) (sym new.no_addresses) (All-nil (λ (a : OwnAddress). IsTrue (is_attached a.0 s.ports)));
        of_length = subst (λ (pairs : Held). All (λ c. c.endpoint.0 ≡ 0 → Some c.prefix.len ≡ s.private) pairs.assigned) (sym new.nothing_held)
            (All-nil (λ (c : Assigned). c.endpoint.0 ≡ 0 → Some c.prefix.len ≡ s.private));
        linked = subst (All (λ link. 0 < link.endpoint.0)) (sym links) (All-nil (λ (link : PeerLink). 0 < link.endpoint.0));
      };
      numbered = record {
        own = rw new.number_is (omega arith);
        held = subst (λ (nodes : Nodes). All (λ node. node.stored.number < 2 ^ 32) nodes.entries) (sym new.table_is) (All-nil (λ (node : HeldNode). node.stored.number < 2 ^ 32));
        own_id = rw new.id_is fits;
        held_ids = subst (λ (nodes : Nodes). All (λ node. node.id.0 < 2 ^ 32) nodes.entries) (sym new.table_is) (All-nil (λ (node : HeldNode). node.id.0 < 2 ^ 32));
      };
      past = record {
        born = rw (new.born_is, new.moment_is) (omega arith);
        ports = subst (All (IsPortPast s.moment)) (sym new.ports_are) (All-nil (IsPortPast s.moment));
        nodes = subst (λ (nodes : Nodes). All (IsNodePast s.moment) nodes.entries) (sym new.table_is) (All-nil (IsNodePast s.moment));
        assigned = subst (λ (pairs : Held). All (IsAssignedPast s.moment) pairs.assigned) (sym new.nothing_held) (All-nil (IsAssignedPast s.moment));
      };
      ranged = record {
        peers = subst (λ (ports : List Port). All (λ port. All IsRangedPeer port.peers) ports) (sym new.ports_are) (All-nil (λ (port : Port). All IsRangedPeer port.peers));
        delegated = subst (All (λ p. IsPrefix p.prefix)) (sym new.no_prefixes) (All-nil (λ (p : OwnPrefix). IsPrefix p.prefix));
        assigned = subst (λ (pairs : Held). All IsRangedHeld pairs.assigned) (sym new.nothing_held) (All-nil IsRangedHeld);
        addresses = subst (All IsRangedAddress) (sym new.no_addresses) (All-nil IsRangedAddress);
      };
      private = subst IsPrivateLength (sym new.no_private) tt;
      near = record {
        backoffs = subst (λ (pairs : Held). All (IsSoonDue s.moment) pairs.backoffs) (sym new.nothing_held) (All-nil (IsSoonDue s.moment));
        ends = subst (All (EndsInRange s.moment)) (sym new.no_prefixes) (All-nil (EndsInRange s.moment));
      };
    }

    lost : All (λ node. is_among s.reach node.id.0 ≡ is_none node.stored.lost) s.table.entries
    lost = subst (λ (nodes : Nodes). All (λ node. is_among s.reach node.id.0 ≡ is_none node.stored.lost) nodes.entries) (sym new.table_is)
        (All-nil (λ (node : HeldNode). is_among s.reach node.id.0 ≡ is_none node.stored.lost))

    nodes_are : nodes_of s ≡ own_entry s ∷ []
    nodes_are =
        ap (λ (nodes : Nodes). filter (λ n. nat_lt n.id.0 s.id.0) (map (held_entry s.moment) nodes.entries)
        ++ own_entry s ∷ filter (λ n. nat_lt s.id.0 n.id.0) (map (held_entry s.moment) nodes.entries)) new.table_is

    exactly : (y : NodeId) → Contains s.reach y ↔ IsReachable s.id.0 (nodes_of s) y.0
    exactly y =
        let one = alone_reached s.id.0 (own_entry s) refl own_is_reachable reachable_is_a_node id y (ap (λ (i : NodeId). i.0) (sym new.id_is)) in
        rw (new.reach_is, nodes_are) one

    reached : WasReach s
    reached = record {
      moment = s.moment;
      past = omega arith;
      was = record { ascending = subst (IsStrictlySortedBy node_cmp) (sym new.reach_is) (alone_ascending id); exactly = exactly };
    }
