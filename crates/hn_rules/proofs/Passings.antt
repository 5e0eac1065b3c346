-- What an arrival makes of a status update that is let pass.
use Rattle.hn_base.proofs.Names.{◌≡◌, ◌≢◌, ◌∙◌, ℕ, Bool, true, false, List, [], ◌∷◌, ◌++◌, Option, Some, None, inl, refl, sym, ap, ◌||◌, option_map_or, bytes_eq, cond-false, ne_eqb, IsLinkLocal}
use Rattle.hn_rules.proofs.Names.{not, is_some, NodeId, EpId, may_ask, hashed, has_peer, Port, ArePorts, port_at, put_port, Origin, Running, State, IsTlvRule, IsTlvs, IsArrival, compared}
use Rattle.hn_rules.proofs.Names.{network_state, node_endpoint, IsStatusUpdate, IsJustRefreshed, AtPort, begun_at, with_port}
use Rattle.hn_typed.specs.Item as item
use Rattle.hn_rules.specs.Passing.{IsLetPass}
use Rattle.hn_rules.proofs.AtPorts.{at_port}
use Rattle.hn_rules.proofs.RefreshChangesNothing.{same_refresh}
use Rattle.hn_rules.proofs.Refreshes.{just_refreshed_untouched}
use Rattle.hn_rules.proofs.Resting.{named_stays, compared_stays}
use Rattle.hn_rules.proofs.TouchesNothingRead.{network_state_untouched}

-- A status update by multicast at an endpoint: its Node Endpoint changes nothing there, and at its moment another refresh
-- changes nothing.
pub record IsPassing (from : Origin) (bytes : List ℕ) (now : ℕ) (s : State) (node : NodeId) (endpoint : EpId) (hash : List ℕ) (port : Port) : Type 0 where
  pub multicast : from.multicast ≡ true
  pub near : IsLinkLocal from.from.ip
  pub ports : ArePorts s.ports
  pub found : Some port ≡ port_at from.endpoint s.ports
  pub update : IsStatusUpdate bytes node endpoint hash
  pub numbered : endpoint.0 ≢ 0
  pub other : node.0 ≢ s.id.0
  pub stays : (has_peer node endpoint port.peers || not (may_ask now port.asked)) ≡ true
  pub fresh : IsJustRefreshed (record s { moment = now })

module _ (from : Origin) (bytes : List ℕ) (now : ℕ) (s : State) (node : NodeId) (endpoint : EpId) (hash : List ℕ) (port : Port)
    (passes : IsPassing from bytes now s node endpoint hash port) where
  abbrev start : Running
  start = begun_at now s

  -- the sender is named
  abbrev named : Running
  named = record start { sender = Some (node, endpoint) }

  names : AtPort from.endpoint (λ port b a. a ≡ node_endpoint from node endpoint port b) start named
  names =
      at_port from.endpoint port s.ports (λ port b a. a ≡ node_endpoint from node endpoint port b) start named passes.found refl
      (sym (cond-false _ _ _ (ne_eqb endpoint.0 0 passes.numbered) ∙ cond-false _ _ _ (ne_eqb node.0 s.id.0 passes.other)
      ∙ named_stays from node endpoint port start passes.multicast passes.stays passes.ports (sym passes.found)))

  first : IsTlvRule from passes.update.first start named
  first = inl (item.NodeEndpoint node.0 endpoint.0 passes.update.within_first, passes.update.sender, names)

  -- where the Network State leaves a router on which another refresh changes nothing, that is all
  arrived : (after : Running) → AtPort from.endpoint (λ port b a. a ≡ network_state hash port b) named after → after.done ≡ named.done → after.answers ≡ named.answers
      → IsArrival from (passes.update.first ∷ passes.update.second ∷ []) start after
  arrived after states same_done none = (after, tlvs, record { datagrams = []; packed = rw none refl; gives = gives })
    where
      second : IsTlvRule from passes.update.second named after
      second = inl (item.NetworkState hash passes.update.within_second, passes.update.state, states)

      fresh : IsJustRefreshed after.state
      fresh = just_refreshed_untouched named.state after.state (network_state_untouched from hash named after passes.ports states) passes.fresh

      tlvs : IsTlvs from (passes.update.first ∷ passes.update.second ∷ []) start after
      tlvs = (named, (named, first, same_refresh named passes.fresh), (after, (after, second, same_refresh after fresh), refl))

      gives : after ≡ record after { done = record after.done { sends = after.done.sends ++ [] }; answers = [] }
      gives = rw (same_done, none) refl

  -- the endpoint hears the local network state hash
  abbrev heard : Port → List Port
  heard p = put_port (hashed true (Some (node, endpoint)) now p) s.ports

  abbrev hearing : Running
  hearing = with_port (hashed true (Some (node, endpoint)) now port) named

  pub heard_passes : bytes_eq hash s.net ≡ true → IsLetPass from bytes now s (record { endpoint = from.endpoint; heard = Some (node, endpoint) })
  heard_passes same = record {
    attached = ap is_some (sym passes.found);
    near = passes.near;
    tlvs = passes.update.first ∷ passes.update.second ∷ [];
    list = passes.update.list;
    after = hearing;
    arrives = arrived hearing states refl refl;
    state = ap (λ (o : Option Port). let a : State = record s { moment = now; ports = option_map_or heard o s.ports } in a) passes.found;
    done = refl;
  }
    where
      states : AtPort from.endpoint (λ port b a. a ≡ network_state hash port b) named hearing
      states =
          at_port from.endpoint port s.ports (λ port b a. a ≡ network_state hash port b) named hearing passes.found refl
          (ap (λ (b : Bool). compared b port named) (sym same))

  pub other_passes : bytes_eq hash s.net ≡ false → may_ask now port.asked ≡ false → IsLetPass from bytes now s (record { endpoint = from.endpoint; heard = None })
  other_passes other not_now = record {
    attached = ap is_some (sym passes.found);
    near = passes.near;
    tlvs = passes.update.first ∷ passes.update.second ∷ [];
    list = passes.update.list;
    after = named;
    arrives = arrived named states refl refl;
    state = refl;
    done = refl;
  }
    where
      states : AtPort from.endpoint (λ port b a. a ≡ network_state hash port b) named named
      states =
          at_port from.endpoint port s.ports (λ port b a. a ≡ network_state hash port b) named named passes.found refl
          (compared_stays from.endpoint (bytes_eq hash s.net) port named other not_now passes.ports (sym passes.found))
