-- What holds of a router after each event.
use Rattle.std.specs.Prelude.{◌≡◌, ℕ, ◌+◌, ◌-◌, ◌*◌, ◌^◌, ◌<◌, ◌≤◌, is_none, IsTrue, Option, None, Some, List, All}
use Rattle.hn_typed.specs.Fields.{IsHash}
use Rattle.hn_dncp.specs.Peers.{ArePeers}
use Rattle.hn_dncp.specs.declared.port.Port.{Port}
use Rattle.hn_store.specs.Nodes.{held, IsTable}
use Rattle.hn_store.specs.Loss.{is_among}
use Rattle.hn_store.specs.declared.stored.HeldNode.{HeldNode}
use Rattle.hn_rules.specs.declared.state.State.{State}
use Rattle.hn_pair.specs.Facts.{IsAssignedPast, IsSoonDue}
use Rattle.hn_pair.specs.declared.held.Held.{Held}
use Rattle.hn_own.specs.declared.own_prefixes.OwnPrefix.{OwnPrefix}
use Rattle.hn_own.specs.Addresses.{AreAddresses}
use Rattle.hn_own.specs.Own.{IsOwnData, links_of}
use Rattle.hn_own.specs.OwnPrefixes.{AreOwnPrefixes}
use Rattle.hn_own.specs.HeldPairs.{AreHeldPairs}
use Rattle.hn_own.specs.Ports.{ArePorts, is_attached}
use Rattle.hn_own.specs.Ranges.{IsRangedOwn}
use Rattle.hn_rules.specs.Given.{IsPrivateLength}
use Rattle.hn_rules.specs.Nodes.{IsReach}
use Rattle.hn_rules.specs.Refresh.{own_items, network_state_hash}

-- so it is of the moment, if there is one
abbrev pub IfThere : (ℕ → Type 0) → Option ℕ → Type 0
IfThere P None = Unit {0}
IfThere P (Some moment) = P moment

-- nothing of an endpoint happened after that moment
pub record IsPortPast (now : ℕ) (port : Port) : Type 0 where
  pub begun : port.trickle.begin ≤ now
  pub sent : port.sent ≤ now
  pub asked : IfThere (λ moment. moment ≤ now) port.asked
  pub heard : All (λ peer. peer.contact ≤ now) port.peers

-- nothing of a held node happened after that moment
pub record IsNodePast (now : ℕ) (node : HeldNode) : Type 0 where
  pub arrived : node.stored.at ≤ now
  pub lost : IfThere (λ moment. moment ≤ now) node.stored.lost

-- No moment of something that happened is after the router's.
pub record IsPast (s : State) : Type 0 where
  pub born : s.own.born ≤ s.moment
  pub ports : All (IsPortPast s.moment) s.ports
  pub nodes : All (IsNodePast s.moment) s.table.entries
  pub assigned : All (IsAssignedPast s.moment) s.held.assigned

-- the sequence numbers and the identifiers have 32 bits
pub record IsNumbered (s : State) : Type 0 where
  pub own : s.number < 2 ^ 32
  pub held : All (λ node. node.stored.number < 2 ^ 32) s.table.entries
  pub own_id : s.id.0 < 2 ^ 32
  pub held_ids : All (λ node. node.id.0 < 2 ^ 32) s.table.entries

-- The own addresses and the private post fit the router. No Peer of the node data published last is of endpoint 0, so the
-- private post is alone on its link.
pub record IsPosted (s : State) : Type 0 where
  -- each own address is of an attached endpoint
  pub addressed : All (λ a. IsTrue (is_attached a.0 s.ports)) s.addresses
  -- each assignment of the private post has the private length
  pub of_length : All (λ c. c.endpoint.0 ≡ 0 → Some c.prefix.len ≡ s.private) s.held.assigned
  pub linked : All (λ link. 0 < link.endpoint.0) s.own.items.links

-- the lifetimes of an own delegated prefix end within 2^32 s, where they end
pub record EndsInRange (now : ℕ) (own : OwnPrefix) : Type 0 where
  pub valid : IfThere (λ moment. moment ≤ now + 1000 * 2 ^ 32) own.valid_until
  pub preferred : IfThere (λ moment. moment ≤ now + 1000 * 2 ^ 32) own.preferred_until

-- Moments to come are near: each backoff is due within 4,000 ms, and the lifetimes of own delegated prefixes end within
-- 2^32 s. So they are below 2^49, where the router's moment is at most 2^48.
pub record IsNear (now : ℕ) (delegated : List OwnPrefix) (held : Held) : Type 0 where
  pub backoffs : All (IsSoonDue now) held.backoffs
  pub ends : All (EndsInRange now) delegated

-- What each rule keeps: the containers' facts, the own identifier is not held, moments and numbers are in range, the
-- numbers of the own items and of the private link fit, and moments to come are near.
pub record IsWell (s : State) : Type 0 where
  pub ports : ArePorts s.ports
  pub peers : All (λ port. ArePeers port.peers) s.ports
  pub table : IsTable s.table
  pub own : IsOwnData s.own
  pub delegated : AreOwnPrefixes s.delegated
  pub other : held s.table.entries s.id.0 ≡ None
  pub pairs : AreHeldPairs s.held
  pub addresses : AreAddresses s.addresses
  pub posted : IsPosted s
  pub numbered : IsNumbered s
  pub past : IsPast s
  pub ranged : IsRangedOwn s.ports s.delegated s.held s.addresses
  pub private : IsPrivateLength s.private
  pub near : IsNear s.moment s.delegated s.held

-- What each rule keeps, and the network state hash is one of 8 bytes.
pub record IsHashed (s : State) : Type 0 where
  pub well : IsWell s
  pub hash : IsHash s.net

-- the reachable nodes are those of some moment that is not after the router's
pub record WasReach (s : State) : Type 0 where
  pub moment : ℕ
  pub past : moment ≤ s.moment
  pub was : IsReach (record s { moment = moment }) s.reach

-- What a refresh makes: the own items are published, what is reachable was so, a held node has a moment of loss if and
-- only if it is not reachable, and the network state hash is that of the reachable nodes.
pub record IsRefreshed (s : State) : Type 0 where
  pub published : own_items s ≡ s.own.items
  pub reached : WasReach s
  pub lost : All (λ node. is_among s.reach node.id.0 ≡ is_none node.stored.lost) s.table.entries
  pub hashed : s.net ≡ network_state_hash s

-- What a refresh makes, at the moment of the refresh: the same nodes are reachable, and the own node data are young. So
-- another refresh changes nothing.
pub record IsJustRefreshed (s : State) : Type 0 where
  pub refreshed : IsRefreshed s
  pub reached : IsReach s s.reach
  pub young : s.moment - s.own.born < 2 ^ 32 - 2 ^ 16

-- only endpoints have changed, and nothing that the router says of their peers
pub record IsUntouched (before after : State) : Type 0 where
  pub links : links_of after.ports ≡ links_of before.ports
  pub gives : after ≡ record before { ports = after.ports }

-- what holds of a router after each event
pub record IsRouter (s : State) : Type 0 where
  pub well : IsWell s
  pub refreshed : IsRefreshed s
