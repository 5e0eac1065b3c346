-- What is within the limits of a world's version: what its routers hold, and the datagrams that were ever sent.
use Rattle.std.specs.Prelude.{◌≡◌, ◌≤◌, ◌<◌, length, All}
use Rattle.hn_base.specs.declared.version.Version.{Version}
use Rattle.hn_rules.specs.declared.state.State.{State}
use Rattle.hn_rules.specs.Lengths.{most_datagram}
use Rattle.hn_rules.specs.Router.{IsRouter}
use Rattle.hn_world.specs.declared.parts.Parts.{Parts}
use Rattle.hn_world.specs.Limits.{table_limit}

-- a router: the nodes that it holds and the node data of each, its endpoints and the peers of each, its own delegated
-- prefixes, its addresses, its assignments, and its own node data
pub record IsWithinLimits (version : Version) (s : State) : Type 0 where
  pub nodes : length s.table.entries ≤ table_limit version
  pub bodies : All (λ node. length node.stored.body ≤ 60000) s.table.entries
  pub endpoints : length s.ports ≤ 16
  pub peers : All (λ port. length port.peers ≤ 64) s.ports
  pub prefixes : length s.delegated ≤ 8
  pub addresses : length s.addresses ≤ 64
  pub assigned : length s.held.assigned ≤ 544
  pub own : length s.own.body < 36864

-- A router of which each router's facts hold is within the limits of a version whose limit its table has.
abbrev pub RouterIsWithinLimits : Type 0
RouterIsWithinLimits = (version : Version) (s : State) → IsRouter s → s.table.limit ≡ table_limit version → IsWithinLimits version s

-- each router of a world, and each copy of a datagram, also one that waits no longer
pub record AreWithinLimits (w : Parts) : Type 0 where
  pub routers : All (λ m. IsWithinLimits w.version m.router) w.members
  pub datagrams : All (λ c. length c.bytes ≤ most_datagram) w.copies
