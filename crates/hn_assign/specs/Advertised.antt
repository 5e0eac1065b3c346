-- Advertised prefixes and their order (RFC 7695, sections 2 and 4.1).
use Rattle.std.specs.Prelude.{ℕ, List, Contains}
use Rattle.std.specs.declared.cmp.Ordering.{Ordering}
use Rattle.std.specs.Ordering.{on, then_cmp}
use Rattle.hn_base.specs.declared.key.Key.{Key}
use Rattle.hn_base.specs.Key.{key_cmp}
use Rattle.hn_base.specs.declared.ids.NodeId.{NodeId}
use Rattle.hn_base.specs.declared.ids.EpId.{EpId}
use Rattle.hn_base.specs.Prefix.{prefix_cmp}
use Rattle.hn_assign.specs.declared.advertised.Advertised.{Advertised}

-- the endpoints of one link, as a router knows them: each with its node
abbrev pub LinkEndpoints : Type 0
LinkEndpoints = List (NodeId × EpId)

-- the key of a node's assignment on one of its endpoints
abbrev pub key_of : ℕ → ℕ → ℕ → Key
key_of priority node endpoint = record { priority = priority; node = record { 0 = node }; endpoint = record { 0 = endpoint } }

-- advertised on an endpoint of the link
abbrev pub IsAdvertisedOnLink : LinkEndpoints → Advertised → Type 0
IsAdvertisedOnLink common a = Contains common (a.key.node, a.key.endpoint)

-- advertised prefixes in order: by key, then by prefix
abbrev pub advertised_cmp : Advertised → Advertised → Ordering
advertised_cmp = then_cmp (on (λ a. a.key) key_cmp) (on (λ a. a.prefix) prefix_cmp)
