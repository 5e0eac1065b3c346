-- A refresh: publish where due, reachability, moments of loss, the network state hash, resets of Trickle (RFC 7787,
-- sections 4.1, 4.3, 4.4 and 4.6).
use Rattle.std.specs.Prelude.{◌≡◌, ◌≢◌, ℕ, ◌+◌, ◌-◌, ◌%◌, ◌^◌, ◌<◌, ◌⊎◌, List, [], ◌∷◌, ◌++◌}
use Rattle.hn_base.specs.declared.ids.NodeId.{NodeId}
use Rattle.hn_hash.specs.Hash.{hash_of}
use Rattle.hn_hash.specs.Network.{part_text}
use Rattle.hn_timers.specs.Interval.{interval_from}
use Rattle.hn_dncp.specs.declared.port.Port.{Port}
use Rattle.hn_store.specs.Loss.{loss_marked}
use Rattle.hn_own.specs.declared.own.OwnItems.{OwnItems}
use Rattle.hn_rules.specs.declared.state.State.{State}
use Rattle.hn_rules.specs.declared.running.Running.{Running}
use Rattle.hn_own.specs.Own.{links_of, IsOwnData, PlainData}
use Rattle.hn_own.specs.HeldPairs.{published_in}
use Rattle.hn_own.specs.Ports.{endpoints_of}
use Rattle.hn_rules.specs.Nodes.{IsReach, parts_of}
use Rattle.hn_base.specs.Rules.{Then, Each}
use Rattle.hn_rules.specs.Rules.{Rule, AtPort, with_words, with_port}

-- the own items as they are now: the capabilities, a Peer for each peer of each endpoint, the own delegated prefixes, the
-- assignments that are published, and the own addresses
abbrev pub own_items : State → OwnItems
own_items s = record {
  caps = s.caps;
  links = links_of s.ports;
  delegated = s.delegated;
  assigned = published_in s.held.assigned;
  addresses = s.addresses;
}

-- the router publishes its present items with this sequence number; the age of its node data is 0 then
pub record Publishes (number : ℕ) (before after : Running) : Type 0 where
  pub own : PlainData
  pub data_is : IsOwnData own
  pub items_are : own.items ≡ own_items before.state
  pub born_is : own.born ≡ before.state.moment
  pub gives : after ≡ record before {
    state = record before.state { number = number; own = own };
    done = record before.done { published = before.done.published ++ record { id = before.state.id; number = number; body = own.body } ∷ [] };
  }

-- the own items are those last published, lifetimes compared as the moments at which they end, and their node data is younger than 2^32 - 2^16 ms (RFC 7787, section 7.2.3)
pub record IsPublished (s : State) : Type 0 where
  pub same : own_items s ≡ s.own.items
  pub young : s.moment - s.own.born < 2 ^ 32 - 2 ^ 16

-- the sequence number after this one
abbrev pub next_number : ℕ → ℕ
next_number number = (number + 1) % 2 ^ 32

-- Publish where due: with the next sequence number where the own items differ from those last published or their node
-- data is old.
abbrev pub IsPublishing : Rule
IsPublishing before after =
    (IsPublished before.state × (after ≡ before))
    ⊎ (¬ (IsPublished before.state) × Publishes (next_number before.state.number) before after)

-- Reachability at the present moment, and moments of loss: a held node that is not reachable and has no moment of loss
-- gets the present one, and a reachable node has none (RFC 7787, section 4.6).
pub record IsReaching (before after : Running) : Type 0 where
  pub reach : List NodeId
  pub is_reach : IsReach before.state reach
  pub gives : after ≡ record before { state = record before.state { reach = reach; table = loss_marked reach before.state.moment before.state.table } }

-- the network state hash of the reachable nodes
abbrev pub network_state_hash : State → List ℕ
network_state_hash s = hash_of (part_text (parts_of s))

-- Trickle of an endpoint is reset to its shortest interval, which takes a word; an interval of the shortest length goes
-- on (RFC 6206, section 4.2, step 6)
abbrev pub IsPortReset : Port → Rule
IsPortReset port before after =
    ((port.trickle.len ≡ 200) × (after ≡ before))
    ⊎ ((port.trickle.len ≢ 200)
    × ((word : ℕ) × (after ≡ with_words (word ∷ []) (with_port (record port { trickle = interval_from before.state.moment 200 word }) before))))

-- Trickle is reset on each endpoint, in ascending order
abbrev pub IsReset : Rule
IsReset before after = Each (λ at. AtPort at IsPortReset) (endpoints_of before.state.ports) before after

-- The network state hash: where it is another than before, Trickle is reset (RFC 7787, section 4.3).
abbrev pub IsHashing : Rule
IsHashing before after =
    ((network_state_hash before.state ≡ before.state.net) × (after ≡ before))
    ⊎ ((network_state_hash before.state ≢ before.state.net)
    × IsReset (record before { state = record before.state { net = network_state_hash before.state } }) after)

-- the rule
abbrev pub IsRefresh : Rule
IsRefresh = Then IsPublishing (Then IsReaching IsHashing)
