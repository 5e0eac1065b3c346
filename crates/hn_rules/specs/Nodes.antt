-- The nodes that a router knows: its own and those of its table (RFC 7787, sections 2 and 4.6).
use Rattle.std.specs.Prelude.{ℕ, ◌+◌, ◌-◌, ◌==◌, nat_lt, if◌then◌else◌, List, ◌∷◌, ◌++◌, map, filter, Option, Some, Contains, ◌↔◌}
use Rattle.std.specs.Option.{option_map}
use Rattle.std.specs.List.{filter_map}
use Rattle.std.specs.List.Sorted.{IsStrictlySortedBy}
use Rattle.hn_base.specs.NodeIds.{node_cmp}
use Rattle.hn_base.specs.declared.ids.NodeId.{NodeId}
use Rattle.hn_hash.specs.declared.part.Part.{Part}
use Rattle.hn_hash.specs.declared.leaf.Leaf.{Leaf}
use Rattle.hn_data.specs.declared.view.Entry.{Entry}
use Rattle.hn_graph.specs.Path.{IsReachable}
use Rattle.hn_store.specs.Nodes.{held}
use Rattle.hn_store.specs.Acceptance.{known_of}
use Rattle.hn_store.specs.declared.state.OwnLeaf.{OwnLeaf}
use Rattle.hn_store.specs.declared.stored.Stored.{Stored}
use Rattle.hn_store.specs.declared.stored.HeldNode.{HeldNode}
use Rattle.hn_rules.specs.declared.state.State.{State}

-- the age of held node data: the age with which it arrived, and the time since then (RFC 7787, section 7.2.3)
abbrev pub age_at : ℕ → Stored → ℕ
age_at now stored = stored.age + (now - stored.at)

-- a held node
abbrev pub held_entry : ℕ → HeldNode → Entry
held_entry now node = record { id = node.id; number = node.stored.number; age = age_at now node.stored; body = node.stored.body }

-- the own node
abbrev pub own_entry : State → Entry
own_entry s = record { id = s.id; number = s.number; age = s.moment - s.own.born; body = s.own.body }

-- the held nodes
abbrev pub held_entries : State → List Entry
held_entries s = map (held_entry s.moment) s.table.entries

-- the nodes that a router knows at its moment, in ascending order of their identifiers: the own one at its place among
-- the held ones
abbrev pub nodes_of : State → List Entry
nodes_of s =
    filter (λ n. nat_lt n.id.0 s.id.0) (held_entries s) ++ own_entry s ∷ filter (λ n. nat_lt s.id.0 n.id.0) (held_entries s)

-- the reachable nodes, in strictly ascending order
pub record IsReach (s : State) (reach : List NodeId) : Type 0 where
  pub ascending : IsStrictlySortedBy node_cmp reach
  pub exactly : (id : NodeId) → Contains reach id ↔ IsReachable s.id.0 (nodes_of s) id.0

-- the node of an identifier, if it is the own one or is held
abbrev pub entry_of : State → NodeId → Option Entry
entry_of s id =
    if id.0 == s.id.0 then Some (own_entry s)
    else option_map (λ stored. held_entry s.moment (record { id = id; stored = stored })) (held s.table.entries id.0)

-- what a router sees: the nodes that were reachable at the last refresh, at the router's moment
abbrev pub view_of : State → List Entry
view_of s = filter_map (entry_of s) s.reach

-- their leaves: sequence numbers and node data
abbrev pub leaf_of : Entry → Leaf
leaf_of n = record { number = n.number; body = n.body }

abbrev pub leaves_of : State → List Leaf
leaves_of s = map leaf_of (view_of s)

-- the own node, as the table compares it
abbrev pub own_leaf : State → OwnLeaf
own_leaf s = record { id = s.id; number = s.number; hash = s.own.hash }

-- a node's part of the network state, with the hash that is kept of its node data
abbrev pub part_of : State → NodeId → Option Part
part_of s id = known_of s.table.entries (own_leaf s) id.0

-- the parts of the reachable nodes, in ascending order of identifier (RFC 7787, section 4.1)
abbrev pub parts_of : State → List Part
parts_of s = filter_map (part_of s) s.reach
