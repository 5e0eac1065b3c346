-- Nodes that are lost: held, and not reachable (RFC 7787, section 4.6).
use Rattle.std.specs.Prelude.{ℕ, ◌+◌, Bool, false, not, ◌==◌, nat_le, if◌then◌else◌, List, map, filter, Option, Some, None, unwrap_or, is_some, is_none}
use Rattle.std.specs.List.{list_any}
use Rattle.std.specs.Option.{option_map_or}
use Rattle.hn_base.specs.declared.ids.NodeId.{NodeId}
use Rattle.hn_store.specs.declared.stored.HeldNode.{HeldNode}
use Rattle.hn_store.specs.Nodes.{Nodes}

-- the node is among these
abbrev pub is_among : List NodeId → ℕ → Bool
is_among ids node = list_any (λ id. id.0 == node) ids

-- the moment of loss: none of a node that is reachable, of another the first moment at which it was not
abbrev pub lost_after : Bool → ℕ → Option ℕ → Option ℕ
lost_after reachable now lost = if reachable then None else Some (unwrap_or lost now)

-- a node with its moment of loss as it is then
abbrev pub marked_node : List NodeId → ℕ → HeldNode → HeldNode
marked_node reach now node = record node { stored = record node.stored { lost = lost_after (is_among reach node.id.0) now node.stored.lost } }

-- the nodes with their moments of loss as they are then
abbrev pub loss_marked : List NodeId → ℕ → Nodes → Nodes
loss_marked reach now nodes = record nodes { entries = map (marked_node reach now) nodes.entries }

-- its moment of loss changes then: it is reachable and has one, or is not and has none
abbrev pub is_to_mark : List NodeId → HeldNode → Bool
is_to_mark reach node = if is_among reach node.id.0 then is_some node.stored.lost else is_none node.stored.lost

-- lost for 42,000 ms or more
abbrev pub is_forgotten : ℕ → HeldNode → Bool
is_forgotten now node = option_map_or (λ moment. nat_le (moment + 42000) now) node.stored.lost false

-- the nodes without those that are forgotten
abbrev pub remembered : ℕ → Nodes → Nodes
remembered now nodes = record nodes { entries = filter (λ node. not (is_forgotten now node)) nodes.entries }
