-- Paths from node to node, and the nodes that are reachable (RFC 7787, section 4.6).
use Rattle.std.specs.Prelude.{◌≡◌, ℕ, ◌-◌, ◌^◌, ◌<◌, List, Some, length, take, slice_get, All, Contains}
use Rattle.std.specs.List.{AllAdjacentBelow}
use Rattle.hn_data.specs.Peers.{IsLinked}
use Rattle.hn_data.specs.View.{ids_of}
use Rattle.hn_data.specs.declared.view.Entry.{Entry}

-- some endpoint of one node is linked with some endpoint of the other
pub record AreAdjacent (x y : Entry) : Type 0 where
  pub here : ℕ
  pub there : ℕ
  pub linked : IsLinked x.body x.id.0 here y.body y.id.0 there

-- the node's data was published less than 2^32 - 2^15 ms ago
abbrev pub IsLeadingOn : Entry → Type 0
IsLeadingOn x = x.age < 2 ^ 32 - 2 ^ 15

-- A path to y is a list of nodes, from the own node to y. Each node and the next are adjacent. The data of each node
-- but the last are recent.
pub record IsPath (own : ℕ) (nodes : List Entry) (y : ℕ) (path : List Entry) : Type 0 where
  pub of_nodes : All (λ x. Contains nodes x) path
  pub from_own : slice_get (ids_of path) 0 ≡ Some own
  pub to_y : slice_get (ids_of path) (length path - 1) ≡ Some y
  pub adjacent : AllAdjacentBelow AreAdjacent path (length path)
  pub recent : All IsLeadingOn (take (length path - 1) path)

-- some path leads to y
abbrev pub IsReachable : ℕ → List Entry → ℕ → Type 0
IsReachable own nodes y = (path : List Entry) × IsPath own nodes y path
