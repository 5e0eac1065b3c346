-- What the parts of the search for reachable nodes do. A node is named by its place among all nodes.
use Rattle.std.specs.Prelude.{◌≡◌, ℕ, ◌+◌, ◌<◌, ◌≤◌, ◌⊎◌, Bool, true, false, not, List, Some, length, slice_get, slice_index_or}
use Rattle.std.specs.List.{Contains, count_by}
use Rattle.hn_base.specs.declared.ids.NodeId.{NodeId}
use Rattle.hn_data.specs.declared.view.Entry.{Entry}
use Rattle.hn_graph.specs.Path.{AreAdjacent, IsLeadingOn}

-- a path may go from x to the node at this place
pub record IsNext (nodes : List Entry) (x : Entry) (place : ℕ) : Type 0 where
  pub y : Entry
  pub at : slice_get nodes place ≡ Some y
  pub recent : IsLeadingOn x
  pub adjacent : AreAdjacent x y

-- the numbers before this place are below a number
abbrev pub AreBelow : List ℕ → ℕ → ℕ → Type 0
AreBelow numbers place number = (k : ℕ) → k < place → slice_index_or numbers k 0 < number

-- the numbers from this place on are above a number
abbrev pub AreAbove : List ℕ → ℕ → ℕ → Type 0
AreAbove numbers place number = (k : ℕ) → place ≤ k → k < length numbers → number < slice_index_or numbers k 0

-- the place is marked
abbrev pub IsPlaceMarked : List Bool → ℕ → Type 0
IsPlaceMarked found place = slice_index_or found place false ≡ true

-- Paths may go from x to these places, and to no others but those that are marked.
pub record ArePlacesNext (nodes : List Entry) (x : Entry) (found : List Bool) (places : List ℕ) : Type 0 where
  pub only : (place : ℕ) → Contains places place → IsNext nodes x place
  pub all : (place : ℕ) → IsNext nodes x place → IsPlaceMarked found place ⊎ Contains places place

-- The given places are marked too, and no others; those newly marked are to be visited, and no others.
pub record HasMarked (places : List ℕ) (found : List Bool) (visits : List ℕ) (found' : List Bool) (visits' : List ℕ) : Type 0 where
  pub same_length : length found' ≡ length found
  pub marks_stay : (k : ℕ) → IsPlaceMarked found k → IsPlaceMarked found' k
  pub marks_given : (k : ℕ) → Contains places k → IsPlaceMarked found' k
  pub marks_only : (k : ℕ) → IsPlaceMarked found' k → IsPlaceMarked found k ⊎ (Contains places k × Contains visits' k)
  pub visits_stay : (k : ℕ) → Contains visits k → Contains visits' k
  pub visits_only : (k : ℕ) → Contains visits' k → Contains visits k ⊎ Contains places k
  pub as_many : count_by not found' + length visits' ≡ count_by not found + length visits

-- a node with this identifier is marked
pub record HasFound (nodes : List Entry) (found : List Bool) (id : NodeId) : Type 0 where
  pub place : ℕ
  pub node : Entry
  pub at : slice_get nodes place ≡ Some node
  pub marked : IsPlaceMarked found place
  pub is_it : node.id ≡ id
