-- Where a node stands among nodes in ascending order of their identifiers, or is to stand.
use Rattle.std.specs.Prelude.{◌≡◌, ◌+◌, ◌<◌, ◌≤◌, ℕ, List, length}
use Rattle.std.specs.List.{HoldsAt, AllWithin}
use Rattle.hn_store.specs.declared.stored.HeldNode.{HeldNode}

-- the node stands in this place, those before it are below it, and those after it above
pub record IsPlaceOf (entries : List HeldNode) (id place : ℕ) : Type 0 where
  pub within : place < length entries
  pub here : HoldsAt (λ node. node.id.0 ≡ id) entries place
  pub before : AllWithin (λ node. node.id.0 < id) entries 0 place
  pub after : AllWithin (λ node. id < node.id.0) entries (place + 1) (length entries)

-- the nodes before this place are below it, and those from there on above
pub record IsGapFor (entries : List HeldNode) (id place : ℕ) : Type 0 where
  pub within : place ≤ length entries
  pub before : AllWithin (λ node. node.id.0 < id) entries 0 place
  pub after : AllWithin (λ node. id < node.id.0) entries place (length entries)
