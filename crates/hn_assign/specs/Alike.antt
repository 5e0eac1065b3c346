-- Nodes that advertise the same.
use Rattle.std.specs.Prelude.{◌≡◌, ℕ, ◌<◌, ◌↔◌, List, length, get_or}
use Rattle.hn_data.specs.Said.{HasAssigned, HasVersion}
use Rattle.hn_data.specs.declared.said.AssignedPrefix.{AssignedPrefix}
use Rattle.hn_data.specs.declared.view.Entry.{Entry}

-- a node has the identifier of another one, and advertises the same
pub record AdvertisesAs (x y : Entry) : Type 0 where
  pub id : y.id ≡ x.id
  pub version : HasVersion x.body ↔ HasVersion y.body
  pub assigned : (a : AssignedPrefix) → HasAssigned x.body a ↔ HasAssigned y.body a

-- so it is of each node and the one in its place
pub record AdvertiseAlike (before after : List Entry) : Type 0 where
  pub as_many : length after ≡ length before
  pub each : (k : ℕ) (d : Entry) → k < length before → AdvertisesAs (get_or before k d) (get_or after k d)
