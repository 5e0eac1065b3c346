-- Which nodes advertise otherwise than before.
use Rattle.std.specs.Prelude.{◌≡◌, ◌⊎◌, List, Contains}
use Rattle.hn_base.specs.declared.ids.NodeId.{NodeId}
use Rattle.hn_data.specs.declared.view.Entry.{Entry}
use Rattle.hn_assign.specs.Alike.{AdvertisesAs}

-- one of these nodes has the identifier of a node
abbrev pub HasNodeOf : List Entry → Entry → Type 0
HasNodeOf nodes node = (other : Entry) × Contains nodes other × (other.id ≡ node.id)

-- a node advertised the same before
abbrev pub SaidSame : List Entry → Entry → Type 0
SaidSame before node = (was : Entry) × Contains before was × AdvertisesAs was node

-- identifiers are added to old ones: those of nodes of which it is not so, at least
pub record AreTold (IsSo : Entry → Type 0) (nodes : List Entry) (old ids : List NodeId) : Type 0 where
  pub still : (id : NodeId) → Contains old id → Contains ids id
  pub each : (node : Entry) → Contains nodes node → Contains ids node.id ⊎ IsSo node

-- these have the own node, and each node that is gone, is new, or advertises otherwise than before
pub record AreChanged (own : NodeId) (before after : List Entry) (ids : List NodeId) : Type 0 where
  pub own_is_there : Contains ids own
  pub gone : (was : Entry) → Contains before was → Contains ids was.id ⊎ HasNodeOf after was
  pub other : (node : Entry) → Contains after node → Contains ids node.id ⊎ SaidSame before node
