-- Laws of node data and of views.
use Rattle.std.specs.Prelude.{◌≡◌, ◌⊎◌, ℕ, List}
use Rattle.hn_typed.specs.Item.{PlainItem}
use Rattle.hn_data.specs.Items.{AreItems}
use Rattle.hn_data.specs.OwnData.{IsAscendingSet}
use Rattle.hn_data.specs.View.{PlainView, IsNetwork}
use Rattle.hn_data.specs.Later.{IsLater}

-- Node data have at most one list of items.
abbrev pub ItemsAreUnique : Type 0
ItemsAreUnique = (bytes : List ℕ) (a b : List PlainItem) → AreItems bytes a → AreItems bytes b → a ≡ b

-- Numbers are node data with items, or they are none.
abbrev pub ItemsOrNone : Type 0
ItemsOrNone = (bytes : List ℕ) → ((items : List PlainItem) × AreItems bytes items) ⊎ ((items : List PlainItem) → ¬ (AreItems bytes items))

-- Pieces have at most one ascending set.
abbrev pub AscendingSetIsUnique : Type 0
AscendingSetIsUnique = (pieces : List (List ℕ)) (a b : List ℕ) → IsAscendingSet pieces a → IsAscendingSet pieces b → a ≡ b

-- A network stays one while time passes.
abbrev pub LaterIsANetwork : Type 0
LaterIsANetwork = (before after : PlainView) → IsLater before after → IsNetwork before.own before.nodes → IsNetwork after.own after.nodes
