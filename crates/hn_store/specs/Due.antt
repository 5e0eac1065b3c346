-- When nodes that are lost are forgotten.
use Rattle.std.specs.Prelude.{◌≡◌, ℕ, ◌+◌, List, Some}
use Rattle.hn_base.specs.Sooner.{IsOfElement}
use Rattle.hn_store.specs.declared.stored.HeldNode.{HeldNode}

-- a lost node is forgotten from this moment on, if it stays lost
abbrev pub IsForgottenFrom : HeldNode → ℕ → Type 0
IsForgottenFrom node m = (lost : ℕ) × (node.stored.lost ≡ Some lost) × (m ≡ lost + 42000)

-- that moment, of one of these nodes
abbrev pub IsForgetting : List HeldNode → ℕ → Type 0
IsForgetting entries = IsOfElement IsForgottenFrom entries
