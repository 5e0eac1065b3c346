use Rattle.std.specs.Prelude.{◌≡◌, ℕ, ◌<◌, List, ◌++◌, length}
use Rattle.hn_prefix.specs.AddressText.{IsGroups}

-- the groups of the text, one at least, were added at the end
pub record AddsGroups (text before after : List ℕ) : Type 0 where
  pub added : List ℕ
  pub some : 0 < length added
  pub read : IsGroups text added
  pub value : after ≡ before ++ added
