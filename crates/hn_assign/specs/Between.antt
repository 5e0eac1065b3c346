-- Where the advertised prefixes stand that begin inside a prefix.
use Rattle.std.specs.Prelude.{◌≡◌, ℕ, ◌<◌, ◌≤◌, List, length, get_or}
use Rattle.hn_base.specs.Prefix.{PlainPrefix, IsInside}
use Rattle.hn_assign.specs.declared.advertised.Advertised.{Advertised}

-- each whose first address is inside a prefix stands from one place on, and before another
pub record AreBetween (adv : List Advertised) (outer : PlainPrefix) (start end : ℕ) : Type 0 where
  pub order : start ≤ end
  pub within : end ≤ length adv
  pub each : (k : ℕ) (a : Advertised) → k < length adv → get_or adv k a ≡ a → IsInside a.prefix.bits outer → (start ≤ k) × (k < end)
