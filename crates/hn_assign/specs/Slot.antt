-- What a pair has: its assignment and its backoff.
use Rattle.hn_pair.specs.declared.held.Held.{Held}
use Rattle.hn_pair.specs.declared.pair.Pair.{Pair}
use Rattle.hn_assign.specs.declared.slot.Slot.{Slot}
use Rattle.hn_base.specs.Ascending.{HasAt}
use Rattle.hn_pair.specs.Pair.{assigned_pair, backoff_pair}

-- what is held for a pair
pub record IsSlot (pair : Pair) (held : Held) (slot : Slot) : Type 0 where
  pub assigned : HasAt assigned_pair pair slot.assigned held.assigned
  pub backoff : HasAt backoff_pair pair slot.backoff held.backoffs
