-- Until when nothing that a router keeps or sees comes to its end.
use Rattle.std.specs.Prelude.{◌≡◌, ◌↔◌, ℕ, ◌<◌, false}
use Rattle.hn_deleg.specs.Due.{IsLifetimeEnd}
use Rattle.hn_own.specs.OwnPrefixes.{has_ended_one}
use Rattle.hn_rules.specs.declared.state.State.{State}
use Rattle.hn_rules.specs.Seen.{seen_by}
use Rattle.hn_rules.specs.Updates.{AreAgesUndue}

-- Until a moment none of a router's own delegated prefixes ends, its node data are young, and no lifetime that it sees
-- announced ends, valid or preferred, but those that have ended at its own moment.
pub record IsLastingUntil (until : ℕ) (s : State) : Type 0 where
  pub lasting : has_ended_one until s.delegated ≡ false
  pub young : AreAgesUndue until s
  pub ends : (m : ℕ) → IsLifetimeEnd (seen_by s) m → s.moment < m → until < m

-- so it is until each moment before that one, and until no other
abbrev pub LastsBefore : State → ℕ → Type 0
LastsBefore s end = (until : ℕ) → (until < end) ↔ IsLastingUntil until s
