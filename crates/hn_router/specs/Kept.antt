-- What the type of a router keeps.
use Rattle.std.specs.Prelude.{ℕ, ◌<◌}
use Rattle.hn_rules.specs.declared.state.State.{State}
use Rattle.hn_rules.specs.Due.{IsNextDue, IsUndueUntil}
use Rattle.hn_rules.specs.Idle.{IsIdleTick}
use Rattle.hn_rules.specs.Router.{IsRouter}

-- It is a router. Where the moment that it keeps is after its own, a tick at its own moment does nothing, and something is
-- next due at the moment that it keeps.
pub record IsKeptRouter (s : State) : Type 0 where
  pub router : IsRouter s
  pub due : s.moment < s.due → IsIdleTick s.moment s × IsNextDue s s.due

-- And where another moment is after its own, a tick at its own moment does nothing, and nothing is due before that other one.
pub record IsKeptUntil (until : ℕ) (s : State) : Type 0 where
  pub kept : IsKeptRouter s
  pub undue : s.moment < until → IsIdleTick s.moment s × IsUndueUntil until s
