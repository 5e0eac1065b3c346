-- A tick that does nothing.
use Rattle.std.specs.Prelude.{◌≡◌, ℕ, false, All}
use Rattle.std.specs.List.{list_any}
use Rattle.hn_dncp.specs.Due.{IsPortUndue}
use Rattle.hn_store.specs.Loss.{is_forgotten}
use Rattle.hn_rules.specs.declared.running.Running.{Running}
use Rattle.hn_rules.specs.declared.state.State.{State}
use Rattle.hn_rules.specs.Done.{nothing}
use Rattle.hn_rules.specs.Rules.{begun_at}
use Rattle.hn_rules.specs.Undue.{at_moment}
use Rattle.hn_rules.specs.Ticks.{IsTick}

-- A tick at that moment does nothing: nothing comes of it, and but for the moment the router is as it was.
abbrev pub IsIdleTick : ℕ → State → Type 0
IsIdleTick now s = (after : Running) × IsTick (begun_at now s) after × (after.state ≡ at_moment now s) × (after.done ≡ nothing)

-- These parts of a router are as they were before a tick at that moment: the same nodes are reachable, the assignments and
-- backoffs are the same, and no lost node was to be forgotten and nothing due at an endpoint.
pub record IsLeft (now : ℕ) (before after : State) : Type 0 where
  pub reach : after.reach ≡ before.reach
  pub held : after.held ≡ before.held
  pub kept : list_any (is_forgotten now) before.table.entries ≡ false
  pub ports : All (IsPortUndue now) before.ports
