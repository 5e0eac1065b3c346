-- What a tick leaves that nothing disturbs.
use Rattle.std.specs.Prelude.{◌≡◌, ℕ, ◌≤◌, List, Contains}
use Rattle.hn_base.specs.declared.ids.NodeId.{NodeId}
use Rattle.hn_assign.specs.Fixed.{AreAssignmentsUnchanged}
use Rattle.hn_assign.specs.declared.ran.Ran.{Ran}
use Rattle.hn_data.specs.Later.{IsLater}
use Rattle.hn_deleg.specs.Used.{AreUsable, IsUnwanted, prefixes_of}
use Rattle.hn_deleg.specs.declared.delegated.Delegated.{Delegated}
use Rattle.hn_own.specs.Ports.{endpoints_of}
use Rattle.hn_store.specs.Nodes.{held}
use Rattle.hn_rules.specs.declared.running.Running.{Running}
use Rattle.hn_rules.specs.declared.state.State.{State}
use Rattle.hn_rules.specs.Assigning.{IsRunAssigned}
use Rattle.hn_rules.specs.Router.{IsRouter}
use Rattle.hn_rules.specs.Rules.{Rule, begun_at}
use Rattle.hn_rules.specs.Seen.{seen_by}
use Rattle.hn_rules.specs.Undue.{at_moment, IsKeptUndue}
use Rattle.hn_rules.specs.Ticks.{IsTick}

-- These parts of a router are as they were: what it says of itself, its posts, the nodes that it reaches with what it holds
-- of them, and its assignments, marks of application aside.
pub record IsKeptAtRest (before after : State) : Type 0 where
  pub id : after.id ≡ before.id
  pub number : after.number ≡ before.number
  pub own : after.own ≡ before.own
  pub private : after.private ≡ before.private
  pub endpoints : endpoints_of after.ports ≡ endpoints_of before.ports
  pub reach : after.reach ≡ before.reach
  pub known : (id : NodeId) → Contains before.reach id → held after.table.entries id.0 ≡ held before.table.entries id.0
  pub assigned : AreAssignmentsUnchanged before.held.assigned after.held.assigned

-- Where nothing that a router keeps has come to its moment, and the assignment subroutine would change nothing, a tick
-- leaves the router so.
abbrev pub CalmTick : Type 0
CalmTick =
    (now : ℕ) (s : State) (after : Running) → IsRouter s → s.moment ≤ now → IsKeptUndue now s
    → ((ran : Ran) → IsRunAssigned (at_moment now s) ran → AreAssignmentsUnchanged s.held.assigned ran.held.assigned)
    → IsTick (begun_at now s) after → IsKeptAtRest s after.state

-- Where nothing that a router keeps has come to its moment, and it uses and wants after a tick what it did before, it used
-- the same where the tick assigned prefixes, and what it had not wanted it did not want there.
abbrev pub UsedWhereAssigned : Type 0
UsedWhereAssigned =
    (now : ℕ) (s : State) (after : Running) (was at then : List Delegated) → IsRouter s → s.moment ≤ now → IsKeptUndue now s
    → IsTick (begun_at now s) after
    → AreUsable (seen_by s) was → AreUsable (seen_by (at_moment now s)) at → AreUsable (seen_by after.state) then
    → prefixes_of was ≡ prefixes_of then → ((place : ℕ) → IsUnwanted was place → IsUnwanted then place)
    → (prefixes_of at ≡ prefixes_of was) × ((place : ℕ) → IsUnwanted was place → IsUnwanted at place)

-- While time passes and nothing happens, a router sees the same network.
abbrev pub ViewOfLater : Type 0
ViewOfLater = (now : ℕ) (s : State) → IsRouter s → s.moment ≤ now → IsLater (seen_by s) (seen_by (at_moment now s))

-- the identifier
abbrev pub KeepsId : Rule → Type 0
KeepsId rule = (before after : Running) → rule before after → after.state.id ≡ before.state.id
