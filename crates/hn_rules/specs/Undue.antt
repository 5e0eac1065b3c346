-- A router for which nothing is due.
use Rattle.std.specs.Prelude.{◌≡◌, ℕ, ◌-◌, ◌^◌, ◌<◌, false, [], None, All}
use Rattle.std.specs.List.{list_any}
use Rattle.hn_dncp.specs.Due.{IsPortUndue}
use Rattle.hn_store.specs.Loss.{is_forgotten}
use Rattle.hn_own.specs.OwnPrefixes.{has_ended_one}
use Rattle.hn_rules.specs.declared.state.State.{State}
use Rattle.hn_rules.specs.Assigning.{IsRunAssigned}
use Rattle.hn_rules.specs.Nodes.{age_at, IsReach}
use Rattle.hn_rules.specs.Tick.{IsExpired}

-- a router at that moment, while nothing happens
abbrev pub at_moment : ℕ → State → State
at_moment now s = record s { moment = now }

-- no peer's keep-alives have stopped
abbrev pub AreHeard : ℕ → State → Type 0
AreHeard now s = All (λ port. All (λ peer. ¬ (IsExpired (at_moment now s) peer)) port.peers) s.ports

-- Nothing that a router keeps has come to its moment: no peer is silent, no own delegated prefix has ended, the own node
-- data are young, and paths lead on from each node that is not lost.
pub record IsKeptUndue (now : ℕ) (s : State) : Type 0 where
  pub heard : AreHeard now s
  pub lasting : has_ended_one now s.delegated ≡ false
  pub young : now - s.own.born < 2 ^ 32 - 2 ^ 16
  pub leads : All (λ node. node.stored.lost ≡ None → age_at now node.stored < 2 ^ 32 - 2 ^ 15) s.table.entries

-- Each part of a tick leaves a router as it is: the same nodes are reachable, no lost node is forgotten, the assignment
-- subroutine takes no word and changes nothing, and nothing is due at an endpoint.
pub record IsRouterUndue (now : ℕ) (s : State) : Type 0 where
  pub heard : AreHeard now s
  pub lasting : has_ended_one now s.delegated ≡ false
  pub young : now - s.own.born < 2 ^ 32 - 2 ^ 16
  pub reached : IsReach (at_moment now s) s.reach
  pub kept : list_any (is_forgotten now) s.table.entries ≡ false
  pub rests : IsRunAssigned (at_moment now s) (record { held = s.held; words = [] })
  pub ports : All (IsPortUndue now) s.ports
