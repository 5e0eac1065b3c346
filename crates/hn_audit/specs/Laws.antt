-- Laws of settled and quiet routers.
use Rattle.std.specs.Prelude.{◌≡◌, ◌↔◌, ℕ, List, [], ◌++◌, Contains}
use Rattle.hn_base.specs.declared.ids.EpId.{EpId}
use Rattle.hn_base.specs.declared.ids.NodeId.{NodeId}
use Rattle.hn_base.specs.declared.letter.Letter.{Letter}
use Rattle.hn_assign.specs.declared.ran.Ran.{Ran}
use Rattle.hn_assign.specs.Fixed.{AreAssignmentsUnchanged}
use Rattle.hn_data.specs.declared.view.Entry.{Entry}
use Rattle.hn_rules.specs.declared.state.State.{State}
use Rattle.hn_rules.specs.Nodes.{view_of}
use Rattle.hn_rules.specs.Router.{IsRouter}
use Rattle.hn_world.specs.declared.event.Traced.{Traced}
use Rattle.hn_world.specs.declared.member.Member.{Member}
use Rattle.hn_world.specs.declared.parts.Parts.{Parts}
use Rattle.hn_world.specs.Replay.{Replays, IsReplayed, Always}
use Rattle.hn_audit.specs.Reached.{IsRunning, IsReached}
use Rattle.hn_audit.specs.Settled.{IsSettledByRules}
use Rattle.hn_audit.specs.Quiet.{IsQuietByRules, IsRouterAtRest}
use Rattle.hn_audit.specs.Fixed.{Comes, IsRunAnew}
use Rattle.hn_audit.specs.Sound.{Joint, IsThereByRules, ElectSame, IsSoundByRules}
use Rattle.hn_audit.specs.declared.witness.Unquiet.{Unquiet}
use Rattle.hn_audit.specs.declared.witness.Unsettled.{Unsettled}
use Rattle.hn_audit.specs.First.{FindsOne}
use Rattle.hn_audit.specs.FirstWitness.{IsFirstUnsettled, IsFirstUnquiet}
use Rattle.hn_audit.specs.Witness.{Refutes, Disturbs}

-- In a replayed world a running router that is settled and quiet is sound.
abbrev pub SettledAndQuietIsSound : Type 0
SettledAndQuietIsSound = (w : Parts) (r : Member) → IsReplayed w → IsRunning w r → IsSettledByRules w r → IsQuietByRules w r → IsSoundByRules w r

-- on each link of the world that is one of the set of r the elections are equal
abbrev pub ElectAlike : Parts → Member → Type 0
ElectAlike w r =
    (letter : Letter) (place : ℕ) (s u : Member) (e f : EpId) → IsThereByRules w r (Joint place) s e → IsThereByRules w r (Joint place) u f
    → ElectSame s.router e u.router f letter

-- so it is for each running router that is settled, quiet or not
abbrev pub SettledElectAlike : Parts → Type 0
SettledElectAlike w = (r : Member) → IsRunning w r → IsSettledByRules w r → ElectAlike w r

-- So it is in a replayed world.
abbrev pub ReplayedElectAlike : Type 0
ReplayedElectAlike = (w : Parts) → IsReplayed w → SettledElectAlike w

-- And so it was at each moment of its past.
abbrev pub AlwaysSettledElectAlike : Type 0
AlwaysSettledElectAlike = (w : Parts) → IsReplayed w → Always SettledElectAlike w

-- In a replayed world a running router that is settled is sound if and only if each of its set is.
abbrev pub SetIsSoundAlike : Type 0
SetIsSoundAlike =
    (w : Parts) (r : Member) → IsReplayed w → IsRunning w r → IsSettledByRules w r
    → IsSoundByRules w r ↔ ((s : Member) → IsReached w r s → IsSoundByRules w s)

-- s, one of the set of r, sees each of the set as it is, and sees nobody else
pub record SeesTheSet (w : Parts) (r s : Member) : Type 0 where
  pub each_member :
      (u : Member) → IsReached w r u
      → (n : Entry) × Contains (view_of s.router) n × (n.id ≡ u.router.id) × (n.body ≡ u.router.own.body)
  pub nobody_else :
      (n : Entry) → Contains (view_of s.router) n
      → (u : Member) × IsReached w r u × (n.id ≡ u.router.id) × (n.body ≡ u.router.own.body)
  -- what s reaches are the identifiers of the set, and no two of the set have one
  pub reach_is_theirs : (id : NodeId) → Contains s.router.reach id → (u : Member) × IsReached w r u × (u.router.id ≡ id)
  pub one_of_an_id : (u v : Member) → IsReached w r u → IsReached w r v → u.router.id ≡ v.router.id → u ≡ v

-- In a replayed world, of the set of a running router that is settled, each sees each other as it is, and nobody else.
abbrev pub SettledSeeEachOther : Type 0
SettledSeeEachOther =
    (w : Parts) (r s : Member) → IsReplayed w → IsRunning w r → IsSettledByRules w r → IsReached w r s → SeesTheSet w r s

-- each running router that is settled and quiet is sound
abbrev pub SettledAreSoundByRules : Parts → Type 0
SettledAreSoundByRules w = (r : Member) → IsRunning w r → IsSettledByRules w r → IsQuietByRules w r → IsSoundByRules w r

-- At each moment of a replayed world's past each running router that is settled and quiet is sound.
abbrev pub AlwaysSettledAreSound : Type 0
AlwaysSettledAreSound = (w : Parts) → IsReplayed w → Always SettledAreSoundByRules w

-- what held at each moment of a world's past held at each moment of the past of a world that a front of its trace leads to
abbrev pub IsOfEachFront : (Parts → Type 0) → Type 0
IsOfEachFront P =
    (w v : Parts) (past future : List Traced) → w.trace ≡ past ++ future → Replays w.version past v
    → Always P w → Always P v

-- On a router at rest the assignment subroutine, run anew, makes, changes and destroys no assignment.
abbrev pub RestKeepsAssignments : Type 0
RestKeepsAssignments =
    (s : State) (ran : Ran) → IsRouter s → IsRunAnew s ran → IsRouterAtRest s
    → AreAssignmentsUnchanged s.held.assigned ran.held.assigned

-- And where a run of it makes, changes and destroys none, the router is at rest.
abbrev pub UnchangedIsAtRest : Type 0
UnchangedIsAtRest =
    (s : State) (ran : Ran) → IsRouter s → IsRunAnew s ran
    → AreAssignmentsUnchanged s.held.assigned ran.held.assigned → IsRouterAtRest s

-- On a router at rest it has such a run, which takes no random word.
abbrev pub RestHasARun : Type 0
RestHasARun =
    (s : State) → IsRouter s → IsRouterAtRest s
    → (ran : Ran) × IsRunAnew s ran × AreAssignmentsUnchanged s.held.assigned ran.held.assigned × (ran.words ≡ [])

-- On each router it comes to a result: it cannot be that it has no run.
abbrev pub AnewHasARun : Type 0
AnewHasARun = (s : State) → IsRouter s → Comes s

-- What a witness says refutes that a router is settled.
abbrev pub WitnessRefutesSettled : Type 0
WitnessRefutesSettled = (w : Parts) (r : Member) (witness : Unsettled) → Refutes w r witness → ¬ IsSettledByRules w r

-- And that it is quiet.
abbrev pub WitnessRefutesQuiet : Type 0
WitnessRefutesQuiet = (w : Parts) (r : Member) (witness : Unquiet) → Disturbs w r witness → ¬ IsQuietByRules w r

-- a router of the set of r is not at rest
abbrev pub HasOneNotAtRest : Parts → Member → Type 0
HasOneNotAtRest w r = (s : Member) × IsReached w r s × ¬ IsRouterAtRest s.router

-- What it says names one that is not at rest.
abbrev pub WitnessNamesOneNotAtRest : Type 0
WitnessNamesOneNotAtRest = (w : Parts) (r : Member) (witness : Unquiet) → Disturbs w r witness → HasOneNotAtRest w r

-- At most one answer is the first witness by which a router is not settled: a witness, or none.
abbrev pub UnsettledIsOne : Type 0
UnsettledIsOne = (w : Parts) (r : Member) → FindsOne (IsFirstUnsettled w r)

-- And by which it is not quiet, in a replayed world.
abbrev pub UnquietIsOne : Type 0
UnquietIsOne = (w : Parts) (r : Member) → IsReplayed w → FindsOne (IsFirstUnquiet w r)
