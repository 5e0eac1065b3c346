-- The fixed point of the assignment subroutine: a router whose subroutine, run once more, would make, change and destroy
-- no assignment. No backoff is waited for: each pair without an assignment has one that is due.
use Rattle.std.specs.Prelude.{◌≡◌, ℕ, List, All}
use Rattle.hn_base.specs.Exists.{Some! }
use Rattle.hn_base.specs.Words.{Begins}
use Rattle.hn_pair.specs.declared.assigned.Wish.{Wish}
use Rattle.hn_assign.specs.declared.ran.Ran.{Ran}
use Rattle.hn_assign.specs.Fixed.{IsDueRun, AreAssignmentsUnchanged}
use Rattle.hn_deleg.specs.declared.delegated.Delegated.{Delegated}
use Rattle.hn_deleg.specs.Used.{AreUsable}
use Rattle.hn_rules.specs.Assigning.{AreAsked}
use Rattle.hn_rules.specs.declared.state.State.{State}
use Rattle.hn_rules.specs.Seen.{seen_by}
use Rattle.hn_world.specs.declared.member.Member.{Member}
use Rattle.hn_world.specs.declared.parts.Parts.{Parts}
use Rattle.hn_audit.specs.Reached.{IsReached}

-- what the subroutine comes to on a router whose backoffs are one for each pair without an assignment, due at its moment
pub record IsRunAnew (s : State) (ran : Ran) : Type 0 where
  pub usable : List Delegated
  pub are_usable : AreUsable (seen_by s) usable
  pub wishes : List Wish
  pub are_asked : AreAsked s usable wishes
  pub run : IsDueRun (seen_by s) wishes s.held.assigned ran

-- whatever it comes to on a router of the set of r, with whatever random words, it makes, changes and destroys no
-- assignment
abbrev pub ChangesNothing : Parts → Member → Type 0
ChangesNothing w r =
    (s : Member) (ran : Ran) → IsReached w r s → IsRunAnew s.router ran
    → AreAssignmentsUnchanged s.router.held.assigned ran.held.assigned

-- on each router of the set of r it comes to a result, with some random words, that makes, changes and destroys none
abbrev pub MayChangeNothing : Parts → Member → Type 0
MayChangeNothing w r =
    (s : Member) → IsReached w r s
    → (ran : Ran) × IsRunAnew s.router ran × AreAssignmentsUnchanged s.router.held.assigned ran.held.assigned

-- on each router of the set of r it comes to a result, with random words of zero, that makes, changes and destroys none
abbrev pub IsFixed : Parts → Member → Type 0
IsFixed w r =
    (s : Member) → IsReached w r s
    → (ran : Ran) × IsRunAnew s.router ran × All (λ word. word ≡ 0) ran.words × AreAssignmentsUnchanged s.router.held.assigned ran.held.assigned

-- over each stream of random words it comes to a result on a router: it cannot be that there is none
abbrev pub Comes : State → Type 0
Comes s = (stream : ℕ → ℕ) → Some! (λ (ran : Ran). IsRunAnew s ran × Begins ran.words stream)

-- it comes to a result on a router, and each makes, changes or destroys an assignment
pub record ActsAnew (s : State) : Type 0 where
  pub comes : Comes s
  pub acts : (ran : Ran) → IsRunAnew s ran → ¬ AreAssignmentsUnchanged s.held.assigned ran.held.assigned

-- so it is on a router of the set of r
abbrev pub SomeActs : Parts → Member → Type 0
SomeActs w r = (s : Member) × IsReached w r s × ActsAnew s.router
