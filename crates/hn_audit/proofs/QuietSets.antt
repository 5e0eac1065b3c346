-- A set is quiet if and only if the assignment subroutine, run anew, comes to something on each of its routers and changes
-- nothing. And the router of a name runs.
use Rattle.hn_base.proofs.Names.{◌≡◌, ◌↔◌, ℕ, Bool, true, false, not, IsTrue, IfSome, List, Option, Some, None, is_some, refl, sym, subst, option_map_or, All-contains, All-nil}
use Rattle.hn_audit.proofs.Names.{All, IsRouter, Member, Parts, is_named, IsSoundWorld, IsSoundMember, AnewHasARun, RestHasARun, WitnessNamesOneNotAtRest, IsQuietByRules, IsRunning, IsReached, Disturbs, Unquiet}
use Rattle.hn_audit.proofs.Names.{found_passes}
use Rattle.hn_world.specs.Names.{member_named}
use Rattle.hn_audit.specs.Fixed.{ChangesNothing, IsFixed, MayChangeNothing, SomeActs}
use Rattle.hn_audit.specs.Laws.{HasOneNotAtRest, RestKeepsAssignments, UnchangedIsAtRest}
use Rattle.hn_audit.specs.Reached.{runs}

-- a router of a sound world
pub router_of : (w : Parts) (r s : Member) → IsSoundWorld w → IsReached w r s → IsRouter s.router
router_of w r s sound reached = (All-contains (IsSoundMember w.moment) w.members s sound reached.runs.there).router

module _ (w : Parts) (r : Member) (sound : IsSoundWorld w) (answer : Bool) (quiet : IsTrue answer ↔ IsQuietByRules w r) where
  pub quiet_changes_nothing : RestKeepsAssignments → IsTrue answer → ChangesNothing w r
  quiet_changes_nothing law is s ran reached run = law s.router ran (router_of w r s sound reached) run (quiet.0 is s reached)

  pub unchanged_is_quiet : UnchangedIsAtRest → MayChangeNothing w r → IsTrue answer
  unchanged_is_quiet law may = quiet.1 (λ s reached. let found = may s reached in law s.router found.0 (router_of w r s sound reached) found.1 found.2)

  -- it is quiet if and only if the subroutine, with zeros for random words, comes to something that changes nothing
  pub quiet_is_fixed : RestHasARun → UnchangedIsAtRest → IsTrue answer ↔ IsFixed w r
  quiet_is_fixed law unchanged = (to_fixed, λ fixed. unchanged_is_quiet unchanged (may fixed))
    where
      to_fixed : IsTrue answer → IsFixed w r
      to_fixed is s reached =
          let found = law s.router (router_of w r s sound reached) (quiet.0 is s reached) in
          (found.0, found.1, subst (All (λ (word : ℕ). word ≡ 0)) (sym found.3) (All-nil (λ (word : ℕ). word ≡ 0)), found.2)

      may : IsFixed w r → MayChangeNothing w r
      may fixed s reached = let found = fixed s reached in (found.0, found.1, found.3)

-- ---- where it is not quiet

module _ (w : Parts) (r : Member) (sound : IsSoundWorld w) where
  -- a router that is not at rest acts
  not_at_rest_acts : AnewHasARun → UnchangedIsAtRest → HasOneNotAtRest w r → SomeActs w r
  not_at_rest_acts runs rests (s, reached, not_at_rest) =
      let router = router_of w r s sound reached in
      (s, reached, record { comes = runs s.router router; acts = λ ran run same. not_at_rest (rests s.router ran router run same) })

  -- where one acts, it is not so that no run changes anything
  acting_changes : SomeActs w r → ¬ ChangesNothing w r
  acting_changes (s, reached, acting) nothing = acting.comes (λ _. 0) (λ ran run. acting.acts ran run.0 (nothing s ran reached run.0))

  module _ (runs : AnewHasARun) (keeps : RestKeepsAssignments) (rests : UnchangedIsAtRest) (names : WitnessNamesOneNotAtRest) where
    -- the answer by a witness: quiet if and only if no run changes anything, and else one acts
    pub quiet_or_acts : (found : Option Unquiet) (answer : Bool) → is_some found ≡ not answer → IfSome found (Disturbs w r) → (IsTrue answer ↔ IsQuietByRules w r)
        → (IsTrue answer ↔ ChangesNothing w r) × ((answer ≡ false) ↔ SomeActs w r)
    quiet_or_acts None false said witness quiet = absurd (cc)
    quiet_or_acts (Some u) true said witness quiet = absurd (cc)
    quiet_or_acts None true said witness quiet =
        let nothing = quiet_changes_nothing w r sound true quiet keeps refl in
        ((λ is. nothing, λ _. refl), (λ is. absurd (cc), λ acting. absurd (acting_changes acting nothing)))
    quiet_or_acts (Some u) false said witness quiet =
        let acting = not_at_rest_acts runs rests (names w r u witness) in
        ((λ is. absurd (cc), λ nothing. absurd (acting_changes acting nothing)), (λ _. acting, λ _. refl))

-- the router of a name, which runs
pub named_runs : (name : List ℕ) (w : Parts) (r : Member) → IsTrue (runs name w) → member_named name w ≡ Some r → IsRunning w r
named_runs name w r run named = record {
  there = (found_passes (is_named name) w.members r named).0;
  running = subst (λ (o : Option Member). IsTrue (option_map_or (λ m. m.running) o false)) named run;
}
