-- A router is at rest if and only if the assignment subroutine, run anew, changes nothing on it.
use Rattle.hn_base.proofs.Names.{◌∙◌, ◌↔◌, List, Contains, map, sym, ap, subst, IsTotalOrder, All-contains}
use Rattle.hn_audit.proofs.Names.{All, Contains-from_map, Contains-map, all_of, Advertised, Assigned, Held, Ran, AreAtRest, AreAssignmentsUnchanged, unmarked, AreAdvertised, IsWished, assigned_pair}
use Rattle.hn_audit.proofs.Names.{pair_cmp, UsableIsUnique, State, IsRouter, seen_by, AnewHasARun, RestHasARun, IsRouterAtRest}
use Rattle.hn_base.proofs.SomeExists.{some_then}
use Rattle.hn_assign.specs.Laws.{AssignedAreWished, RestHasADueRun, RestIsUnchanged, SubroutineHasADueRun, AdvertisedExists}
use Rattle.hn_rules.specs.Laws.{WishesExist}
use Rattle.hn_audit.specs.Fixed.{IsRunAnew}
use Rattle.hn_audit.proofs.RestIsOne.{wished_there, rests_there}

-- the laws of the crates below on which it rests
pub record FixedLaws : Type 0 where
  pub one_list : UsableIsUnique
  pub advertised_exists : AdvertisedExists
  pub rest : RestIsUnchanged
  pub wished : AssignedAreWished
  pub pairs_total : IsTotalOrder pair_cmp

-- a router on which the subroutine comes to something
module _ (laws : FixedLaws) (s : State) (ran : Ran) (h : IsRunAnew s ran) where
  -- its assignments, and the backoffs that are due
  abbrev held : Held
  held = record { assigned = s.held.assigned; backoffs = h.run.backoffs }

  -- the law of rest, for this router
  law : (adv : List Advertised) → IsRouter s → All (λ c. IsWished h.wishes (assigned_pair c)) s.held.assigned → AreAdvertised (seen_by s) s.held.assigned adv
      → AreAssignmentsUnchanged s.held.assigned ran.held.assigned ↔ AreAtRest adv s.id.0 h.wishes s.held.assigned
  law adv router all are = laws.rest (seen_by s) h.wishes held ran adv h.are_asked.ascending router.well.pairs.assigned all h.run.are_due are h.run.is_subroutine

  pub changes_nothing : IsRouterAtRest s → IsRouter s → AreAssignmentsUnchanged s.held.assigned ran.held.assigned
  changes_nothing rest router =
      (law rest.advertised router (wished_there laws.one_list laws.pairs_total s h.usable h.are_usable h.wishes h.are_asked rest) rest.are_advertised).1
      (rests_there laws.one_list laws.pairs_total s h.usable h.are_usable h.wishes h.are_asked rest)

  -- where nothing changes, each assignment is of a wished pair, as after the run
  still_wished : AreAssignmentsUnchanged s.held.assigned ran.held.assigned → All (λ c. IsWished h.wishes (assigned_pair c)) s.held.assigned
  still_wished same = all_of (λ c. IsWished h.wishes (assigned_pair c)) s.held.assigned each
    where
      each : (c : Assigned) → Contains s.held.assigned c → IsWished h.wishes (assigned_pair c)
      each c there =
          let after : Contains (map unmarked ran.held.assigned) (unmarked c) = subst (λ (cs : List Assigned). Contains cs (unmarked c)) (sym same) (Contains-map unmarked s.held.assigned c there) in
          let d = Contains-from_map unmarked ran.held.assigned (unmarked c) after in
          let wished = laws.wished (seen_by s) h.wishes held ran h.run.is_subroutine in
          let one = All-contains (λ (x : Assigned). IsWished h.wishes (assigned_pair x)) ran.held.assigned d.0 wished d.1 in
          (one.0, one.1, one.2 ∙ ap assigned_pair d.2)

  pub unchanged_rests : AreAssignmentsUnchanged s.held.assigned ran.held.assigned → IsRouter s → IsRouterAtRest s
  unchanged_rests same router =
      let adv = laws.advertised_exists (seen_by s) s.held.assigned in
      let all = still_wished same in
      record {
        usable = h.usable;
        are_usable = h.are_usable;
        wishes = h.wishes;
        are_asked = h.are_asked;
        advertised = adv.0;
        are_advertised = adv.1;
        wished = all;
        at_rest = (law adv.0 router all adv.1).0 same;
      }

-- a router at rest has a run that changes nothing
pub rest_has_a_run : RestHasADueRun → RestHasARun
rest_has_a_run comes s router rest =
    let found = comes (seen_by s) rest.wishes s.held.assigned rest.advertised rest.are_asked.ascending router.well.pairs.assigned rest.wished rest.are_advertised rest.at_rest in
    (found.0, record { usable = rest.usable; are_usable = rest.are_usable; wishes = rest.wishes; are_asked = rest.are_asked; run = found.1 }, found.2, found.3)

-- each router has a run
pub anew_has_a_run : WishesExist → SubroutineHasADueRun → AnewHasARun
anew_has_a_run wished comes s router stream =
    let (wishes, w) = wished s router in
    some_then (comes (seen_by s) wishes s.held.assigned stream w.are_asked.ascending router.well.pairs.assigned w.fitting w.prefixes) (λ ran runs none.
    none ran (record { usable = w.usable; are_usable = w.are_usable; wishes = wishes; are_asked = w.are_asked; run = runs.0 }, runs.1))
