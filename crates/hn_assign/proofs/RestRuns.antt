-- Where each pair is at rest, the subroutine has a run, with each backoff due.
use Rattle.hn_base.proofs.Names.{◌≡◌, ◌∙◌, ℕ, List, [], ◌∷◌, Contains, Option, None, Some, refl, sym, ap, subst, inl, inr, ⊎_elim, on, Less, recursion_from_All, sorted_tail, HasAt}
use Rattle.hn_assign.proofs.Names.{nothing_in, Contains-head, Contains-tail, Contains-cases, PlainView, Advertised, Assigned, Wish, Backoff, Ran, Pair, Slot, AreAssignmentsUnchanged, AreDue}
use Rattle.hn_assign.proofs.Names.{AreAtRest, IsDueRun, AreAdvertised, IsPairTurn, assigned_pair, backoff_pair, wish_pair, pair_cmp, IsAscending, IsWished, Updates, IsAtRest, scene_of, IsPairStep}
use Rattle.hn_assign.proofs.Names.{AreSteps, with_marks}
use Rattle.std.specs.List.Sorted.{IsStrictlySortedBy}
use Rattle.hn_base.proofs.AscendingLists.{below_head}
use Rattle.hn_assign.proofs.AtPair.{has_some}
use Rattle.hn_assign.proofs.KeptFacts.{each_all}
use Rattle.hn_assign.proofs.Rests.{marks_unchanged}
use Rattle.hn_assign.proofs.Unchanged.{due_backoff, later_other}

-- ---- the turn of a pair at rest

module _ (view : PlainView) (adv : List Advertised) where
  -- the backoff that a pair has: one that is due where it has no assignment
  abbrev backoff_of : Option Assigned → Wish → Option Backoff
  backoff_of None wish = Some (due_backoff wish view.now)
  backoff_of (Some c) wish = None

  abbrev slot_before : Option Assigned → Wish → Slot
  slot_before c wish = record { assigned = c; backoff = backoff_of c wish }

  -- it has no backoff afterwards
  abbrev slot_after : Option Assigned → Slot
  slot_after c = record { assigned = c; backoff = None }

  rest_turn : (wish : Wish) (c : Option Assigned) → IsAtRest adv view.own wish c → IsPairTurn (scene_of view wish adv) (slot_before c wish) [] (slot_after c)
  rest_turn wish None idle = record { best = None; is_best = idle.no_best; line = inl (record { nothing_to_do = idle.nothing_to_do; gives = refl; took = refl }) }
  rest_turn wish (Some c) (inl alone) = record { best = None; is_best = alone.no_best; line = (inl (record { published = alone.published; gives = inl (alone.valid, refl) }), refl) }
  rest_turn wish (Some c) (inr (inl h)) = record {
    best = Some h.best;
    is_best = h.is_best;
    line = (inl (record { ahead = record { priority = h.priority; published = h.published; above = h.above }; gives = inl (h.valid, refl) }), refl);
  }
  rest_turn wish (Some c) (inr (inr follows)) = record {
    best = Some follows.best;
    is_best = follows.is_best;
    line = (
      inr (inl (record {
        not_ahead = λ ahead. let clash = sym follows.unpublished ∙ ahead.published in cc;
        same = follows.same;
        gives = ap (λ (p : Option ℕ). slot_after (Some (record c { published = p }))) follows.unpublished;
      })),
      refl,
    );
  }

  -- ---- the steps of all pairs

  module _ (xs : List Assigned) (up : IsAscending assigned_pair xs) (are : AreAdvertised view xs adv) where
    -- the state with these backoffs still
    abbrev state : List Backoff → Ran
    state backoffs = record { held = record { assigned = xs; backoffs = backoffs }; words = [] }

    -- the backoffs of the wished pairs without an assignment, and the steps that end them
    record CanRun (wishes : List Wish) (backoffs : List Backoff) : Type 0 where
      ascending : IsAscending backoff_pair backoffs
      due : AreDue wishes view.now (record { assigned = xs; backoffs = backoffs })
      steps : AreSteps view wishes (state backoffs) (state [])

    -- none of them is for an earlier wish
    none_for : (wish : Wish) (wishes : List Wish) (backoffs : List Backoff) → IsAscending wish_pair (wish ∷ wishes) → CanRun wishes backoffs → HasAt backoff_pair (wish_pair wish) None backoffs
    none_for wish wishes backoffs ups can b there is = let due = (can.due b).0 there in later_other wish wishes due.0 ups due.1 (sym is ∙ ap backoff_pair due.3)

    -- the assignment stays where it is
    stays : (pair : Pair) (c : Option Assigned) → HasAt assigned_pair pair c xs → Updates assigned_pair pair c xs xs
    stays pair c has = record { ascending = up; here = has; others = λ x not. (λ h. h, λ h. h) }

    -- a pair with an assignment has no backoff
    run_assigned : (wish : Wish) (wishes : List Wish) (backoffs : List Backoff) (c : Assigned)
        → IsAscending wish_pair (wish ∷ wishes) → IsAtRest adv view.own wish (Some c) → HasAt assigned_pair (wish_pair wish) (Some c) xs → CanRun wishes backoffs → CanRun (wish ∷ wishes) backoffs
    run_assigned wish wishes backoffs c ups rest has can =
        let none = none_for wish wishes backoffs ups can in
        let step : IsPairStep view wish [] (state backoffs) (state backoffs) = record {
          advertised = adv;
          are_advertised = are;
          old = slot_before (Some c) wish;
          had = record { assigned = has; backoff = none };
          new = slot_after (Some c);
          turn = rest_turn wish (Some c) rest;
          assigned = stays (wish_pair wish) (Some c) has;
          backoffs = record { ascending = can.ascending; here = none; others = λ b not. (λ h. h, λ h. h) };
          took = refl;
        } in
        record {
          ascending = can.ascending;
          due = λ b. (
            λ h. let due = (can.due b).0 h in (due.0, Contains-tail wish wishes due.0 due.1, due.2, due.3),
            λ (w, there, without, is). ⊎_elim
                (λ (here : wish ≡ w). absurd (without c has.0 (has.1 ∙ ap wish_pair here)))
                (λ (later : Contains wishes w). (can.due b).1 (w, later, without, is))
                (Contains-cases wish wishes w there),
          );
          steps = (state backoffs, [], step, can.steps);
        }

    -- the backoff of a pair without an assignment comes first, and its step ends it
    first_ascends : (wish : Wish) (wishes : List Wish) (backoffs : List Backoff)
        → IsAscending wish_pair (wish ∷ wishes) → CanRun wishes backoffs → IsAscending backoff_pair (due_backoff wish view.now ∷ backoffs)
    unfolding IsStrictlySortedBy
    first_ascends wish wishes backoffs ups can = (
      recursion_from_All (λ b. pair_cmp (wish_pair wish) (backoff_pair b) ≡ Less) backoffs
          (each_all (λ b. pair_cmp (wish_pair wish) (backoff_pair b) ≡ Less) backoffs
          (λ b there. let due = (can.due b).0 there in
          subst (λ (p : Pair). pair_cmp (wish_pair wish) p ≡ Less) (sym (ap backoff_pair due.3)) (below_head (on wish_pair pair_cmp) wish wishes ups due.0 due.1))),
      can.ascending,
    )

    run_unassigned : (wish : Wish) (wishes : List Wish) (backoffs : List Backoff) → IsAscending wish_pair (wish ∷ wishes)
        → IsAtRest adv view.own wish None → HasAt assigned_pair (wish_pair wish) None xs → CanRun wishes backoffs → CanRun (wish ∷ wishes) (due_backoff wish view.now ∷ backoffs)
    run_unassigned wish wishes backoffs ups rest has can =
        let first = due_backoff wish view.now in
        let step : IsPairStep view wish [] (state (first ∷ backoffs)) (state backoffs) = record {
          advertised = adv;
          are_advertised = are;
          old = slot_before None wish;
          had = record { assigned = has; backoff = (Contains-head first backoffs, refl) };
          new = slot_after None;
          turn = rest_turn wish None rest;
          assigned = stays (wish_pair wish) None has;
          backoffs = record {
            ascending = can.ascending;
            here = none_for wish wishes backoffs ups can;
            others = λ b not. (
              Contains-tail first backoffs b,
              λ h. ⊎_elim (λ (is : first ≡ b). absurd (not (sym (ap backoff_pair is)))) (λ (later : Contains backoffs b). later) (Contains-cases first backoffs b h),
            );
          };
          took = refl;
        } in
        record {
          ascending = first_ascends wish wishes backoffs ups can;
          due = λ b. (
            λ h. ⊎_elim
                (λ (is : first ≡ b). (wish, Contains-head wish wishes, has, sym is))
                (λ (later : Contains backoffs b). let due = (can.due b).0 later in (due.0, Contains-tail wish wishes due.0 due.1, due.2, due.3))
                (Contains-cases first backoffs b h),
            λ (w, there, without, is). ⊎_elim
                (λ (here : wish ≡ w). subst (Contains (first ∷ backoffs)) (ap (λ (v : Wish). due_backoff v view.now) here ∙ sym is) (Contains-head first backoffs))
                (λ (later : Contains wishes w). Contains-tail first backoffs b ((can.due b).1 (w, later, without, is)))
                (Contains-cases wish wishes w there),
          );
          steps = (state backoffs, [], step, can.steps);
        }

    can_run : (wishes : List Wish) → IsAscending wish_pair wishes → AreAtRest adv view.own wishes xs → (backoffs : List Backoff) × CanRun wishes backoffs
    unfolding IsStrictlySortedBy
    can_run [] ups rest = ([], record { ascending = tt; due = λ b. (λ h. absurd (nothing_in b h), λ (w, there, without, is). absurd (nothing_in w there)); steps = refl })
    can_run (wish ∷ wishes) ups rest =
        by_has (has_some assigned_pair (wish_pair wish) xs) (can_run wishes (sorted_tail (on wish_pair pair_cmp) wish wishes ups) (λ w h. rest w (Contains-tail wish wishes w h)))
      where
        by_has : (o : Option Assigned) × HasAt assigned_pair (wish_pair wish) o xs → (backoffs : List Backoff) × CanRun wishes backoffs → (backoffs : List Backoff) × CanRun (wish ∷ wishes) backoffs
        by_has (Some c, has) (backoffs, can) = (backoffs, run_assigned wish wishes backoffs c ups (rest wish (Contains-head wish wishes) (Some c) has) has can)
        by_has (None, has) (backoffs, can) = (due_backoff wish view.now ∷ backoffs, run_unassigned wish wishes backoffs ups (rest wish (Contains-head wish wishes) None has) has can)

    pub rest_runs : (wishes : List Wish) → IsAscending wish_pair wishes → ((c : Assigned) → Contains xs c → IsWished wishes (assigned_pair c)) → AreAtRest adv view.own wishes xs
        → (ran : Ran) × IsDueRun view wishes xs ran × AreAssignmentsUnchanged xs ran.held.assigned × (ran.words ≡ [])
    rest_runs wishes ups all rest =
        let run = can_run wishes ups rest in
        let backoffs = run.0 in
        let can = run.1 in
        let wished : (b : Backoff) → Contains backoffs b → IsWished wishes (backoff_pair b) = λ b there. let due = (can.due b).0 there in (due.0, due.1, sym (ap backoff_pair due.3)) in (
          with_marks view.now (state []),
          record {
            backoffs = backoffs;
            are_due = can.due;
            is_subroutine = record {
              begun = state backoffs;
              is_begun = record {
                assigned = record { ascending = up; those = λ c. (λ h. (h, all c h), λ h. h.0) };
                backoffs = record { ascending = can.ascending; those = λ b. (λ h. (h, wished b h), λ h. h.0) };
                took = refl;
              };
              last = state [];
              steps = can.steps;
              marks = refl;
            };
          },
          marks_unchanged view.now xs,
          refl,
        )
