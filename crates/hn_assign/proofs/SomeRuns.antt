-- A run of the subroutine cannot be missing, over whatever stream of words.
use Rattle.hn_base.proofs.Names.{◌≡◌, ℕ, List, [], ◌∷◌, ◌++◌, length, map, Contains, Option, None, Some, IfSome, refl, sym, subst, inl, inr, arith, All, on, append-nil, HasAt, IsPrefix, Begins, Some! }
use Rattle.hn_assign.proofs.Names.{Contains-head, Contains-tail, Contains-map, Contains-from_map, sorted_parts, PlainView, FreeOrFull, InsideAreSubPrefixes, IsPart, some_is, some_then, some_part}
use Rattle.hn_assign.proofs.Names.{Assigned, Wish, Backoff, Held, Ran, Pair, Slot, IsFitting, AreDue, IsDueRun, AdvertisedExists, assigned_pair, backoff_pair, wish_pair, pair_cmp, IsAscending}
use Rattle.hn_assign.proofs.Names.{scene_of, IsPairStep, AreSteps, IsSubroutine, with_marks}
use Rattle.hn_base.proofs.FirstWords.{begins_next}
use Rattle.hn_assign.specs.Laws.{SubroutineHasAResult, SubroutineHasADueRun}
use Rattle.hn_pair.specs.Laws.{KeptExists, UpdatedExists}
use Rattle.hn_assign.proofs.AtPair.{has_some}
use Rattle.hn_assign.proofs.KeptFacts.{all_each}
use Rattle.hn_assign.proofs.OneResult.{IsInOrder, step_in_order}
use Rattle.hn_assign.proofs.SomeTurns.{WithinIsNotShorter, IsUpTo, IsOfPair, some_turn}
use Rattle.hn_assign.proofs.Unchanged.{due_backoff}

-- ---- the next word of a stream

begins_up_to : (taken words : List ℕ) (stream : ℕ → ℕ) → IsUpTo (stream (length taken)) words → Begins taken stream → Begins (taken ++ words) stream
begins_up_to taken words stream (inl none) begins = subst (λ (ws : List ℕ). Begins (taken ++ ws) stream) (sym none) (subst (λ (ws : List ℕ). Begins ws stream) (sym (append-nil taken)) begins)
begins_up_to taken words stream (inr one) begins = subst (λ (ws : List ℕ). Begins (taken ++ ws) stream) (sym one) (begins_next taken stream begins)

-- ---- one step, and all

has_own : {A : Type 0} (key : A → Pair) (pair : Pair) (xs : List A) (o : Option A) → HasAt key pair o xs → IfSome o (λ x. key x ≡ pair)
has_own key pair xs None none = tt
has_own key pair xs (Some x) has = has.1

-- a wish that fits, for a prefix
record IsProper (wish : Wish) : Type 0 where
  fits : IsFitting wish
  valid : IsPrefix wish.delegated

-- the lists that cannot be missing
abbrev HasLists : Type 0
HasLists = (KeptExists assigned_pair × KeptExists backoff_pair) × (UpdatedExists assigned_pair × UpdatedExists backoff_pair)

module _ (exists : AdvertisedExists) (lists : HasLists) (free_or_full : FreeOrFull) (inside_are : InsideAreSubPrefixes) (not_shorter : WithinIsNotShorter) (view : PlainView) (stream : ℕ → ℕ) where
  some_step : (wish : Wish) (before : Ran) → IsProper wish → IsInOrder before → Begins before.words stream
      → Some! (λ (after : Ran). (words : List ℕ) × IsPairStep view wish words before after × Begins after.words stream)
  some_step wish before good up begins =
      let pair = wish_pair wish in
      let adv = exists view before.held.assigned in
      let assigned = has_some assigned_pair pair before.held.assigned in
      let backoff = has_some backoff_pair pair before.held.backoffs in
      let old : Slot = record { assigned = assigned.0; backoff = backoff.0 } in
      let of_pair : IsOfPair pair old = record {
        assigned = has_own assigned_pair pair before.held.assigned assigned.0 assigned.1;
        backoff = has_own backoff_pair pair before.held.backoffs backoff.0 backoff.1;
      } in
      some_then (some_turn (scene_of view wish adv.0) (stream (length before.words)) free_or_full inside_are not_shorter good.valid good.fits.at_most old of_pair) (λ t out.
      some_then (lists.1.0 pair t.0.assigned before.held.assigned up.assigned out.of_pair.assigned) (λ xs xs_are.
      some_then (lists.1.1 pair t.0.backoff before.held.backoffs up.backoffs out.of_pair.backoff) (λ ys ys_are none.
      none (record { held = record { assigned = xs; backoffs = ys }; words = before.words ++ t.1 }) (
        t.1,
        record {
          advertised = adv.0;
          are_advertised = adv.1;
          old = old;
          had = record { assigned = assigned.1; backoff = backoff.1 };
          new = t.0;
          turn = out.turn;
          assigned = xs_are;
          backoffs = ys_are;
          took = refl;
        },
        begins_up_to before.words t.1 stream out.words begins,
      ))))

  some_steps : (wishes : List Wish) (before : Ran) → ((wish : Wish) → Contains wishes wish → IsProper wish) → IsInOrder before → Begins before.words stream
      → Some! (λ (last : Ran). AreSteps view wishes before last × Begins last.words stream)
  some_steps [] before good up begins = some_is (λ (last : Ran). AreSteps view [] before last × Begins last.words stream) before (refl, begins)
  some_steps (wish ∷ wishes) before good up begins =
      some_then (some_step wish before (good wish (Contains-head wish wishes)) up begins) (λ between step.
      some_then (some_steps wishes between (λ w h. good w (Contains-tail wish wishes w h)) (step_in_order view wish step.0 before between step.1) step.2) (λ last steps none.
      none last ((between, step.0, step.1, steps.0), steps.1)))

  some_run : (wishes : List Wish) (held : Held) → IsAscending assigned_pair held.assigned → IsAscending backoff_pair held.backoffs → ((wish : Wish) → Contains wishes wish → IsProper wish)
      → Some! (λ (ran : Ran). IsSubroutine view wishes held ran × Begins ran.words stream)
  some_run wishes held up ups good =
      some_then (lists.0.0 wishes held.assigned up) (λ xs xs_are.
      some_then (lists.0.1 wishes held.backoffs ups) (λ ys ys_are.
      let begun : Ran = record { held = record { assigned = xs; backoffs = ys }; words = [] } in
      some_then (some_steps wishes begun good (record { assigned = xs_are.ascending; backoffs = ys_are.ascending }) (λ i within. absurd (omega (arith, within)))) (λ last steps none.
      none (with_marks view.now last) (
        record { begun = begun; is_begun = record { assigned = xs_are; backoffs = ys_are; took = refl }; last = last; steps = steps.0; marks = refl },
        steps.1,
      ))))

  -- ---- with each backoff due

  -- the backoff of a wish, due at the moment of the view
  abbrev due : Wish → Backoff
  due wish = due_backoff wish view.now

  abbrev IsWithout : List Assigned → Wish → Type 0
  IsWithout assigned wish = HasAt assigned_pair (wish_pair wish) None assigned

  all_due : (wishes ws : List Wish) (assigned : List Assigned) → IsPart (on wish_pair pair_cmp) (IsWithout assigned) wishes ws
      → AreDue wishes view.now (record { assigned = assigned; backoffs = map due ws })
  all_due wishes ws assigned part b = (
    λ h. let was = Contains-from_map due ws b h in let there = (part.1 was.0).0 was.1 in (was.0, there.0, there.1, sym was.2),
    λ (w, there, without, is). subst (Contains (map due ws)) (sym is) (Contains-map due ws w ((part.1 w).1 (there, without))),
  )

  some_due : (wishes : List Wish) (assigned : List Assigned) → IsAscending wish_pair wishes → IsAscending assigned_pair assigned → ((wish : Wish) → Contains wishes wish → IsProper wish)
      → Some! (λ (ran : Ran). IsDueRun view wishes assigned ran × Begins ran.words stream)
  some_due wishes assigned ups up good =
      some_then (some_part (on wish_pair pair_cmp) (IsWithout assigned) wishes ups) (λ ws part.
      let held : Held = record { assigned = assigned; backoffs = map due ws } in
      some_then (some_run wishes held up ((sorted_parts due (on backoff_pair pair_cmp) ws).0 part.0) good) (λ ran run none.
      none ran (record { backoffs = map due ws; are_due = all_due wishes ws assigned part; is_subroutine = run.0 }, run.1)))

-- ---- the laws

all_proper : (wishes : List Wish) → All IsFitting wishes → All (λ wish. IsPrefix wish.delegated) wishes → (wish : Wish) → Contains wishes wish → IsProper wish
all_proper wishes fits valid wish h = record { fits = all_each IsFitting wishes fits wish h; valid = all_each (λ (w : Wish). IsPrefix w.delegated) wishes valid wish h }

module _ (exists : AdvertisedExists) (lists : HasLists) (free_or_full : FreeOrFull) (inside_are : InsideAreSubPrefixes) (not_shorter : WithinIsNotShorter) where
  pub some_result : SubroutineHasAResult
  some_result view wishes held stream up ups fits valid = some_run exists lists free_or_full inside_are not_shorter view stream wishes held up ups (all_proper wishes fits valid)

  pub some_due_run : SubroutineHasADueRun
  some_due_run view wishes assigned stream ups up fits valid = some_due exists lists free_or_full inside_are not_shorter view stream wishes assigned ups up (all_proper wishes fits valid)
