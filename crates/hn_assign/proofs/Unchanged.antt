-- Where the subroutine changes no assignment, each pair is at rest.
use Rattle.hn_base.proofs.Names.{◌≡◌, ◌∙◌, ℕ, List, [], ◌∷◌, Contains, map, Option, None, Some, refl, sym, ap, subst, ⊎_elim, arith, option_map, on, Less, All-contains, All-from_recursion}
use Rattle.hn_base.proofs.Names.{sorted_head, sorted_tail, HasAt}
use Rattle.hn_assign.proofs.Names.{not_below_itself, Contains-head, Contains-tail, Contains-cases, PlainView, Advertised, Assigned, Wish, Backoff, Held, Ran, Pair, unmarked, AreAssignmentsUnchanged}
use Rattle.hn_assign.proofs.Names.{AreDue, AreAtRest, AreAdvertised, assigned_pair, backoff_pair, wish_pair, pair_cmp, IsAscending, IsWished, Updates, IsAtRest, IsPairStep, AreSteps, IsSubroutine}
use Rattle.hn_assign.proofs.Orders.{pair_total}
use Rattle.hn_assign.proofs.AtPair.{has_one, has_still, updates_none}
use Rattle.hn_assign.proofs.Rests.{begun_same, marks_unchanged, alike, line_rests, rest_in}
use Rattle.hn_assign.proofs.SameAdvertised.{same_advertised}
use Rattle.hn_assign.proofs.OneResult.{IsInOrder, step_in_order}

-- the backoff of a wish that is due at a moment
abbrev pub due_backoff : Wish → ℕ → Backoff
due_backoff wish now = record { delegated = wish.delegated; endpoint = wish.endpoint; due = now }

-- wished pairs without an assignment have a backoff that is due
abbrev DueIn : List Wish → List Assigned → ℕ → List Backoff → Type 0
DueIn wishes xs now backoffs = (wish : Wish) → Contains wishes wish → HasAt assigned_pair (wish_pair wish) None xs → HasAt backoff_pair (wish_pair wish) (Some (due_backoff wish now)) backoffs

-- a later wish is for another pair
pub later_other : (wish : Wish) (wishes : List Wish) (w : Wish) → IsAscending wish_pair (wish ∷ wishes) → Contains wishes w → ¬ (wish_pair wish ≡ wish_pair w)
later_other wish wishes w up h same =
    not_below_itself pair_cmp pair_total (wish_pair wish) (wish_pair w) same (All-contains (λ z. pair_cmp (wish_pair wish) (wish_pair z) ≡ Less) wishes w
    (All-from_recursion (λ z. pair_cmp (wish_pair wish) (wish_pair z) ≡ Less) wishes (sorted_head (on wish_pair pair_cmp) wish wishes up)) h)

pub steps_in_order : (view : PlainView) (wishes : List Wish) (before after : Ran) → IsInOrder before → AreSteps view wishes before after → IsInOrder after
steps_in_order view [] before after up same = subst IsInOrder (sym same) up
steps_in_order view (wish ∷ wishes) before after up steps = steps_in_order view wishes steps.0 after (step_in_order view wish steps.1 before steps.0 steps.2) steps.3

-- steps for other pairs leave what a pair has
pub steps_leave : (view : PlainView) (wishes : List Wish) (before after : Ran) (pair : Pair) (has : Option Assigned)
    → ((w : Wish) → Contains wishes w → ¬ (pair ≡ wish_pair w)) → AreSteps view wishes before after
    → HasAt assigned_pair pair has before.held.assigned → HasAt assigned_pair pair has after.held.assigned
steps_leave view [] before after pair has other same here = subst (λ (r : Ran). HasAt assigned_pair pair has r.held.assigned) (sym same) here
steps_leave view (wish ∷ wishes) before after pair has other steps here =
    let step = steps.2 in
    steps_leave view wishes steps.0 after pair has (λ w h. other w (Contains-tail wish wishes w h)) steps.3
    (has_still assigned_pair (wish_pair wish) pair step.new.assigned has before.held.assigned steps.0.held.assigned step.assigned (other wish (Contains-head wish wishes)) here)

-- the step of a pair that changes nothing in the end
record Rests (view : PlainView) (wish : Wish) (xs : List Assigned) (adv : List Advertised) (between : Ran) : Type 0 where
  rest : (c : Option Assigned) → HasAt assigned_pair (wish_pair wish) c xs → IsAtRest adv view.own wish c
  same : between.held.assigned ≡ xs

step_rests : (view : PlainView) (wish : Wish) (words : List ℕ) (before between after : Ran) (xs : List Assigned) (adv : List Advertised) → IsAscending assigned_pair xs → AreAdvertised view xs adv
    → IsInOrder before → IsInOrder after → before.held.assigned ≡ xs
    → (HasAt assigned_pair (wish_pair wish) None xs → HasAt backoff_pair (wish_pair wish) (Some (due_backoff wish view.now)) before.held.backoffs)
    → map unmarked after.held.assigned ≡ map unmarked xs
    → (step : IsPairStep view wish words before between) → HasAt assigned_pair (wish_pair wish) step.new.assigned after.held.assigned → Rests view wish xs adv between
step_rests view wish words before between after xs adv up are order order_after is due unchanged step stays =
    let pair = wish_pair wish in
    let had : HasAt assigned_pair pair step.old.assigned xs = subst (HasAt assigned_pair pair step.old.assigned) is step.had.assigned in
    let same_mark : option_map unmarked step.new.assigned ≡ option_map unmarked step.old.assigned =
    alike pair after.held.assigned xs step.new.assigned step.old.assigned order_after.assigned up unchanged stays had in
    let backoff : step.old.assigned ≡ None → (b : Backoff) × (step.old.backoff ≡ Some b) × (b.due ≡ view.now) =
    λ none. (
      due_backoff wish view.now,
      has_one backoff_pair pair before.held.backoffs step.old.backoff
          (Some (due_backoff wish view.now)) order.backoffs step.had.backoff (due (subst (λ (o : Option Assigned). HasAt assigned_pair pair o xs) none had)),
      refl,
    ) in
    let rested = line_rests view wish step.advertised step.turn.best step.old.assigned step.old step.new words step.turn.is_best step.turn.line refl backoff same_mark in
    let here : AreAdvertised view xs step.advertised = subst (λ (ys : List Assigned). AreAdvertised view ys step.advertised) is step.are_advertised in
    let at_adv : IsAtRest adv view.own wish step.old.assigned = rest_in step.advertised adv view.own wish step.old.assigned (same_advertised view xs step.advertised adv here are) rested.0 in
    record {
      rest = λ c has. subst (IsAtRest adv view.own wish) (has_one assigned_pair pair xs step.old.assigned c up had has) at_adv;
      same = updates_none assigned_pair pair step.old.assigned xs between.held.assigned up had
          (subst (λ (ys : List Assigned). Updates assigned_pair pair step.old.assigned ys between.held.assigned) is
          (subst (λ (o : Option Assigned). Updates assigned_pair pair o before.held.assigned between.held.assigned) rested.1 step.assigned));
    }

steps_rest : (view : PlainView) (wishes : List Wish) (before after : Ran) (xs : List Assigned) (adv : List Advertised)
    → IsAscending assigned_pair xs → AreAdvertised view xs adv → IsAscending wish_pair wishes
    → IsInOrder before → before.held.assigned ≡ xs → DueIn wishes xs view.now before.held.backoffs
    → map unmarked after.held.assigned ≡ map unmarked xs → AreSteps view wishes before after → AreAtRest adv view.own wishes xs
steps_rest view [] before after xs adv up are ups order is due unchanged steps = λ w h. absurd (omega (arith, h.1))
steps_rest view (wish ∷ wishes) before after xs adv up are ups order is due unchanged steps =
    let step = steps.2 in
    let pair = wish_pair wish in
    let next = step_in_order view wish steps.1 before steps.0 step in
    let stays = steps_leave view wishes steps.0 after pair step.new.assigned (λ w h. later_other wish wishes w ups h) steps.3 step.assigned.here in
    let rests =
    step_rests view wish steps.1 before steps.0 after xs adv up are order (steps_in_order view wishes steps.0 after next steps.3) is (due wish (Contains-head wish wishes)) unchanged step stays in
    let due_next : DueIn wishes xs view.now steps.0.held.backoffs =
    λ w h none. has_still backoff_pair pair (wish_pair w) step.new.backoff (Some (due_backoff w view.now)) before.held.backoffs steps.0.held.backoffs step.backoffs
    (λ same. later_other wish wishes w ups h (sym same)) (due w (Contains-tail wish wishes w h) none) in
    let rest = steps_rest view wishes steps.0 after xs adv up are (sorted_tail (on wish_pair pair_cmp) wish wishes ups) next rests.same due_next unchanged steps.3 in
    λ w h. ⊎_elim (λ (first : wish ≡ w). subst (λ (v : Wish). (c : Option Assigned) → HasAt assigned_pair (wish_pair v) c xs → IsAtRest adv view.own v c) first rests.rest)
    (λ (later : Contains wishes w). rest w later) (Contains-cases wish wishes w h)

pub unchanged_rests : (view : PlainView) (wishes : List Wish) (held : Held) (ran : Ran) (adv : List Advertised) → IsAscending wish_pair wishes → IsAscending assigned_pair held.assigned
    → ((c : Assigned) → Contains held.assigned c → IsWished wishes (assigned_pair c)) → AreDue wishes view.now held → AreAdvertised view held.assigned adv → IsSubroutine view wishes held ran
    → AreAssignmentsUnchanged held.assigned ran.held.assigned → AreAtRest adv view.own wishes held.assigned
unchanged_rests view wishes held ran adv ups up all due are run unchanged =
    let begun = run.is_begun in
    let same = begun_same wishes held.assigned run.begun.held.assigned up all begun.assigned in
    let order : IsInOrder run.begun = record { assigned = begun.assigned.ascending; backoffs = begun.backoffs.ascending } in
    let last : map unmarked run.last.held.assigned ≡ map unmarked held.assigned =
    sym (marks_unchanged view.now run.last.held.assigned) ∙ sym (ap (λ (r : Ran). map unmarked r.held.assigned) run.marks) ∙ unchanged in
    let dues : DueIn wishes held.assigned view.now run.begun.held.backoffs =
    λ w h none. ((begun.backoffs.those (due_backoff w view.now)).1 ((due (due_backoff w view.now)).1 (w, h, none, refl), (w, h, refl)), refl) in
    steps_rest view wishes run.begun run.last held.assigned adv up are ups order same dues last run.steps
