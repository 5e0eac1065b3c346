-- What the subroutine leaves: lists in order, of wished pairs.
use Rattle.hn_base.proofs.Names.{◌≡◌, ◌∙◌, List, [], ◌∷◌, Contains, Option, sym, ap, subst, ⊎_elim, All}
use Rattle.hn_assign.proofs.Names.{Contains-from_map, Contains-head, Contains-tail, PlainView, Assigned, Wish, Backoff, Held, Ran, Pair, marked_applied, assigned_pair, backoff_pair, wish_pair}
use Rattle.hn_assign.proofs.Names.{IsAscending, IsWished, Updates, AreSteps, IsSubroutine}
use Rattle.hn_assign.proofs.AtPair.{pair_cases}
use Rattle.hn_assign.proofs.KeptFacts.{Each, each_all}
use Rattle.hn_assign.proofs.Marking.{ascending_marked, marked_pair}
use Rattle.hn_assign.proofs.OneResult.{IsInOrder}
use Rattle.hn_assign.proofs.Unchanged.{steps_in_order}

last_in_order : (view : PlainView) (wishes : List Wish) (held : Held) (ran : Ran) → (run : IsSubroutine view wishes held ran) → IsInOrder run.last
last_in_order view wishes held ran run = steps_in_order view wishes run.begun run.last (record { assigned = run.is_begun.assigned.ascending; backoffs = run.is_begun.backoffs.ascending }) run.steps

pub assigned_ascend : (view : PlainView) (wishes : List Wish) (held : Held) (ran : Ran) → IsSubroutine view wishes held ran → IsAscending assigned_pair ran.held.assigned
assigned_ascend view wishes held ran run = subst (λ (r : Ran). IsAscending assigned_pair r.held.assigned) (sym run.marks)
    (ascending_marked view.now run.last.held.assigned (last_in_order view wishes held ran run).assigned)

pub backoffs_ascend : (view : PlainView) (wishes : List Wish) (held : Held) (ran : Ran) → IsSubroutine view wishes held ran → IsAscending backoff_pair ran.held.backoffs
backoffs_ascend view wishes held ran run = subst (λ (r : Ran). IsAscending backoff_pair r.held.backoffs) (sym run.marks) (last_in_order view wishes held ran run).backoffs

-- an update for a wished pair
update_wished : {A : Type 0} (key : A → Pair) (wishes : List Wish) (wish : Wish) (new : Option A) (before after : List A)
    → Contains wishes wish → Updates key (wish_pair wish) new before after → Each (λ x. IsWished wishes (key x)) before → Each (λ x. IsWished wishes (key x)) after
update_wished key wishes wish new before after in_wishes u each x h =
    ⊎_elim (λ (same : key x ≡ wish_pair wish). (wish, in_wishes, sym same)) (λ (not : ¬ (key x ≡ wish_pair wish)). each x ((u.others x not).0 h)) (pair_cases (key x) (wish_pair wish))

-- all that is held is of wished pairs
record AllWished (wishes : List Wish) (r : Ran) : Type 0 where
  assigned : Each (λ (c : Assigned). IsWished wishes (assigned_pair c)) r.held.assigned
  backoffs : Each (λ (b : Backoff). IsWished wishes (backoff_pair b)) r.held.backoffs

steps_wished : (view : PlainView) (all wishes : List Wish) (before after : Ran)
    → ((w : Wish) → Contains wishes w → Contains all w) → AreSteps view wishes before after → AllWished all before → AllWished all after
steps_wished view all [] before after those same wished = subst (AllWished all) (sym same) wished
steps_wished view all (wish ∷ wishes) before after those steps wished =
    let step = steps.2 in
    let here = those wish (Contains-head wish wishes) in
    steps_wished view all wishes steps.0 after (λ w h. those w (Contains-tail wish wishes w h)) steps.3 (record {
      assigned = update_wished assigned_pair all wish step.new.assigned before.held.assigned steps.0.held.assigned here step.assigned wished.assigned;
      backoffs = update_wished backoff_pair all wish step.new.backoff before.held.backoffs steps.0.held.backoffs here step.backoffs wished.backoffs;
    })

last_wished : (view : PlainView) (wishes : List Wish) (held : Held) (ran : Ran) → (run : IsSubroutine view wishes held ran) → AllWished wishes run.last
last_wished view wishes held ran run =
    steps_wished view wishes wishes run.begun run.last (λ w h. h) run.steps
    (record { assigned = λ c h. ((run.is_begun.assigned.those c).0 h).1; backoffs = λ b h. ((run.is_begun.backoffs.those b).0 h).1 })

pub assigned_wished : (view : PlainView) (wishes : List Wish) (held : Held) (ran : Ran) → IsSubroutine view wishes held ran → All (λ c. IsWished wishes (assigned_pair c)) ran.held.assigned
assigned_wished view wishes held ran run =
    let last = (last_wished view wishes held ran run).assigned in
    each_all (λ (c : Assigned). IsWished wishes (assigned_pair c)) ran.held.assigned
    (λ c h. let was = Contains-from_map (marked_applied view.now) run.last.held.assigned c (subst (λ (r : Ran). Contains r.held.assigned c) run.marks h) in
    subst (IsWished wishes) (sym (marked_pair view.now was.0) ∙ ap assigned_pair was.2) (last was.0 was.1))

pub backoffs_wished : (view : PlainView) (wishes : List Wish) (held : Held) (ran : Ran) → IsSubroutine view wishes held ran → All (λ b. IsWished wishes (backoff_pair b)) ran.held.backoffs
backoffs_wished view wishes held ran run =
    each_all (λ (b : Backoff). IsWished wishes (backoff_pair b)) ran.held.backoffs
    (λ b h. (last_wished view wishes held ran run).backoffs b (subst (λ (r : Ran). Contains r.held.backoffs b) run.marks h))
