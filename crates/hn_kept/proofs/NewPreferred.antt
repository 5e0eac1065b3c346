-- Where a pair without an assignment publishes one after a tick, the tick made it anew.
use Rattle.hn_base.proofs.Names.{◌≡◌, ◌∙◌, ℕ, List, [], ◌∷◌, ◌++◌, Contains, Option, None, Some, refl, sym, ap, subst, inl, inr, All-contains, Contains-append_right, append_assoc, same_Some, HasAt, IsTotalOrder}
use Rattle.hn_base.proofs.AscendingLists.{nothing_in, Contains-head, Contains-cases, Contains-from_map, below_head, not_below_itself}
use Rattle.hn_base.proofs.AtKey.{has_one}
use Rattle.hn_base.proofs.Names.{on, sorted_tail, Less}
use Rattle.hn_assign.specs.declared.advertised.Advertised.{Advertised}
use Rattle.hn_pair.specs.declared.assigned.Assigned.{Assigned}
use Rattle.hn_pair.specs.declared.assigned.Wish.{Wish}
use Rattle.hn_pair.specs.declared.held.Held.{Held}
use Rattle.hn_assign.specs.declared.ran.Ran.{Ran}
use Rattle.hn_assign.specs.declared.slot.Slot.{Slot}
use Rattle.hn_assign.specs.Laws.{AssignedAreWished}
use Rattle.hn_assign.specs.Lines.{IsLine, IsPairTurn}
use Rattle.hn_pair.specs.Marks.{marked_applied}
use Rattle.hn_pair.specs.Pair.{IsAscending, IsWished, assigned_pair, wish_pair, pair_cmp}
use Rattle.hn_assign.specs.Scene.{PlainScene, scene_of, new_assigned}
use Rattle.hn_assign.specs.Step.{IsPairStep}
use Rattle.hn_assign.specs.Subroutine.{IsBegun, AreSteps}
use Rattle.hn_assign.specs.Unassigned.{IsMade}
use Rattle.hn_deleg.specs.declared.delegated.Delegated.{Delegated}
use Rattle.hn_deleg.specs.Used.{AreUsable}
use Rattle.hn_rules.specs.declared.running.Running.{Running}
use Rattle.hn_rules.specs.declared.state.State.{State}
use Rattle.hn_rules.specs.Assigning.{AreAsked, IsRunAssigned}
use Rattle.hn_rules.specs.Rules.{begun_at, words_taken}
use Rattle.hn_rules.specs.Tick.{forgetting}
use Rattle.hn_rules.specs.Ticks.{IsLosing, IsTick}
use Rattle.hn_kept.specs.declared.preferred.Preferred.{Preferred}
use Rattle.hn_kept.specs.Anew.{view_after, IsMadeAnew}
use Rattle.hn_kept.specs.Laws.{NewIsPreferred, published_at}
use Rattle.hn_kept.specs.Preferred.{preferred_pair}
use Rattle.hn_kept.proofs.HeldInTick.{losing_holds, refresh_holds, ports_hold, refresh_takes, ports_take}
use Rattle.hn_kept.proofs.StepsOfPairs.{steps_split, steps_take, others_stay}
use Rattle.hn_kept.proofs.ThroughTurns.{in_turn}
use Rattle.hn_kept.proofs.TurnOutcomes.{back_ascends, marked_parts, tick_happened}
use Rattle.hn_kept.proofs.FreePublished.{FreeLaws, only_one, is_published}

-- only where its assignment is made anew has a pair one afterwards that is published, and none before
new_line : (at : PlainScene) (best : Option Advertised) (before : Slot) (words : List ℕ) (after : Slot) (c : Assigned) (priority : ℕ)
    → before.assigned ≡ None → after.assigned ≡ Some c → c.published ≡ Some priority → IsLine at best None before words after
    → (word : ℕ) × (words ≡ word ∷ []) × IsMade at before (word ∷ []) after
new_line at (Some best) before words after c priority none some published line =
    let same = sym (ap (λ (slot : Slot). slot.assigned) line.0.gives) ∙ some in
    let one : new_assigned at best.prefix None ≡ c = same_Some (new_assigned at best.prefix None) c same in
    absurd (let clash = ap (λ (x : Assigned). x.published) one ∙ published in cc)
new_line at None before words after c priority none some published (inl left) =
    absurd (let clash = sym none ∙ sym (ap (λ (slot : Slot). slot.assigned) left.gives) ∙ some in cc)
new_line at None before words after c priority none some published (inr (inl postponed)) =
    absurd (let clash = sym none ∙ sym (ap (λ (slot : Slot). slot.assigned) postponed.gives) ∙ some in cc)
new_line at None before words after c priority none some published (inr (inr (inl waiting))) =
    absurd (let clash = sym none ∙ sym (ap (λ (slot : Slot). slot.assigned) waiting.gives) ∙ some in cc)
new_line at None before words after c priority none some published (inr (inr (inr made))) = (
  made.word,
  made.took,
  record {
    wanted = made.wanted;
    backoff = made.backoff;
    is = made.is;
    due = made.due;
    word = made.word;
    prefix = made.prefix;
    free = made.free;
    first = made.first;
    gives = made.gives;
    took = refl;
  },
)

regrouped : (lost before taken behind more : List ℕ) → lost ++ (((before ++ taken) ++ behind) ++ more) ≡ (lost ++ before) ++ (taken ++ (behind ++ more))
regrouped lost before taken behind more = simp append_assoc

-- a list around an element
around : {X : Type 0} (xs : List X) (x : X) → Contains xs x → (front : List X) × (back : List X) × (xs ≡ front ++ x ∷ back)
around [] x there = absurd (nothing_in x there)
around (y ∷ ys) x there = elim (Contains-cases y ys x there) [
  | inl same ↦ ([], ys, ap (λ z. z ∷ ys) same)
  | inr later ↦ let (front, back, is) = around ys x later in (y ∷ front, back, ap (λ zs. y ∷ zs) is)
]

-- each pair before another one in order is another
front_other : IsTotalOrder pair_cmp → (front : List Wish) (wish : Wish) (back : List Wish) → IsAscending wish_pair (front ++ wish ∷ back)
    → (w : Wish) → Contains front w → ¬ (wish_pair wish ≡ wish_pair w)
front_other total [] wish back up w there same = nothing_in w there
front_other total (v ∷ front) wish back up w there same = elim (Contains-cases v front w there) [
  | inl here ↦ not_below_itself pair_cmp total (wish_pair w) (wish_pair wish) (sym same)
      (subst (λ (x : Wish). pair_cmp (wish_pair x) (wish_pair wish) ≡ Less) here
      (below_head (on wish_pair pair_cmp) v (front ++ wish ∷ back) up wish (Contains-append_right front (wish ∷ back) wish (Contains-head wish back))))
  | inr later ↦ front_other total front wish back (sorted_tail (on wish_pair pair_cmp) v (front ++ wish ∷ back) up) w later same
]

module _ (total : IsTotalOrder pair_cmp) (now : ℕ) (s : State) (f : Preferred) (c : Assigned) (priority : ℕ)
    (none : HasAt assigned_pair (preferred_pair f) None s.held.assigned) (of_pair : assigned_pair c ≡ preferred_pair f) (published : c.published ≡ Some priority) where
  -- the turn of the pair, found in the steps of a tick
  in_steps : (lost : Running) → IsLosing (begun_at now s) lost → (usable : List Delegated) → AreUsable (view_after lost) usable
      → (front : List Wish) (wish : Wish) (back : List Wish) → AreAsked (forgetting lost).state usable (front ++ wish ∷ back) → wish_pair wish ≡ preferred_pair f
      → (begun last : Ran) → IsBegun (front ++ wish ∷ back) lost.state.held begun → AreSteps (view_after lost) (front ++ wish ∷ back) begun last
      → Contains last.held.assigned c → (words more : List ℕ) → words ≡ lost.done.words ++ (last.words ++ more) → IsMadeAnew now s words f
  in_steps lost losing usable are_usable front wish back asked is begun last is_begun steps in_last words more words_are =
      let view = view_after lost in
      let (before, earlier, (next, taken, step, later)) = steps_split view front (wish ∷ back) begun last steps in
      let same : assigned_pair c ≡ wish_pair wish = of_pair ∙ sym is in
      let rising = back_ascends front (wish ∷ back) asked.ascending in
      let in_next : Contains next.held.assigned c =
      (others_stay view back next last c later (λ w there is_w. not_below_itself pair_cmp total (wish_pair wish) (wish_pair w) (sym same ∙ is_w)
      (below_head (on wish_pair pair_cmp) wish back rising w there))).0 in_last in
      let none_lost : HasAt assigned_pair (preferred_pair f) None lost.state.held.assigned =
      subst (λ (h : Held). HasAt assigned_pair (preferred_pair f) None h.assigned) (sym (ap (λ (p : Held × ℕ). p.0) (losing_holds (begun_at now s) lost losing))) none in
      let none_before : HasAt assigned_pair (wish_pair wish) None before.held.assigned =
      λ x there is_x. none_lost x ((is_begun.assigned.those x).0 ((others_stay view front begun before x earlier
      (λ w in_front is_w. front_other total front wish back asked.ascending w in_front (sym is_x ∙ is_w))).0 there)).0 (is_x ∙ is) in
      let was : step.old.assigned ≡ None = no_assigned step.old.assigned before.held.assigned wish step.had.assigned none_before in
      let gets : step.new.assigned ≡ Some c =
      has_one assigned_pair pair_cmp total (wish_pair wish) next.held.assigned step.new.assigned (Some c) step.assigned.ascending step.assigned.here (in_next, same) in
      let scene = scene_of view wish step.advertised in
      let (word, takes, made) = new_line scene step.turn.best step.old taken step.new c priority was gets published
      (subst (λ (o : Option Assigned). IsLine scene step.turn.best o step.old taken step.new) was step.turn.line) in
      let (behind, behind_is) = steps_take view back next last later in
      made_anew lost losing usable are_usable front wish back asked is begun is_begun before earlier next word taken takes step made words (behind ++ more)
      (words_are ∙ ap (λ (ws : List ℕ). lost.done.words ++ (ws ++ more)) (behind_is ∙ ap (λ (ws : List ℕ). ws ++ behind) step.took)
      ∙ regrouped lost.done.words before.words taken behind more)
    where
      no_assigned : (o : Option Assigned) (xs : List Assigned) (wish : Wish) → HasAt assigned_pair (wish_pair wish) o xs → HasAt assigned_pair (wish_pair wish) None xs → o ≡ None
      no_assigned None xs wish has none = refl
      no_assigned (Some x) xs wish has none = absurd (none x has.0 has.1)

      made_anew : (lost : Running) → IsLosing (begun_at now s) lost → (usable : List Delegated) → AreUsable (view_after lost) usable
          → (front : List Wish) (wish : Wish) (back : List Wish) → AreAsked (forgetting lost).state usable (front ++ wish ∷ back) → wish_pair wish ≡ preferred_pair f
          → (begun : Ran) → IsBegun (front ++ wish ∷ back) lost.state.held begun → (before : Ran) → AreSteps (view_after lost) front begun before
          → (next : Ran) (word : ℕ) (taken : List ℕ) → taken ≡ word ∷ [] → (step : IsPairStep (view_after lost) wish taken before next)
          → IsMade (scene_of (view_after lost) wish step.advertised) step.old (word ∷ []) step.new
          → (words rest : List ℕ) → words ≡ (lost.done.words ++ before.words) ++ (taken ++ rest) → IsMadeAnew now s words f
      made_anew lost losing usable are_usable front wish back asked is begun is_begun before earlier next word taken takes step made words rest took = record {
        turn = record {
          lost = lost;
          is_lost = losing;
          usable = usable;
          are_usable = are_usable;
          earlier = front;
          wish = wish;
          later = back;
          are_asked = asked;
          of_pair = is;
          begun = begun;
          is_begun = is_begun;
          before = before;
          steps = earlier;
        };
        word = word;
        after = next;
        step = record {
          advertised = step.advertised;
          are_advertised = step.are_advertised;
          old = step.old;
          had = step.had;
          new = step.new;
          turn = subst (λ (ws : List ℕ). IsPairTurn (scene_of (view_after lost) wish step.advertised) step.old ws step.new) takes step.turn;
          assigned = step.assigned;
          backoffs = step.backoffs;
          took = step.took ∙ ap (λ (ws : List ℕ). before.words ++ ws) takes;
        };
        made = made;
        rest = rest;
        took = took ∙ ap (λ (ws : List ℕ). (lost.done.words ++ before.words) ++ (ws ++ rest)) takes;
      }

module _ (total : IsTotalOrder pair_cmp) (now : ℕ) (s : State) (f : Preferred) (c : Assigned) (priority : ℕ)
    (none : HasAt assigned_pair (preferred_pair f) None s.held.assigned) (of_pair : assigned_pair c ≡ preferred_pair f) (published : c.published ≡ Some priority) where
  -- and in a tick
  pub in_tick : AssignedAreWished → (end : Running) → IsTick (begun_at now s) end → Contains end.state.held.assigned c → IsMadeAnew now s end.done.words f
  in_tick wished end (lost, losing, (gone, is_gone, (settled, (mid, assigning, refreshed), ports))) there =
      let (more_after, after) = ports_take settled end ports in
      let (more, settling) = refresh_takes mid settled refreshed in
      let ran = assigning.ran in
      let held : end.state.held ≡ ran.held =
      ap (λ (p : Held × ℕ). p.0) (ports_hold settled end ports ∙ refresh_holds mid settled refreshed) ∙ ap (λ (r : Running). r.state.held) assigning.gives in
      let words : end.done.words ≡ lost.done.words ++ (ran.words ++ (more ++ more_after)) =
      after
      ∙ ap (λ (ws : List ℕ). ws ++ more_after) (settling ∙ ap (λ (ws : List ℕ). ws ++ more) (ap words_taken assigning.gives ∙ ap (λ (r : Running). r.done.words ++ ran.words) is_gone))
      ∙ in_turn lost.done.words ran.words more more_after in
      in_run lost losing ran (subst (λ (r : Running). IsRunAssigned r.state ran) is_gone assigning.is_assigned)
      (subst (λ (h : Held). Contains h.assigned c) held there) end.done.words (more ++ more_after) words
    where
      in_run : (lost : Running) → IsLosing (begun_at now s) lost → (ran : Ran) → IsRunAssigned (forgetting lost).state ran → Contains ran.held.assigned c
          → (words rest : List ℕ) → words ≡ lost.done.words ++ (ran.words ++ rest) → IsMadeAnew now s words f
      in_run lost losing ran run in_ran words rest words_are =
          let view = view_after lost in
          let sub = run.is_subroutine in
          let (wish, asked, is) = All-contains (λ (x : Assigned). IsWished run.wishes (assigned_pair x)) ran.held.assigned c (wished view run.wishes lost.state.held ran sub) in_ran in
          let (front, back, whole) = around run.wishes wish asked in
          let (d, in_last, marked) = Contains-from_map (marked_applied lost.state.moment) sub.last.held.assigned c (subst (λ (r : Ran). Contains r.held.assigned c) sub.marks in_ran) in
          let at = lost.state.moment in
          let pair : assigned_pair d ≡ preferred_pair f = sym (marked_parts at d).0 ∙ ap assigned_pair marked ∙ of_pair in
          let said : d.published ≡ Some priority = sym (marked_parts at d).1 ∙ ap (λ (x : Assigned). x.published) marked ∙ published in
          in_steps total now s f d priority none pair said lost losing run.usable run.are_usable front wish back
          (subst (λ (ws : List Wish). AreAsked (forgetting lost).state run.usable ws) whole run.are_asked) (is ∙ of_pair) sub.begun sub.last
          (subst (λ (ws : List Wish). IsBegun ws lost.state.held sub.begun) whole sub.is_begun) (subst (λ (ws : List Wish). AreSteps view ws sub.begun sub.last) whole sub.steps)
          in_last words rest (words_are ∙ ap (λ (r : Ran). lost.done.words ++ (r.words ++ rest)) sub.marks)

pub new_is_preferred : FreeLaws → AssignedAreWished → NewIsPreferred
new_is_preferred laws wished now before after f c priority tick none there of_pair published =
    let to = tick_happened now before.router after.router after.done tick.acts.happened in
    let in_end = subst (λ (h : Held). Contains h.assigned c) to.held there in
    let anew : IsMadeAnew now before.router after.done.words f =
    subst (λ (ws : List ℕ). IsMadeAnew now before.router ws f) (sym to.words_are)
    (in_tick laws.turns.total now before.router f c priority none of_pair published wished to.end to.ticked in_end) in (
      anew,
      λ of free. only_one laws now before after f tick c (published_at now f) there (is_published laws now before after f tick anew of free) of_pair,
    )
