-- Pairs at rest, and the subroutine.
use Rattle.hn_base.proofs.Names.{◌≡◌, ◌∙◌, ◌⊎◌, ℕ, ◌<◌, IsTrue, List, [], ◌∷◌, Contains, map, Option, None, Some, refl, sym, ap, subst, inl, inr, ⊎_elim, arith, option_map, PlainPrefix, IsAbove}
use Rattle.hn_base.proofs.Names.{HaveSame, HasAt, same_Some}
use Rattle.hn_assign.proofs.Names.{Contains-map, Contains-from_map, Contains-head, Contains-tail, PlainView, Advertised, Assigned, Wish, Backoff, Held, Ran, Pair, Slot, key_of, HasNoFree, unmarked}
use Rattle.hn_assign.proofs.Names.{AreAssignmentsUnchanged, AreAtRest, AreAdvertised, IfValid, IsAhead, IsLine, marked_applied, assigned_pair, wish_pair, IsAscending, IsWished, Updates, KeepsWished}
use Rattle.hn_assign.proofs.Names.{IsAtRest, PlainScene, IsBestFor, IsValidFor, IsFreeFor, scene_of, IsPairStep, AreSteps, IsSubroutine}
use Rattle.hn_assign.specs.Rest.{IsAtRestWithout, IsAheadOfBest}
use Rattle.hn_assign.proofs.AtPair.{is_had, same_list, updates_none}
use Rattle.hn_assign.proofs.Marking.{marked_is}
use Rattle.hn_assign.proofs.SameAdvertised.{same_advertised, best_in, best_one, valid_in, none_in}

-- ---- one turn

-- nothing to do, and yet a free prefix
idle_and_free : (adv : List Advertised) (wish : Wish)
    → ¬ (IsTrue wish.wanted) ⊎ HasNoFree adv wish.delegated wish.length → IsTrue wish.wanted → (p : PlainPrefix) → ¬ (IsFreeFor (record { own = 0; now = 0; wish = wish; advertised = adv }) p)
idle_and_free adv wish (inl not) wanted p free = not wanted
idle_and_free adv wish (inr none) wanted p free = none p free

-- at rest by one list of advertised prefixes is at rest by another one of the same
idle_in : (a b : List Advertised) (own : ℕ) (wish : Wish) → HaveSame a b → IsAtRestWithout a own wish → IsAtRestWithout b own wish
idle_in a b own wish same h = record {
  no_best = best_in a b own wish.common wish.delegated None same h.no_best;
  nothing_to_do = ⊎_elim (λ not. inl not) (λ none. inr (none_in a b wish.delegated wish.length same none)) h.nothing_to_do;
}

pub rest_in : (a b : List Advertised) (own : ℕ) (wish : Wish) (c : Option Assigned) → HaveSame a b → IsAtRest a own wish c → IsAtRest b own wish c
rest_in a b own wish None same h = idle_in a b own wish same h
rest_in a b own wish (Some c) same (inl h) = inl (record {
  no_best = best_in a b own wish.common wish.delegated None same h.no_best;
  published = h.published;
  valid = valid_in a b own wish.common c same h.valid;
})
rest_in a b own wish (Some c) same (inr (inl h)) = inr (inl (record {
  best = h.best;
  is_best = best_in a b own wish.common wish.delegated (Some h.best) same h.is_best;
  priority = h.priority;
  published = h.published;
  above = h.above;
  valid = valid_in a b own wish.common c same h.valid;
}))
rest_in a b own wish (Some c) same (inr (inr h)) = inr (inr (record {
  best = h.best;
  is_best = best_in a b own wish.common wish.delegated (Some h.best) same h.is_best;
  unpublished = h.unpublished;
  same = h.same;
}))

module _ (view : PlainView) (wish : Wish) (adv : List Advertised) where
  abbrev at : PlainScene
  at = scene_of view wish adv

  kept_same : (c : Assigned) (before after : Slot) → IfValid at c before before after → (¬ (¬ (IsValidFor at c))) → after.assigned ≡ before.assigned
  kept_same c before after (inl h) valid = ap (λ (s : Slot). s.assigned) h.1
  kept_same c before after (inr h) valid = absurd (valid h.0)

  is_ahead : (b : Advertised) (c : Assigned) → IsBestFor at (Some b) → IsAheadOfBest adv view.own wish c → IsAhead at b c
  is_ahead b c is h =
      let same = same_Some h.best b (best_one adv view.own wish.common wish.delegated (Some h.best) (Some b) h.is_best is) in
      record { priority = h.priority; published = h.published; above = subst (λ (x : Advertised). IsAbove (key_of h.priority view.own wish.endpoint.0) x.key) same h.above }

  -- a pair at rest keeps its assignment
  rest_line : (best : Option Advertised) (c : Option Assigned) (before after : Slot) (words : List ℕ)
      → IsBestFor at best → IsAtRest adv view.own wish c → IsLine at best c before words after → before.assigned ≡ c → after.assigned ≡ before.assigned
  rest_line None None before after words is rest (inl left) had = ap (λ (s : Slot). s.assigned) left.gives
  rest_line None None before after words is rest (inr (inl postponed)) had = ap (λ (s : Slot). s.assigned) postponed.gives
  rest_line None None before after words is rest (inr (inr (inl waiting))) had = ap (λ (s : Slot). s.assigned) waiting.gives
  rest_line None None before after words is rest (inr (inr (inr made))) had = absurd (idle_and_free adv wish rest.nothing_to_do made.wanted made.prefix made.free)
  rest_line (Some b) None before after words is rest line had = absurd (rest.no_best b is.candidate)
  rest_line None (Some c) before after words is (inl alone) (inl kept, _) had = kept_same c before after kept.gives (λ not. not alone.valid)
  rest_line None (Some c) before after words is (inl alone) (inr adopted, _) had = absurd (let clash = sym adopted.unpublished ∙ alone.published.1 in cc)
  rest_line None (Some c) before after words is (inr (inl ahead)) line had = absurd (is ahead.best ahead.is_best.candidate)
  rest_line None (Some c) before after words is (inr (inr follows)) line had = absurd (is follows.best follows.is_best.candidate)
  rest_line (Some b) (Some c) before after words is (inl alone) line had = absurd (alone.no_best b is.candidate)
  rest_line (Some b) (Some c) before after words is (inr (inl ahead)) (inl kept, _) had = kept_same c before after kept.gives (λ not. not ahead.valid)
  rest_line (Some b) (Some c) before after words is (inr (inl ahead)) (inr (inl yielded), _) had = absurd (yielded.not_ahead (is_ahead b c is ahead))
  rest_line (Some b) (Some c) before after words is (inr (inl ahead)) (inr (inr replaced), _) had = absurd (replaced.not_ahead (is_ahead b c is ahead))
  rest_line (Some b) (Some c) before after words is (inr (inr follows)) (inl kept, _) had = absurd (let clash = sym follows.unpublished ∙ kept.ahead.published in cc)
  rest_line (Some b) (Some c) before after words is (inr (inr follows)) (inr (inl yielded), _) had =
      ap (λ (s : Slot). s.assigned) yielded.gives ∙ ap (λ (p : Option ℕ). Some (record c { published = p })) (sym follows.unpublished) ∙ sym had
  rest_line (Some b) (Some c) before after words is (inr (inr follows)) (inr (inr replaced), _) had =
      let same : ◌≡◌ {A = Option Advertised} (Some follows.best) (Some b) = best_one adv view.own wish.common wish.delegated (Some follows.best) (Some b) follows.is_best is in
      absurd (replaced.other (follows.same ∙ ap (λ (x : Advertised). x.prefix) (same_Some follows.best b same)))

-- ---- each pair at rest: nothing changes

-- what is marked is unchanged, and two lists that differ in marks alone are
pub marks_unchanged : (now : ℕ) (xs : List Assigned) → map unmarked (map (marked_applied now) xs) ≡ map unmarked xs
marks_unchanged now [] = refl
marks_unchanged now (x ∷ xs) = rw (marked_is now x) (ap (λ ys. unmarked x ∷ ys) (marks_unchanged now xs))

-- all that is held is of wished pairs: the begin leaves it
pub begun_same : (wishes : List Wish) (xs ys : List Assigned)
    → IsAscending assigned_pair xs → ((c : Assigned) → Contains xs c → IsWished wishes (assigned_pair c)) → KeepsWished assigned_pair wishes xs ys → ys ≡ xs
begun_same wishes xs ys up all keeps = same_list assigned_pair ys xs keeps.ascending up (λ c. (λ h. ((keeps.those c).0 h).0, λ h. (keeps.those c).1 (h, all c h)))

rest_step : (view : PlainView) (wish : Wish) (words : List ℕ) (before after : Ran) (xs : List Assigned) (adv : List Advertised) → IsAscending assigned_pair xs → AreAdvertised view xs adv
    → ((c : Option Assigned) → HasAt assigned_pair (wish_pair wish) c xs → IsAtRest adv view.own wish c)
    → before.held.assigned ≡ xs → IsPairStep view wish words before after → after.held.assigned ≡ xs
rest_step view wish words before after xs adv up are rest is step =
    let here : AreAdvertised view xs step.advertised = subst (λ (ys : List Assigned). AreAdvertised view ys step.advertised) is step.are_advertised in
    let same = same_advertised view xs adv step.advertised are here in
    let had : HasAt assigned_pair (wish_pair wish) step.old.assigned xs = subst (HasAt assigned_pair (wish_pair wish) step.old.assigned) is step.had.assigned in
    let stays : step.new.assigned ≡ step.old.assigned = rest_line view wish step.advertised step.turn.best step.old.assigned step.old step.new words step.turn.is_best
    (rest_in adv step.advertised view.own wish step.old.assigned same (rest step.old.assigned had)) step.turn.line refl in
    updates_none assigned_pair (wish_pair wish) step.old.assigned xs after.held.assigned up had
    (subst (λ (ys : List Assigned). Updates assigned_pair (wish_pair wish) step.old.assigned ys after.held.assigned) is
    (subst (λ (o : Option Assigned). Updates assigned_pair (wish_pair wish) o before.held.assigned after.held.assigned) stays step.assigned))

rest_steps : (view : PlainView) (wishes : List Wish) (before after : Ran) (xs : List Assigned) (adv : List Advertised) → IsAscending assigned_pair xs → AreAdvertised view xs adv
    → AreAtRest adv view.own wishes xs → before.held.assigned ≡ xs → AreSteps view wishes before after → after.held.assigned ≡ xs
rest_steps view [] before after xs adv up are rest is same = ap (λ (r : Ran). r.held.assigned) same ∙ is
rest_steps view (wish ∷ wishes) before after xs adv up are rest is steps =
    rest_steps view wishes steps.0 after xs adv up are (λ w h. rest w (Contains-tail wish wishes w h))
    (rest_step view wish steps.1 before steps.0 xs adv up are (rest wish (Contains-head wish wishes)) is steps.2) steps.3

pub rest_unchanged : (view : PlainView) (wishes : List Wish) (held : Held) (ran : Ran) (adv : List Advertised)
    → IsAscending assigned_pair held.assigned → ((c : Assigned) → Contains held.assigned c → IsWished wishes (assigned_pair c))
    → AreAdvertised view held.assigned adv → IsSubroutine view wishes held ran → AreAtRest adv view.own wishes held.assigned → AreAssignmentsUnchanged held.assigned ran.held.assigned
rest_unchanged view wishes held ran adv up all are run rest =
    let begun = begun_same wishes held.assigned run.begun.held.assigned up all run.is_begun.assigned in
    let last = rest_steps view wishes run.begun run.last held.assigned adv up are rest begun run.steps in
    ap (λ (r : Ran). map unmarked r.held.assigned) run.marks ∙ marks_unchanged view.now run.last.held.assigned ∙ ap (map unmarked) last

-- ---- nothing changes: each pair is at rest

-- what a list has for a pair is, apart from marks, what a list has that is unchanged
pub alike : (pair : Pair) (xs ys : List Assigned) (a b : Option Assigned) → IsAscending assigned_pair xs
    → IsAscending assigned_pair ys → map unmarked xs ≡ map unmarked ys → HasAt assigned_pair pair a xs → HasAt assigned_pair pair b ys → option_map unmarked a ≡ option_map unmarked b
alike pair xs ys None None up_x up_y same p q = refl
alike pair xs ys None (Some y) up_x up_y same p q =
    let there = Contains-from_map unmarked xs (unmarked y) (subst (λ (zs : List Assigned). Contains zs (unmarked y)) (sym same) (Contains-map unmarked ys y q.0)) in
    absurd (p there.0 there.1 (ap assigned_pair there.2 ∙ q.1))
alike pair xs ys (Some x) b up_x up_y same p q =
    let there = Contains-from_map unmarked ys (unmarked x) (subst (λ (zs : List Assigned). Contains zs (unmarked x)) same (Contains-map unmarked xs x p.0)) in
    let is : b ≡ Some there.0 = is_had assigned_pair pair ys b there.0 up_y q there.1 (ap assigned_pair there.2 ∙ p.1) in
    ap Some (sym there.2) ∙ ap (option_map unmarked) (sym is)

unmarked_same : (c d : Assigned) → ◌≡◌ {A = Option Assigned} (Some (unmarked c)) (Some (unmarked d)) → unmarked c ≡ unmarked d
unmarked_same c d same = cc

module _ (view : PlainView) (wish : Wish) (adv : List Advertised) where
  abbrev pub now_at : PlainScene
  now_at = scene_of view wish adv

  -- what a turn that changes nothing says
  abbrev pub Rested : Option Assigned → Slot → Slot → Type 0
  Rested c before after = IsAtRest adv view.own wish c × (after.assigned ≡ before.assigned)

  destroyed : (c : Assigned) (before after : Slot) → after ≡ record before { assigned = None } → option_map unmarked after.assigned ≡ Some (unmarked c) → ⊥
  destroyed c before after gives same = let clash = ap (λ (s : Slot). option_map unmarked s.assigned) (sym gives) ∙ same in cc

  made_where_none : (after : Slot) (c : Assigned) → after.assigned ≡ Some c → option_map unmarked after.assigned ≡ None → ⊥
  made_where_none after c is same = let clash = ap (option_map unmarked) (sym is) ∙ same in cc

  same_parts : (c d : Assigned) (after : Slot) → after.assigned ≡ Some d → option_map unmarked after.assigned ≡ Some (unmarked c) → unmarked d ≡ unmarked c
  same_parts c d after is same = unmarked_same d c (ap (option_map unmarked) (sym is) ∙ same)

  pub line_rests : (best : Option Advertised) (c : Option Assigned) (before after : Slot) (words : List ℕ) → IsBestFor now_at best → IsLine now_at best c before words after → before.assigned ≡ c
      → (c ≡ None → (b : Backoff) × (before.backoff ≡ Some b) × (b.due ≡ view.now)) → option_map unmarked after.assigned ≡ option_map unmarked c → Rested c before after
  line_rests None None before after words is (inl left) had due same = (record { no_best = is; nothing_to_do = left.nothing_to_do }, ap (λ (s : Slot). s.assigned) left.gives)
  line_rests None None before after words is (inr (inl postponed)) had due same = let d = due refl in absurd (let clash = sym postponed.none ∙ d.1 in cc)
  line_rests None None before after words is (inr (inr (inl waiting))) had due same = let d = due refl in absurd (not_later before waiting.backoff d.0 waiting.is d.1 waiting.not_due d.2)
    where
      not_later : (s : Slot) (x y : Backoff) → s.backoff ≡ Some x → s.backoff ≡ Some y → view.now < x.due → y.due ≡ view.now → ⊥
      not_later s x y is_x is_y later now = let one : x ≡ y = cc (is_x, is_y) in let dues = ap (λ (z : Backoff). z.due) one in omega (arith, dues, later, now)
  line_rests None None before after words is (inr (inr (inr made))) had due same = absurd (made_where_none after _ (ap (λ (s : Slot). s.assigned) made.gives) same)
  line_rests (Some b) None before after words is line had due same = absurd (made_where_none after _ (ap (λ (s : Slot). s.assigned) line.0.gives) same)
  line_rests None (Some c) before after words is (inl kept, _) had due same = by_valid kept.gives
    where
      by_valid : IfValid now_at c before before after → Rested (Some c) before after
      by_valid (inl h) = (inl (record { no_best = is; published = kept.published; valid = h.0 }), ap (λ (s : Slot). s.assigned) h.1)
      by_valid (inr h) = absurd (destroyed c before after h.1 same)
  line_rests None (Some c) before after words is (inr adopted, _) had due same = by_valid adopted.gives
    where
      by_valid : IfValid now_at c (record before { assigned = Some (record c { published = Some 2 }) }) before after → Rested (Some c) before after
      by_valid (inl h) =
          let parts = same_parts c (record c { published = Some 2 }) after (ap (λ (s : Slot). s.assigned) h.1) same in
          absurd (let clash = ap (λ (x : Assigned). x.published) parts ∙ adopted.unpublished in cc)
      by_valid (inr h) = absurd (destroyed c before after h.1 same)
  line_rests (Some b) (Some c) before after words is (inl kept, _) had due same = by_valid kept.gives
    where
      by_valid : IfValid now_at c before before after → Rested (Some c) before after
      by_valid (inl h) = (
        inr (inl (record { best = b; is_best = is; priority = kept.ahead.priority; published = kept.ahead.published; above = kept.ahead.above; valid = h.0 })),
        ap (λ (s : Slot). s.assigned) h.1,
      )
      by_valid (inr h) = absurd (destroyed c before after h.1 same)
  line_rests (Some b) (Some c) before after words is (inr (inl yielded), _) had due same =
      let parts = same_parts c (record c { published = None }) after (ap (λ (s : Slot). s.assigned) yielded.gives) same in
      let unpublished : c.published ≡ None = sym (ap (λ (x : Assigned). x.published) parts) in (
        inr (inr (record { best = b; is_best = is; unpublished = unpublished; same = yielded.same })),
        ap (λ (s : Slot). s.assigned) yielded.gives ∙ ap (λ (p : Option ℕ). Some (record c { published = p })) (sym unpublished) ∙ sym had,
      )
  line_rests (Some b) (Some c) before after words is (inr (inr replaced), _) had due same =
      let parts = same_parts c _ after (ap (λ (s : Slot). s.assigned) replaced.gives) same in
      absurd (replaced.other (sym (ap (λ (x : Assigned). x.prefix) parts)))
