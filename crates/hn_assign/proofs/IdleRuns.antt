-- A run that leaves what is held as it is and takes no word is one at a later moment.
use Rattle.hn_base.proofs.Names.{◌≡◌, ◌∙◌, ◌⊎◌, ℕ, ◌+◌, ◌-◌, ◌<◌, ◌≤◌, Bool, true, false, cond, List, [], ◌∷◌, ◌++◌, Contains, map, Option, None, Some, refl, sym, ap, subst, inl, inr, arith}
use Rattle.hn_base.proofs.Names.{option_map, on, cases_lt, le-leb, lt-leb, sorted_tail, same_Some, HasAt}
use Rattle.hn_assign.proofs.Names.{Contains-map, Contains-from_map, Contains-head, Contains-tail, IsLater, PlainView, Advertised, Assigned, Wish, Backoff, Held, Ran, Pair, Slot, IsHeldDue, IsAhead}
use Rattle.hn_assign.proofs.Names.{IsLine, IsPairTurn, marked_applied, assigned_pair, backoff_pair, wish_pair, pair_cmp, IsAscending, KeepsWished, PlainScene, IsPairStep, AreSteps}
use Rattle.hn_assign.specs.Laws.{IdleRunStays}
use Rattle.hn_assign.proofs.AtPair.{has_one, had_still}
use Rattle.hn_assign.proofs.LaterMoments.{advertised_later}
use Rattle.hn_assign.proofs.LeftInOrder.{assigned_ascend}
use Rattle.hn_assign.proofs.Marking.{marked_is, marked_pair}
use Rattle.hn_assign.proofs.Unchanged.{later_other, steps_leave}

-- ---- marks at two moments

-- an assignment at a moment is as it is, or it is old enough and marked applied
marked_cases : (now : ℕ) (c : Assigned) → ((10000 ≤ now - c.since) × (marked_applied now c ≡ record c { applied = true })) ⊎ ((now - c.since < 10000) × (marked_applied now c ≡ c))
marked_cases now c = elim (cases_lt (now - c.since) 10000) [
  | inl young ↦ inr (young, ap (λ (b : Bool). cond b (record c { applied = true }) c) (lt-leb 10000 (now - c.since) young))
  | inr old ↦ inl (old, ap (λ (b : Bool). cond b (record c { applied = true }) c) (le-leb 10000 (now - c.since) old))
]

-- what is applied stays so
stays_applied : (now : ℕ) (c : Assigned) → c.applied ≡ true → marked_applied now c ≡ c
stays_applied now c is = elim (marked_cases now c) [
  | inl (old, gives) ↦ gives ∙ ap (λ (b : Bool). record c { applied = b }) (sym is)
  | inr (young, gives) ↦ gives
]

-- where an assignment that is not marked does not come to its age, its mark at both moments is the same
same_mark : (before after : ℕ) (c : Assigned) → before ≤ after
    → (c.applied ≡ false → marked_applied before c ≡ c → before < c.since + 10000 → after < c.since + 10000) → marked_applied after c ≡ marked_applied before c
same_mark before after c order young = elim (marked_cases before c) [
  | inl (old, was) ↦
      elim (marked_cases after c) [
        | inl (older, is) ↦ is ∙ sym was
        | inr (younger, is) ↦ absurd (omega (arith, old, younger, order))
      ]
  | inr (recent, was) ↦ by_mark c.applied refl recent was
]
  where
    by_mark : (b : Bool) → c.applied ≡ b → before - c.since < 10000 → marked_applied before c ≡ c → marked_applied after c ≡ marked_applied before c
    by_mark true is recent was = stays_applied after c is ∙ sym was
    by_mark false is recent was =
        let soon : after < c.since + 10000 = young is was (omega (arith, recent)) in
        elim (marked_cases after c) [
          | inl (older, gives) ↦ absurd (omega (arith, older, soon))
          | inr (younger, gives) ↦ gives ∙ sym was
        ]

same_marks : (before after : ℕ) (xs : List Assigned)
    → ((c : Assigned) → Contains xs c → marked_applied after c ≡ marked_applied before c) → map (marked_applied after) xs ≡ map (marked_applied before) xs
same_marks before after [] each = refl
same_marks before after (x ∷ xs) each = ap (λ (y : Assigned). y ∷ map (marked_applied after) xs) (each x (Contains-head x xs))
    ∙ ap (λ (ys : List Assigned). marked_applied before x ∷ ys) (same_marks before after xs (λ c h. each c (Contains-tail x xs c h)))

-- what marked assignments have for a pair
has_marked : (now : ℕ) (pair : Pair) (o : Option Assigned) (xs : List Assigned)
    → HasAt assigned_pair pair o xs → HasAt assigned_pair pair (option_map (marked_applied now) o) (map (marked_applied now) xs)
has_marked now pair None xs none = λ x h is.
    let was = Contains-from_map (marked_applied now) xs x h in
    none was.0 was.1 (sym (marked_pair now was.0) ∙ ap assigned_pair was.2 ∙ is)
has_marked now pair (Some c) xs has = (Contains-map (marked_applied now) xs c has.0, marked_pair now c ∙ has.1)

-- ---- a turn that takes no word and leaves the assignment, but for its mark

module _ (own : ℕ) (wish : Wish) (adv : List Advertised) (now later : ℕ) where
  abbrev A : PlainScene
  A = record { own = own; now = now; wish = wish; advertised = adv }

  abbrev B : PlainScene
  B = record { own = own; now = later; wish = wish; advertised = adv }

  ahead_later : (best : Advertised) (c : Assigned) → IsAhead A best c → IsAhead B best c
  ahead_later best c h = record { priority = h.priority; published = h.published; above = h.above }

  ahead_before : (best : Advertised) (c : Assigned) → IsAhead B best c → IsAhead A best c
  ahead_before best c h = record { priority = h.priority; published = h.published; above = h.above }

  line_later : (best : Option Advertised) (c : Option Assigned) (before after : Slot) (words : List ℕ) → words ≡ [] → c ≡ option_map (marked_applied now) after.assigned
      → ((b : Backoff) → before.backoff ≡ Some b → now < b.due → later < b.due) → IsLine A best c before words after → IsLine B best c before words after
  line_later None None before after words none stays due (inl left) = inl (record { nothing_to_do = left.nothing_to_do; gives = left.gives; took = left.took })
  line_later None None before after words none stays due (inr (inl postponed)) = absurd (let clash = sym postponed.took ∙ none in cc)
  line_later None None before after words none stays due (inr (inr (inl waiting))) = inr (inr (inl (record {
    may = record { wanted = waiting.may.wanted; prefix = waiting.may.prefix; free = waiting.may.free };
    backoff = waiting.backoff;
    is = waiting.is;
    not_due = due waiting.backoff waiting.is waiting.not_due;
    gives = waiting.gives;
    took = waiting.took;
  })))
  line_later None None before after words none stays due (inr (inr (inr made))) = absurd (let clash = sym made.took ∙ none in cc)
  line_later (Some b) None before after words none stays due (followed, _) = absurd (let clash = stays ∙ ap (λ (s : Slot). option_map (marked_applied now) s.assigned) followed.gives in cc)
  line_later None (Some c) before after words none stays due (inl kept, took) = (inl (record { published = kept.published; gives = kept.gives }), took)
  line_later None (Some c) before after words none stays due (inr adopted, took) = (inr (record { unpublished = adopted.unpublished; gives = adopted.gives }), took)
  line_later (Some b) (Some c) before after words none stays due (inl kept, took) = (inl (record { ahead = ahead_later b c kept.ahead; gives = kept.gives }), took)
  line_later (Some b) (Some c) before after words none stays due (inr (inl yielded), took) = (
    inr (inl (record {
      not_ahead = λ h. yielded.not_ahead (ahead_before b c h);
      same = yielded.same;
      gives = yielded.gives;
    })),
    took,
  )
  line_later (Some b) (Some c) before after words none stays due (inr (inr replaced), took) = absurd (replaced.other prefix)
    where
      new : Assigned
      new = record { delegated = wish.delegated; endpoint = wish.endpoint; prefix = b.prefix; published = None; since = now; applied = false }

      is : ◌≡◌ {A = Option Assigned} (Some c) (Some (marked_applied now new))
      is = stays ∙ ap (λ (s : Slot). option_map (marked_applied now) s.assigned) replaced.gives

      prefix : c.prefix ≡ b.prefix
      prefix = ap (λ (x : Assigned). x.prefix) (same_Some c (marked_applied now new) is) ∙ ap (λ (x : Assigned). x.prefix) (marked_is now new)

  pub turn_later : (before after : Slot) (words : List ℕ) → words ≡ [] → before.assigned ≡ option_map (marked_applied now) after.assigned
      → ((b : Backoff) → before.backoff ≡ Some b → now < b.due → later < b.due) → IsPairTurn A before words after → IsPairTurn B before words after
  turn_later before after words none stays due turn = record { best = turn.best; is_best = turn.is_best; line = line_later turn.best before.assigned before after words none stays due turn.line }

-- ---- words

none_of_both : (a b : List ℕ) → a ++ b ≡ [] → (a ≡ []) × (b ≡ [])
none_of_both [] b none = (refl, none)
none_of_both (x ∷ a) b none = absurd (cc)

no_words : (view : PlainView) (wishes : List Wish) (r last : Ran) → AreSteps view wishes r last → last.words ≡ [] → r.words ≡ []
no_words view [] r last same none = ap (λ (s : Ran). s.words) (sym same) ∙ none
no_words view (wish ∷ wishes) r last steps none = (none_of_both r.words steps.1 (sym steps.2.took ∙ no_words view wishes steps.0 last steps.3 none)).0

-- ---- all steps

-- what a state has for pairs that are still to come is what is held
pub record Stands (wishes : List Wish) (held : Held) (r : Ran) : Type 0 where
  pub assigned : (w : Wish) → Contains wishes w → (o : Option Assigned) → HasAt assigned_pair (wish_pair w) o r.held.assigned → HasAt assigned_pair (wish_pair w) o held.assigned
  pub backoffs : (w : Wish) → Contains wishes w → (o : Option Backoff) → HasAt backoff_pair (wish_pair w) o r.held.backoffs → HasAt backoff_pair (wish_pair w) o held.backoffs

-- so it is at the begin
begun_has : {A : Type 0} (key : A → Pair) (wishes : List Wish) (xs ys : List A)
    → KeepsWished key wishes xs ys → (w : Wish) → Contains wishes w → (o : Option A) → HasAt key (wish_pair w) o ys → HasAt key (wish_pair w) o xs
begun_has key wishes xs ys keeps w there None none = λ x h is. none x ((keeps.those x).1 (h, (w, there, sym is))) is
begun_has key wishes xs ys keeps w there (Some y) has = (((keeps.those y).0 has.0).0, has.1)

module _ (before after : PlainView) (later : IsLater before after) (held : Held) (up : IsAscending assigned_pair held.assigned)
    (none_due : (m : ℕ) → IsHeldDue held m → before.now < m → after.now < m) (last : Ran)
    (marks : held.assigned ≡ map (marked_applied before.now) last.held.assigned) (none : last.words ≡ []) where
  stands_next : (wish : Wish) (wishes : List Wish) (words : List ℕ) (r between : Ran)
      → IsAscending wish_pair (wish ∷ wishes) → Stands (wish ∷ wishes) held r → IsPairStep before wish words r between → Stands wishes held between
  stands_next wish wishes words r between ups stands step = record {
    assigned = λ w h o has.
        stands.assigned w (Contains-tail wish wishes w h) o
        (had_still assigned_pair (wish_pair wish) (wish_pair w) step.new.assigned o r.held.assigned between.held.assigned step.assigned (λ same. later_other wish wishes w ups h (sym same)) has);
    backoffs = λ w h o has.
        stands.backoffs w (Contains-tail wish wishes w h) o
        (had_still backoff_pair (wish_pair wish) (wish_pair w) step.new.backoff o r.held.backoffs between.held.backoffs step.backoffs (λ same. later_other wish wishes w ups h (sym same)) has);
  }

  step_later : (wish : Wish) (wishes : List Wish) (words : List ℕ) (r between : Ran) → IsAscending wish_pair (wish ∷ wishes)
      → Stands (wish ∷ wishes) held r → (step : IsPairStep before wish words r between) → AreSteps before wishes between last → IsPairStep after wish words r between
  step_later wish wishes words r between ups stands step rest =
      let pair = wish_pair wish in
      let head = Contains-head wish wishes in
      let no_word : words ≡ [] = (none_of_both r.words words (sym step.took ∙ no_words before wishes between last rest none)).1 in
      let in_last : HasAt assigned_pair pair step.new.assigned last.held.assigned =
      steps_leave before wishes between last pair step.new.assigned (λ w h. later_other wish wishes w ups h) rest step.assigned.here in
      let in_held : HasAt assigned_pair pair (option_map (marked_applied before.now) step.new.assigned) held.assigned =
      subst (HasAt assigned_pair pair (option_map (marked_applied before.now) step.new.assigned)) (sym marks) (has_marked before.now pair step.new.assigned last.held.assigned in_last) in
      let stays : step.old.assigned ≡ option_map (marked_applied before.now) step.new.assigned = has_one assigned_pair pair held.assigned step.old.assigned
      (option_map (marked_applied before.now) step.new.assigned) up (stands.assigned wish head step.old.assigned step.had.assigned) in_held in
      let had : HasAt backoff_pair pair step.old.backoff held.backoffs = stands.backoffs wish head step.old.backoff step.had.backoff in
      let due : (b : Backoff) → step.old.backoff ≡ Some b → before.now < b.due → after.now < b.due =
      λ b is soon. none_due b.due (inl (b, (subst (λ (o : Option Backoff). HasAt backoff_pair pair o held.backoffs) is had).0, refl)) soon in
      let turn = turn_later before.own wish step.advertised before.now after.now step.old step.new words no_word stays due step.turn in
      record {
        advertised = step.advertised;
        are_advertised = (advertised_later before after r.held.assigned step.advertised later).0 step.are_advertised;
        old = step.old;
        had = step.had;
        new = step.new;
        turn = subst (λ (own : ℕ). IsPairTurn (record { own = own; now = after.now; wish = wish; advertised = step.advertised }) step.old words step.new) (sym later.own) turn;
        assigned = step.assigned;
        backoffs = step.backoffs;
        took = step.took;
      }

  pub steps_later : (wishes : List Wish) (r : Ran) → IsAscending wish_pair wishes → Stands wishes held r → AreSteps before wishes r last → AreSteps after wishes r last
  steps_later [] r ups stands same = same
  steps_later (wish ∷ wishes) r ups stands steps = (
    steps.0,
    steps.1,
    step_later wish wishes steps.1 r steps.0 ups stands steps.2 steps.3,
    steps_later wishes steps.0 (sorted_tail (on wish_pair pair_cmp) wish wishes ups) (stands_next wish wishes steps.1 r steps.0 ups stands steps.2) steps.3,
  )

  mark_later : (c : Assigned) → Contains last.held.assigned c → marked_applied after.now c ≡ marked_applied before.now c
  mark_later c there =
      let now = later.now in
      same_mark before.now after.now c (omega (arith, now)) (λ unmarked is soon. none_due (c.since + 10000) (inr (c, in_held is, unmarked, refl)) soon)
    where
      in_held : marked_applied before.now c ≡ c → Contains held.assigned c
      in_held is = subst (λ (xs : List Assigned). Contains xs c) (sym marks)
          (subst (Contains (map (marked_applied before.now) last.held.assigned)) is (Contains-map (marked_applied before.now) last.held.assigned c there))

  pub marks_later : held.assigned ≡ map (marked_applied after.now) last.held.assigned
  marks_later = marks ∙ sym (same_marks before.now after.now last.held.assigned mark_later)

-- ---- the run

pub run_later : IdleRunStays
run_later before after wishes held later ups run none_due =
    let assigned : held.assigned ≡ map (marked_applied before.now) run.last.held.assigned = ap (λ (r : Ran). r.held.assigned) run.marks in
    let backoffs : held.backoffs ≡ run.last.held.backoffs = ap (λ (r : Ran). r.held.backoffs) run.marks in
    let none : run.last.words ≡ [] = sym (ap (λ (r : Ran). r.words) run.marks) in
    let up : IsAscending assigned_pair held.assigned = assigned_ascend before wishes held (record { held = held; words = [] }) run in
    let stands : Stands wishes held run.begun = record {
      assigned = begun_has assigned_pair wishes held.assigned run.begun.held.assigned run.is_begun.assigned;
      backoffs = begun_has backoff_pair wishes held.backoffs run.begun.held.backoffs run.is_begun.backoffs;
    } in
    let same : held.assigned ≡ map (marked_applied after.now) run.last.held.assigned = marks_later before after later held up none_due run.last assigned none in
    record {
      begun = run.begun;
      is_begun = run.is_begun;
      last = run.last;
      steps = steps_later before after later held up none_due run.last assigned none wishes run.begun ups stands run.steps;
      marks = λ i. record { held = record { assigned = same i; backoffs = backoffs i }; words = sym none i };
    }
