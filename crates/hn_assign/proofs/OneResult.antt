-- A line of the table, a step and the subroutine have at most one result over one stream of words.
use Rattle.hn_base.proofs.Names.{◌≡◌, ◌∙◌, ◌⊎◌, ℕ, ◌<◌, ◌≤◌, ◌%◌, IsTrue, List, [], ◌∷◌, ◌++◌, Option, None, Some, sym, ap, subst, inl, inr, arith, Begins, PlainPrefix, HaveSame}
use Rattle.hn_assign.proofs.Names.{PlainView, Advertised, Assigned, Wish, Backoff, Held, Ran, Slot, IfValid, IsLine, IsPairTurn, assigned_pair, backoff_pair, wish_pair, IsAscending, Updates}
use Rattle.hn_assign.proofs.Names.{PlainScene, IsFreeFor, HasNoFreeFor, IsFirstFreeFor, new_assigned, scene_of, IsPairStep, AreSteps, IsSubroutine, with_marks, backoff_after}
use Rattle.hn_assign.specs.Unassigned.{IsUnassigned}
use Rattle.hn_assign.proofs.AtPair.{has_one, updates_one, keeps_one}
use Rattle.hn_base.proofs.FirstWords.{begins_front, same_word}
use Rattle.hn_assign.proofs.SameAdvertised.{same_back, same_advertised, best_in, best_one, valid_in, free_in, first_one}

-- what comes of a turn: what the pair has, and the words
abbrev pub Turned : Type 0
Turned = Slot × List ℕ

turned : (a b : Slot) (v w : List ℕ) → a ≡ b → v ≡ w → ◌≡◌ {A = Turned} (a, v) (b, w)
turned a b v w slots words = ap (λ (s : Slot). let t : Turned = (s, v) in t) slots ∙ ap (λ (ws : List ℕ). let t : Turned = (b, ws) in t) words

-- ---- one line, by two lists of what is advertised

module _ (view : PlainView) (wish : Wish) (adv bdv : List Advertised) (same : HaveSame adv bdv) where
  abbrev A : PlainScene
  A = scene_of view wish adv

  abbrev B : PlainScene
  B = scene_of view wish bdv

  valid_both : (c : Assigned) (valid before a b : Slot) → IfValid A c valid before a → IfValid B c valid before b → a ≡ b
  valid_both c valid before a b (inl p) (inl q) = p.1 ∙ sym q.1
  valid_both c valid before a b (inl p) (inr q) = absurd (q.0 (valid_in adv bdv view.own wish.common c same p.0))
  valid_both c valid before a b (inr p) (inl q) = absurd (p.0 (valid_in bdv adv view.own wish.common c (same_back adv bdv same) q.0))
  valid_both c valid before a b (inr p) (inr q) = p.1 ∙ sym q.1

  -- nothing to do, and yet a free prefix
  idle_and_free : ¬ (IsTrue wish.wanted) ⊎ HasNoFreeFor A → IsTrue wish.wanted → (p : PlainPrefix) → IsFreeFor B p → ⊥
  idle_and_free (inl not) wanted p free = not wanted
  idle_and_free (inr none) wanted p free = none p (free_in bdv adv wish.delegated wish.length p (same_back adv bdv same) free)

  free_and_idle : ¬ (IsTrue wish.wanted) ⊎ HasNoFreeFor B → IsTrue wish.wanted → (p : PlainPrefix) → IsFreeFor A p → ⊥
  free_and_idle (inl not) wanted p free = not wanted
  free_and_idle (inr none) wanted p free = none p (free_in adv bdv wish.delegated wish.length p same free)

  -- a backoff that is due, and is not
  not_both : (s : Slot) (x y : Backoff) → s.backoff ≡ Some x → s.backoff ≡ Some y → view.now < x.due → y.due ≤ view.now → ⊥
  not_both s x y is_x is_y later due = let one : x ≡ y = cc (is_x, is_y) in let dues = ap (λ (z : Backoff). z.due) one in omega (arith, dues, later, due)

  -- two results of the first line
  unassigned_both : (before a b : Slot) (v w : List ℕ) → ((x y : ℕ) → v ≡ x ∷ [] → w ≡ y ∷ [] → x ≡ y) → IsUnassigned A before v a → IsUnassigned B before w b → ◌≡◌ {A = Turned} (a, v) (b, w)
  unassigned_both before a b v w word (inl p) (inl q) = turned a b v w (p.gives ∙ sym q.gives) (p.took ∙ sym q.took)
  unassigned_both before a b v w word (inl p) (inr (inl q)) = absurd (idle_and_free p.nothing_to_do q.may.wanted q.may.prefix q.may.free)
  unassigned_both before a b v w word (inl p) (inr (inr (inl q))) = absurd (idle_and_free p.nothing_to_do q.may.wanted q.may.prefix q.may.free)
  unassigned_both before a b v w word (inl p) (inr (inr (inr q))) = absurd (idle_and_free p.nothing_to_do q.wanted q.prefix q.free)
  unassigned_both before a b v w word (inr (inl p)) (inl q) = absurd (free_and_idle q.nothing_to_do p.may.wanted p.may.prefix p.may.free)
  unassigned_both before a b v w word (inr (inl p)) (inr (inl q)) =
      let one : p.word ≡ q.word = word p.word q.word p.took q.took in
      turned a b v w (p.gives ∙ ap (λ (x : ℕ). record before { backoff = Some (backoff_after A (x % 4001)) }) one ∙ sym q.gives) (p.took ∙ ap (λ (x : ℕ). x ∷ []) one ∙ sym q.took)
  unassigned_both before a b v w word (inr (inl p)) (inr (inr (inl q))) = absurd (let clash = sym p.none ∙ q.is in cc)
  unassigned_both before a b v w word (inr (inl p)) (inr (inr (inr q))) = absurd (let clash = sym p.none ∙ q.is in cc)
  unassigned_both before a b v w word (inr (inr (inl p))) (inl q) = absurd (free_and_idle q.nothing_to_do p.may.wanted p.may.prefix p.may.free)
  unassigned_both before a b v w word (inr (inr (inl p))) (inr (inl q)) = absurd (let clash = sym q.none ∙ p.is in cc)
  unassigned_both before a b v w word (inr (inr (inl p))) (inr (inr (inl q))) = turned a b v w (p.gives ∙ sym q.gives) (p.took ∙ sym q.took)
  unassigned_both before a b v w word (inr (inr (inl p))) (inr (inr (inr q))) = absurd (not_both before p.backoff q.backoff p.is q.is p.not_due q.due)
  unassigned_both before a b v w word (inr (inr (inr p))) (inl q) = absurd (free_and_idle q.nothing_to_do p.wanted p.prefix p.free)
  unassigned_both before a b v w word (inr (inr (inr p))) (inr (inl q)) = absurd (let clash = sym q.none ∙ p.is in cc)
  unassigned_both before a b v w word (inr (inr (inr p))) (inr (inr (inl q))) = absurd (not_both before q.backoff p.backoff q.is p.is q.not_due p.due)
  unassigned_both before a b v w word (inr (inr (inr p))) (inr (inr (inr q))) =
      let one : p.word ≡ q.word = word p.word q.word p.took q.took in
      let prefix : p.prefix ≡ q.prefix = first_one adv bdv wish.delegated p.word wish.length p.prefix q.prefix same p.first (subst (λ (x : ℕ). IsFirstFreeFor B x q.prefix) (sym one) q.first) in
      let made : PlainPrefix → Slot = λ x. record { assigned = Some (new_assigned A x (Some 2)); backoff = None } in
      turned a b v w (p.gives ∙ ap made prefix ∙ sym q.gives) (p.took ∙ ap (λ (x : ℕ). x ∷ []) one ∙ sym q.took)

  -- two results of one line
  line_both : (best : Option Advertised) (c : Option Assigned) (before a b : Slot) (v w : List ℕ)
      → ((x y : ℕ) → v ≡ x ∷ [] → w ≡ y ∷ [] → x ≡ y) → IsLine A best c before v a → IsLine B best c before w b → ◌≡◌ {A = Turned} (a, v) (b, w)
  line_both None None before a b v w word p q = unassigned_both before a b v w word p q
  line_both (Some best) None before a b v w word p q = turned a b v w (p.0.gives ∙ sym q.0.gives) (p.1 ∙ sym q.1)
  line_both None (Some c) before a b v w word (inl p, pw) (inl q, qw) = turned a b v w (valid_both c before before a b p.gives q.gives) (pw ∙ sym qw)
  line_both None (Some c) before a b v w word (inl p, pw) (inr q, qw) = absurd (let clash = sym q.unpublished ∙ p.published.1 in cc)
  line_both None (Some c) before a b v w word (inr p, pw) (inl q, qw) = absurd (let clash = sym p.unpublished ∙ q.published.1 in cc)
  line_both None (Some c) before a b v w word (inr p, pw) (inr q, qw) = turned a b v w
      (valid_both c (record before { assigned = Some (record c { published = Some 2 }) }) before a b p.gives q.gives) (pw ∙ sym qw)
  line_both (Some best) (Some c) before a b v w word (inl p, pw) (inl q, qw) = turned a b v w (valid_both c before before a b p.gives q.gives) (pw ∙ sym qw)
  line_both (Some best) (Some c) before a b v w word (inl p, pw) (inr (inl q), qw) = absurd (q.not_ahead (record { priority = p.ahead.priority; published = p.ahead.published; above = p.ahead.above }))
  line_both (Some best) (Some c) before a b v w word (inl p, pw) (inr (inr q), qw) = absurd (q.not_ahead (record { priority = p.ahead.priority; published = p.ahead.published; above = p.ahead.above }))
  line_both (Some best) (Some c) before a b v w word (inr (inl p), pw) (inl q, qw) = absurd (p.not_ahead (record { priority = q.ahead.priority; published = q.ahead.published; above = q.ahead.above }))
  line_both (Some best) (Some c) before a b v w word (inr (inl p), pw) (inr (inl q), qw) = turned a b v w (p.gives ∙ sym q.gives) (pw ∙ sym qw)
  line_both (Some best) (Some c) before a b v w word (inr (inl p), pw) (inr (inr q), qw) = absurd (q.other p.same)
  line_both (Some best) (Some c) before a b v w word (inr (inr p), pw) (inl q, qw) = absurd (p.not_ahead (record { priority = q.ahead.priority; published = q.ahead.published; above = q.ahead.above }))
  line_both (Some best) (Some c) before a b v w word (inr (inr p), pw) (inr (inl q), qw) = absurd (p.other q.same)
  line_both (Some best) (Some c) before a b v w word (inr (inr p), pw) (inr (inr q), qw) = turned a b v w (p.gives ∙ sym q.gives) (pw ∙ sym qw)

  -- two turns of what a pair has
  pub turn_both : (before a b : Slot) (v w : List ℕ) → ((x y : ℕ) → v ≡ x ∷ [] → w ≡ y ∷ [] → x ≡ y) → IsPairTurn A before v a → IsPairTurn B before w b → ◌≡◌ {A = Turned} (a, v) (b, w)
  turn_both before a b v w word p q =
      let best : p.best ≡ q.best = best_one bdv view.own wish.common wish.delegated p.best q.best (best_in adv bdv view.own wish.common wish.delegated p.best same p.is_best) q.is_best in
      line_both q.best before.assigned before a b v w word (subst (λ (x : Option Advertised). IsLine A x before.assigned before v a) best p.line) q.line

-- ---- one step

-- the parts of two states
same_ran : (a b : Ran) → a.held.assigned ≡ b.held.assigned → a.held.backoffs ≡ b.held.backoffs → a.words ≡ b.words → a ≡ b
same_ran a b assigned backoffs words =
    let make : List Assigned → List Backoff → List ℕ → Ran = λ x y z. record { held = record { assigned = x; backoffs = y }; words = z } in
    ap (λ x. make x a.held.backoffs a.words) assigned ∙ ap (λ y. make b.held.assigned y a.words) backoffs ∙ ap (make b.held.assigned b.held.backoffs) words

same_slot : (a b : Slot) → a.assigned ≡ b.assigned → a.backoff ≡ b.backoff → a ≡ b
same_slot a b assigned backoff =
    let make : Option Assigned → Option Backoff → Slot = λ x y. record { assigned = x; backoff = y } in
    ap (λ x. make x a.backoff) assigned ∙ ap (make b.assigned) backoff

-- both lists of a state are in order
pub record IsInOrder (r : Ran) : Type 0 where
  pub assigned : IsAscending assigned_pair r.held.assigned
  pub backoffs : IsAscending backoff_pair r.held.backoffs

pub step_in_order : (view : PlainView) (wish : Wish) (words : List ℕ) (before after : Ran) → IsPairStep view wish words before after → IsInOrder after
step_in_order view wish words before after step = record { assigned = step.assigned.ascending; backoffs = step.backoffs.ascending }

pub step_one : (view : PlainView) (wish : Wish) (stream : ℕ → ℕ) (v w : List ℕ) (before a b : Ran)
    → IsInOrder before → IsPairStep view wish v before a → IsPairStep view wish w before b → Begins a.words stream → Begins b.words stream → a ≡ b
step_one view wish stream v w before a b up p q at_a at_b =
    let pair = wish_pair wish in
    let same = same_advertised view before.held.assigned p.advertised q.advertised p.are_advertised q.are_advertised in
    let old : p.old ≡ q.old = same_slot p.old q.old (has_one assigned_pair pair before.held.assigned p.old.assigned q.old.assigned up.assigned p.had.assigned q.had.assigned)
    (has_one backoff_pair pair before.held.backoffs p.old.backoff q.old.backoff up.backoffs p.had.backoff q.had.backoff) in
    let word : (x y : ℕ) → v ≡ x ∷ [] → w ≡ y ∷ [] → x ≡ y =
    λ x y is_v is_w. same_word before.words x y stream (subst (λ (ws : List ℕ). Begins ws stream) (p.took ∙ ap (λ (ws : List ℕ). before.words ++ ws) is_v) at_a)
    (subst (λ (ws : List ℕ). Begins ws stream) (q.took ∙ ap (λ (ws : List ℕ). before.words ++ ws) is_w) at_b) in
    let both = turn_both view wish p.advertised q.advertised same q.old p.new q.new v w word (subst (λ (s : Slot). IsPairTurn (scene_of view wish p.advertised) s v p.new) old p.turn) q.turn in
    let new : p.new ≡ q.new = ap (λ (t : Turned). t.0) both in
    let words : v ≡ w = ap (λ (t : Turned). t.1) both in
    same_ran a b
    (updates_one assigned_pair pair q.new.assigned before.held.assigned a.held.assigned b.held.assigned
    (subst (λ (s : Slot). Updates assigned_pair pair s.assigned before.held.assigned a.held.assigned) new p.assigned) q.assigned)
    (updates_one backoff_pair pair q.new.backoff before.held.backoffs a.held.backoffs b.held.backoffs
    (subst (λ (s : Slot). Updates backoff_pair pair s.backoff before.held.backoffs a.held.backoffs) new p.backoffs) q.backoffs)
    (p.took ∙ ap (λ (ws : List ℕ). before.words ++ ws) words ∙ sym q.took)

-- ---- all steps

step_grows : (view : PlainView) (wish : Wish) (stream : ℕ → ℕ) (words : List ℕ) (before after : Ran) → IsPairStep view wish words before after → Begins after.words stream → Begins before.words stream
step_grows view wish stream words before after step begins = begins_front before.words words stream (subst (λ (ws : List ℕ). Begins ws stream) step.took begins)

steps_grow : (view : PlainView) (wishes : List Wish) (stream : ℕ → ℕ) (before after : Ran) → AreSteps view wishes before after → Begins after.words stream → Begins before.words stream
steps_grow view [] stream before after same begins = subst (λ (r : Ran). Begins r.words stream) same begins
steps_grow view (wish ∷ wishes) stream before after steps begins = step_grows view wish stream steps.1 before steps.0 steps.2 (steps_grow view wishes stream steps.0 after steps.3 begins)

pub steps_one : (view : PlainView) (wishes : List Wish) (stream : ℕ → ℕ) (before a b : Ran)
    → IsInOrder before → AreSteps view wishes before a → AreSteps view wishes before b → Begins a.words stream → Begins b.words stream → a ≡ b
steps_one view [] stream before a b up p q at_a at_b = p ∙ sym q
steps_one view (wish ∷ wishes) stream before a b up p q at_a at_b =
    let between : p.0 ≡ q.0 = step_one view wish stream p.1 q.1 before p.0 q.0 up p.2 q.2 (steps_grow view wishes stream p.0 a p.3 at_a) (steps_grow view wishes stream q.0 b q.3 at_b) in
    steps_one view wishes stream q.0 a b (step_in_order view wish q.1 before q.0 q.2) (subst (λ (r : Ran). AreSteps view wishes r a) between p.3) q.3 at_a at_b

pub subroutine_one : (view : PlainView) (wishes : List Wish) (held : Held) (stream : ℕ → ℕ) (a b : Ran)
    → IsSubroutine view wishes held a → IsSubroutine view wishes held b → Begins a.words stream → Begins b.words stream → a ≡ b
subroutine_one view wishes held stream a b p q at_a at_b =
    let begun : p.begun ≡ q.begun = same_ran p.begun q.begun (keeps_one assigned_pair wishes held.assigned p.begun.held.assigned q.begun.held.assigned p.is_begun.assigned q.is_begun.assigned)
    (keeps_one backoff_pair wishes held.backoffs p.begun.held.backoffs q.begun.held.backoffs p.is_begun.backoffs q.is_begun.backoffs) (p.is_begun.took ∙ sym q.is_begun.took) in
    let up : IsInOrder q.begun = record { assigned = q.is_begun.assigned.ascending; backoffs = q.is_begun.backoffs.ascending } in
    let last : p.last ≡ q.last = steps_one view wishes stream q.begun p.last q.last up (subst (λ (r : Ran). AreSteps view wishes r p.last) begun p.steps) q.steps
    (subst (λ (r : Ran). Begins r.words stream) p.marks at_a) (subst (λ (r : Ran). Begins r.words stream) q.marks at_b) in
    p.marks ∙ ap (with_marks view.now) last ∙ sym q.marks
