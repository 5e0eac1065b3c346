-- A tick whose words begin with those before the turn of a pair goes through that turn.
use Rattle.hn_base.proofs.Names.{◌≡◌, ◌∙◌, ◌+◌, ℕ, List, ◌∷◌, ◌++◌, length, refl, sym, ap, subst, append_assoc, IsTotalOrder, IsExact, on, on_total, Then, Begins}
use Rattle.hn_base.proofs.AscendingLists.{ascending_unique}
use Rattle.hn_base.proofs.FirstWords.{begins_front, begins_back, begins_along}
use Rattle.hn_base.proofs.OneResult.{sole_both, sole_plain}
use Rattle.hn_deleg.specs.declared.delegated.Delegated.{Delegated}
use Rattle.hn_deleg.specs.Laws.{UsableIsUnique}
use Rattle.hn_pair.specs.declared.assigned.Wish.{Wish}
use Rattle.hn_pair.specs.declared.backoff.Backoff.{Backoff}
use Rattle.hn_pair.specs.declared.assigned.Assigned.{Assigned}
use Rattle.hn_pair.specs.declared.held.Held.{Held}
use Rattle.hn_assign.specs.declared.ran.Ran.{Ran}
use Rattle.hn_pair.specs.declared.pair.Pair.{Pair}
use Rattle.hn_assign.specs.Laws.{StepsHaveOneResult, SameHaveOneBest, SameHaveOneFirstFree}
use Rattle.hn_pair.specs.Pair.{IsAscending, KeepsWished, assigned_pair, backoff_pair, wish_pair, pair_cmp}
use Rattle.hn_assign.specs.Step.{IsPairStep}
use Rattle.hn_assign.specs.Subroutine.{IsBegun, AreSteps, IsSubroutine, with_marks}
use Rattle.hn_rules.specs.declared.running.Running.{Running}
use Rattle.hn_rules.specs.declared.state.State.{State}
use Rattle.hn_rules.specs.Assigning.{AreAsked, IsRunAssigned, IsAssigning}
use Rattle.hn_rules.specs.Delegating.{ending}
use Rattle.hn_rules.specs.Refresh.{IsRefresh}
use Rattle.hn_rules.specs.Rules.{IsSole, begun_at, words_taken}
use Rattle.hn_rules.specs.Tick.{IsExpiry, forgetting}
use Rattle.hn_rules.specs.Ticks.{IsLosing, IsTick}
use Rattle.hn_kept.specs.declared.preferred.Preferred.{Preferred}
use Rattle.hn_kept.specs.Anew.{IsTurnInTick, view_after, words_before}
use Rattle.hn_kept.proofs.HeldInTick.{losing_holds, refresh_holds, ports_hold, refresh_takes, ports_take}
use Rattle.hn_kept.proofs.StepsOfPairs.{steps_split, steps_take, steps_ascend}

-- the laws on which it rests
pub record TurnLaws : Type 0 where
  pub total : IsTotalOrder pair_cmp
  pub exact : IsExact pair_cmp
  pub usable : UsableIsUnique
  pub steps : StepsHaveOneResult
  pub best : SameHaveOneBest
  pub first : SameHaveOneFirstFree
  pub expiry : IsSole IsExpiry
  pub refresh : IsSole IsRefresh

losing_sole : TurnLaws → IsSole IsLosing
losing_sole laws =
    sole_both words_taken IsExpiry (Then (λ b a. a ≡ ending b) IsRefresh) laws.expiry
    (sole_both words_taken (λ b a. a ≡ ending b) IsRefresh (sole_plain words_taken ending (λ r. refl)) laws.refresh)

-- what is asked is one
one_asked : IsTotalOrder pair_cmp → (s : State) (usable : List Delegated) (a b : List Wish) → AreAsked s usable a → AreAsked s usable b → a ≡ b
one_asked total s usable a b h k =
    ascending_unique (on wish_pair pair_cmp) (on_total wish_pair total) a b h.ascending k.ascending
    (λ wish. let p = h.exact wish in let q = k.exact wish in (λ x. q.1 (p.0 x), λ y. p.1 (q.0 y)))

-- what an assignment begins with is one
one_begun : IsTotalOrder pair_cmp → (wishes : List Wish) (held : Held) (a b : Ran) → IsBegun wishes held a → IsBegun wishes held b → a ≡ b
one_begun total wishes held a b p q =
    let make : List Assigned → List Backoff → List ℕ → Ran = λ x y z. record { held = record { assigned = x; backoffs = y }; words = z } in
    let assigned = one_kept assigned_pair held.assigned a.held.assigned b.held.assigned p.assigned q.assigned in
    let backoffs = one_kept backoff_pair held.backoffs a.held.backoffs b.held.backoffs p.backoffs q.backoffs in
    ap (λ x. make x a.held.backoffs a.words) assigned ∙ ap (λ y. make b.held.assigned y a.words) backoffs ∙ ap (make b.held.assigned b.held.backoffs) (p.took ∙ sym q.took)
  where
    one_kept : {A : Type 0} (key : A → Pair) (before x y : List A) → KeepsWished key wishes before x → KeepsWished key wishes before y → x ≡ y
    one_kept key before x y kx ky =
        ascending_unique (on key pair_cmp) (on_total key total) x y kx.ascending ky.ascending
        (λ z. (λ h. (ky.those z).1 ((kx.those z).0 h), λ h. (kx.those z).1 ((ky.those z).0 h)))

-- words one after another, in two groups
regrouped : (lost before words behind more more_after : List ℕ)
    → ((lost ++ (before ++ (words ++ behind))) ++ more) ++ more_after ≡ (lost ++ before) ++ (words ++ (behind ++ (more ++ more_after)))
regrouped lost before words behind more more_after = simp append_assoc

pub in_turn : (lost ran more after : List ℕ) → ((lost ++ ran) ++ more) ++ after ≡ lost ++ (ran ++ (more ++ after))
in_turn lost ran more after = simp append_assoc

words_are : (all settled mid ran lost before words behind more more_after : List ℕ) → all ≡ settled ++ more_after
    → settled ≡ mid ++ more → mid ≡ lost ++ ran → ran ≡ before ++ (words ++ behind)
    → all ≡ (lost ++ before) ++ (words ++ (behind ++ (more ++ more_after)))
words_are all settled mid ran lost before words behind more more_after a b c d =
    a ∙ ap (λ (ws : List ℕ). ws ++ more_after) (b ∙ ap (λ (ws : List ℕ). ws ++ more) (c ∙ ap (λ (ws : List ℕ). lost ++ ws) d))
    ∙ regrouped lost before words behind more more_after

-- The assignment of prefixes went through the turn: there the pair had its step, and those after it had theirs; what is left has
-- marks of application.
record RanThrough (now : ℕ) (s : State) (f : Preferred) (turn : IsTurnInTick now s f) (ran : Ran) : Type 0 where
  pub words : List ℕ
  pub next : Ran
  pub step : IsPairStep (view_after turn.lost) turn.wish words turn.before next
  pub last : Ran
  pub steps : AreSteps (view_after turn.lost) turn.later next last
  pub held : ran.held ≡ (with_marks now last).held
  pub rest : List ℕ
  pub took : ran.words ≡ turn.before.words ++ (words ++ rest)
  pub took_all : ran.words ≡ last.words

-- a tick did so
pub record WentThrough (now : ℕ) (s : State) (f : Preferred) (turn : IsTurnInTick now s f) (end : Running) : Type 0 where
  pub words : List ℕ
  pub next : Ran
  pub step : IsPairStep (view_after turn.lost) turn.wish words turn.before next
  pub last : Ran
  pub steps : AreSteps (view_after turn.lost) turn.later next last
  pub held : end.state.held ≡ (with_marks now last).held
  pub rest : List ℕ
  pub took : end.done.words ≡ words_before turn ++ (words ++ rest)
  pub tail : List ℕ
  pub took_all : end.done.words ≡ turn.lost.done.words ++ (last.words ++ tail)

module _ (laws : TurnLaws) (now : ℕ) (s : State) (f : Preferred) (turn : IsTurnInTick now s f) where
  -- where it assigns
  pub lists_ascend : IsAscending assigned_pair turn.before.held.assigned × IsAscending backoff_pair turn.before.held.backoffs
  lists_ascend = steps_ascend (view_after turn.lost) turn.earlier turn.begun turn.before turn.steps turn.is_begun.assigned.ascending turn.is_begun.backoffs.ascending

  -- the moment stays
  pub moment_is : turn.lost.state.moment ≡ now
  moment_is = ap (λ (p : Held × ℕ). p.1) (losing_holds (begun_at now s) turn.lost turn.is_lost)

  pub still_held : turn.lost.state.held ≡ s.held
  still_held = ap (λ (p : Held × ℕ). p.0) (losing_holds (begun_at now s) turn.lost turn.is_lost)

  -- the steps of the subroutine, from what it begins with
  steps_of : (ran : Ran) → IsRunAssigned (forgetting turn.lost).state ran
      → (last : Ran) × AreSteps (view_after turn.lost) (turn.earlier ++ turn.wish ∷ turn.later) turn.begun last × (ran ≡ with_marks turn.lost.state.moment last)
  steps_of ran run =
      let at = (forgetting turn.lost).state in
      let usable : run.usable ≡ turn.usable = laws.usable (view_after turn.lost) run.usable turn.usable run.are_usable turn.are_usable in
      let wishes : run.wishes ≡ turn.earlier ++ turn.wish ∷ turn.later =
      one_asked laws.total at turn.usable run.wishes (turn.earlier ++ turn.wish ∷ turn.later) (subst (λ (list : List Delegated). AreAsked at list run.wishes) usable run.are_asked) turn.are_asked in
      of_subroutine (subst (λ (ws : List Wish). IsSubroutine (view_after turn.lost) ws turn.lost.state.held ran) wishes run.is_subroutine)
    where
      of_subroutine : IsSubroutine (view_after turn.lost) (turn.earlier ++ turn.wish ∷ turn.later) turn.lost.state.held ran
          → (last : Ran) × AreSteps (view_after turn.lost) (turn.earlier ++ turn.wish ∷ turn.later) turn.begun last × (ran ≡ with_marks turn.lost.state.moment last)
      of_subroutine sub =
          let begun = one_begun laws.total (turn.earlier ++ turn.wish ∷ turn.later) turn.lost.state.held sub.begun turn.begun sub.is_begun turn.is_begun in
          (sub.last, subst (λ (r : Ran). AreSteps (view_after turn.lost) (turn.earlier ++ turn.wish ∷ turn.later) r sub.last) begun sub.steps, sub.marks)

  -- the assignment of prefixes, over a stream that begins with the words before the turn
  assigned_through : (stream : ℕ → ℕ) (ran : Ran) → Begins turn.before.words stream → Begins ran.words stream → IsRunAssigned (forgetting turn.lost).state ran → RanThrough now s f turn ran
  assigned_through stream ran at_turn at_end run = of_steps (steps_of ran run).0 (steps_of ran run).1 (steps_of ran run).2
    where
      of_next : (last : Ran) → ran ≡ with_marks turn.lost.state.moment last → (words : List ℕ) (next : Ran) → IsPairStep (view_after turn.lost) turn.wish words turn.before next
          → AreSteps (view_after turn.lost) turn.later next last → RanThrough now s f turn ran
      of_next last marks words next step later =
          let (behind, at_last) = steps_take (view_after turn.lost) turn.later next last later in
          record {
            words = words;
            next = next;
            step = step;
            last = last;
            steps = later;
            held = ap (λ (r : Ran). r.held) marks ∙ ap (λ (m : ℕ). (with_marks m last).held) moment_is;
            rest = behind;
            took = ap (λ (r : Ran). r.words) marks ∙ at_last ∙ ap (λ (ws : List ℕ). ws ++ behind) step.took ∙ append_assoc turn.before.words words behind;
            took_all = ap (λ (r : Ran). r.words) marks;
          }

      of_steps : (last : Ran) → AreSteps (view_after turn.lost) (turn.earlier ++ turn.wish ∷ turn.later) turn.begun last → ran ≡ with_marks turn.lost.state.moment last → RanThrough now s f turn ran
      of_steps last steps marks =
          let view = view_after turn.lost in
          let (between, front, back) = steps_split view turn.earlier (turn.wish ∷ turn.later) turn.begun last steps in
          let (more, is) = steps_take view (turn.wish ∷ turn.later) between last back in
          let at_between : Begins between.words stream = begins_front between.words more stream (begins_along ran.words (between.words ++ more) stream (ap (λ (r : Ran). r.words) marks ∙ is) at_end) in
          let same : between ≡ turn.before =
          laws.steps view turn.earlier turn.begun between turn.before stream turn.is_begun.assigned.ascending turn.is_begun.backoffs.ascending front turn.steps at_between at_turn in
          let (next, words, step, later) = subst (λ (r : Ran). AreSteps view (turn.wish ∷ turn.later) r last) same back in
          of_next last marks words next step later

  -- and the whole tick
  went_through : (end settled mid : Running) (ran : Ran) → RanThrough now s f turn ran → end.state.held ≡ ran.held → (more more_after : List ℕ)
      → end.done.words ≡ settled.done.words ++ more_after → settled.done.words ≡ mid.done.words ++ more → mid.done.words ≡ turn.lost.done.words ++ ran.words → WentThrough now s f turn end
  went_through end settled mid ran run held more more_after after settling of_lost = record {
    words = run.words;
    next = run.next;
    step = run.step;
    last = run.last;
    steps = run.steps;
    held = held ∙ run.held;
    rest = run.rest ++ (more ++ more_after);
    took = words_are end.done.words settled.done.words mid.done.words ran.words turn.lost.done.words turn.before.words run.words run.rest more more_after after settling of_lost run.took;
    tail = more ++ more_after;
    took_all = after ∙ ap (λ (ws : List ℕ). ws ++ more_after) (settling ∙ ap (λ (ws : List ℕ). ws ++ more) (of_lost ∙ ap (λ (ws : List ℕ). turn.lost.done.words ++ ws) run.took_all))
        ∙ in_turn turn.lost.done.words run.last.words more more_after;
  }

  pub through : (end : Running) (stream : ℕ → ℕ) → IsTick (begun_at now s) end → Begins end.done.words stream → Begins (words_before turn) stream → WentThrough now s f turn end
  through end stream (lost, losing, (gone, is_gone, (settled, (mid, assigning, refreshed), ports))) at_end at_turn =
      let (more_after, after) = ports_take settled end ports in
      let (more, settling) = refresh_takes mid settled refreshed in
      let at_settled : Begins settled.done.words stream = begins_front settled.done.words more_after stream (begins_along end.done.words (settled.done.words ++ more_after) stream after at_end) in
      let at_mid : Begins mid.done.words stream = begins_front mid.done.words more stream (begins_along settled.done.words (mid.done.words ++ more) stream settling at_settled) in
      let held : end.state.held ≡ assigning.ran.held =
      ap (λ (p : Held × ℕ). p.0) (ports_hold settled end ports ∙ refresh_holds mid settled refreshed) ∙ ap (λ (r : Running). r.state.held) assigning.gives in
      after_lost lost losing gone is_gone mid assigning at_mid (λ run of_lost. went_through end settled mid assigning.ran run held more more_after after settling of_lost)
    where
      after_lost : (lost : Running) → IsLosing (begun_at now s) lost → (gone : Running) → gone ≡ forgetting lost → (mid : Running) (assigning : IsAssigning gone mid) → Begins mid.done.words stream
          → (RanThrough now s f turn assigning.ran → mid.done.words ≡ turn.lost.done.words ++ assigning.ran.words → WentThrough now s f turn end) → WentThrough now s f turn end
      after_lost lost losing gone is_gone mid assigning at_mid then =
          let lost_words = turn.lost.done.words in
          let ran = assigning.ran in
          let of_gone : mid.done.words ≡ lost.done.words ++ ran.words = ap words_taken assigning.gives ∙ ap (λ (r : Running). r.done.words ++ ran.words) is_gone in
          let at_lost : Begins lost.done.words stream = begins_front lost.done.words ran.words stream (begins_along mid.done.words (lost.done.words ++ ran.words) stream of_gone at_mid) in
          let same : lost ≡ turn.lost = (losing_sole laws).one stream (begun_at now s) lost turn.lost losing turn.is_lost at_lost (begins_front lost_words turn.before.words stream at_turn) in
          let of_lost : mid.done.words ≡ lost_words ++ ran.words = of_gone ∙ ap (λ (r : Running). r.done.words ++ ran.words) same in
          then
          (assigned_through (λ i. stream (length lost_words + i)) ran (begins_back lost_words turn.before.words stream at_turn)
          (begins_back lost_words ran.words stream (begins_along mid.done.words (lost_words ++ ran.words) stream of_lost at_mid))
          (subst (λ (r : Running). IsRunAssigned r.state ran) (is_gone ∙ ap forgetting same) assigning.is_assigned))
          of_lost
