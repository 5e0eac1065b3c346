-- The replay of a trace, and what is told of it.
use Rattle.hn_base.proofs.Names.{◌≡◌, ◌∙◌, ◌+◌, ◌-◌, ◌<◌, ◌≤◌, ℕ, List, [], ◌∷◌, ◌++◌, Option, Some, None, length, drop, get_or, slice_index, ⊎_elim, refl, sym, ap, subst, append_assoc, length-append}
use Rattle.hn_base.proofs.Names.{arith, Appends, get_or-append_right, cases_lt, drop_more, drop_all, same_Some}
use Rattle.hn_look.proofs.Names.{append-nil, IoFault, PiecesAppend, Parts, AppendsCut}
use Rattle.std.proofs.Math.ListN.{get_or-append}
use Rattle.hn_base.specs.Words as drawn
use Rattle.hn_base.specs.declared.version.Version.{Version}
use Rattle.hn_streams.specs.Output.{AppendsFront}
use Rattle.hn_rules.specs.declared.done.Note.{Note}
use Rattle.hn_world.specs.Laws.{StepIsUnique}
use Rattle.hn_world.specs.Refusal.{refusal}
use Rattle.hn_world.specs.declared.event.WEvent.{WEvent}
use Rattle.hn_world.specs.Replay.{empty_world, Goes, Replays, IsReplayed}
use Rattle.hn_world.specs.Step.{Step, IsStep}
use Rattle.hn_world.specs.declared.event.Traced.{Traced}
use Rattle.hn_look.specs.Log.{IsStepText, IsLogFrom, IsLog}
use Rattle.hn_look.specs.Steps.{step_text}
use Rattle.hn_look.proofs.Streams.{Appends-none, AppendsCut-more}

-- ---- a step is one, with the words of its trace

-- what comes after some words
abbrev after_words : List ℕ → ℕ → ℕ
after_words words place = slice_index words (length words + place)

-- two lists of words, one after the other, are the first of a stream
in_both : (words before : List ℕ) (stream : ℕ → ℕ) (i : ℕ) → i < length (before ++ words) → drawn.Begins before stream
    → slice_index words ≡ (λ (place : ℕ). stream (length before + place)) → get_or (before ++ words) i 0 ≡ stream i
in_both words before stream i within begin own =
    ⊎_elim (λ (low : i < length before). get_or-append before words 0 i low ∙ begin i low)
    (λ (high : length before ≤ i).
    let place : length before + (i - length before) ≡ i = omega arith in
    get_or-append_right before words i 0 high ∙ (λ k. own k (i - length before)) ∙ ap stream place)
    (cases_lt i (length before))

-- a draw that tells some words, and then zeros, gives these
took_own : (words : List ℕ) → drawn.Took (Some (slice_index words)) words (Some (after_words words))
took_own words before stream at =
    let own : slice_index words ≡ (λ (place : ℕ). stream (length before + place)) = same_Some (slice_index words) (λ (place : ℕ). stream (length before + place)) at.rest in
    let shifts : (place : ℕ) → length before + (length words + place) ≡ length (before ++ words) + place = λ place. omega (arith, length-append before words) in
    let rest : ◌≡◌ {A = ℕ → ℕ} (after_words words) (λ place. stream (length before + (length words + place))) = λ i. λ (place : ℕ). own i (length words + place) in
    record {
      begins = λ i within. in_both words before stream i within at.begins own;
      rest = ap Some rest ∙ (λ i. Some (λ (place : ℕ). stream (shifts place i)));
    }

as_step : (t : Traced) (notes : List Note) (before after : Parts) → Step t notes before after → IsStep t.event notes (Some (slice_index t.words)) (Some (after_words t.words)) before after
as_step t notes before after step = record { words = t.words; step = step; drew = took_own t.words }

-- what an event came to with words that a draw tells, where it is this step with these words
pub same_step : StepIsUnique → (t : Traced) (notes noted : List Note) (rest : ℕ → ℕ) (before after made : Parts) → Step t notes before after
    → IsStep t.event noted (Some (slice_index t.words)) (Some rest) before made
    → (noted ≡ notes) × (made ≡ after)
same_step law t notes noted rest before after made step again =
    let same = law t.event (slice_index t.words) rest (after_words t.words) noted notes before made after again (as_step t notes before after step) in
    (same.1, same.0)

-- of an event and words that are copies of those
pub same_again : StepIsUnique → (t : Traced) (event : WEvent) (words : List ℕ) (notes noted : List Note) (rest : ℕ → ℕ) (before after made : Parts) → event ≡ t.event → words ≡ t.words
    → Step t notes before after
    → IsStep event noted (Some (slice_index words)) (Some rest) before made → (noted ≡ notes) × (made ≡ after)
same_again law t event words notes noted rest before after made event_is words_is step again =
    let told : IsStep event noted (Some (slice_index t.words)) (Some rest) before made = subst (λ (ws : List ℕ). IsStep event noted (Some (slice_index ws)) (Some rest) before made) words_is again in
    same_step law t notes noted rest before after made step (subst (λ (e : WEvent). IsStep e noted (Some (slice_index t.words)) (Some rest) before made) event_is told)

-- what a step accepts is not refused
pub not_refused : (w : Parts) (event other : WEvent) (code : ℕ) → event ≡ other → refusal w other ≡ None → refusal w event ≡ Some code → ⊥
not_refused w event other code same accepted refused =
    let none : Some code ≡ None = sym refused ∙ ap (refusal w) same ∙ accepted in
    absurd cc

-- ---- a log is one

one_log_from : StepIsUnique → (before : Parts) (ts : List Traced) (a b : List ℕ) → IsLogFrom before ts a → IsLogFrom before ts b → a ≡ b
one_log_from law before [] a b h k = h ∙ sym k
one_log_from law before (t ∷ ts) a b h k =
    let one = h.3 in
    let other = k.3 in
    let same = same_step law t other.notes one.notes (after_words t.words) before k.0 h.0 other.step (as_step t one.notes before h.0 one.step) in
    let first : h.1 ≡ k.1 = one.text_is ∙ (λ i. step_text t.event (same.0 i) (length before.copies) (length before.published) (same.1 i)) ∙ sym other.text_is in
    let rest : h.2 ≡ k.2 = one_log_from law h.0 ts h.2 k.2 h.4 (subst (λ (w : Parts). IsLogFrom w ts k.2) (sym same.1) k.4) in
    h.5 ∙ (λ i. first i ++ rest i) ∙ sym k.5

pub one_log : StepIsUnique → (w : Parts) (a b : List ℕ) → IsLog w a → IsLog w b → a ≡ b
one_log law w a b h k = one_log_from law (empty_world w.version) w.trace a b h k

-- each trace that leads somewhere has a log
has_log : (before w : Parts) (ts : List Traced) → Goes before ts w → (text : List ℕ) × IsLogFrom before ts text
has_log before w [] h = ([], refl)
has_log before w (t ∷ ts) h =
    let first = step_text t.event h.1.0 (length before.copies) (length before.published) h.0 in
    let rest = has_log h.0 w ts h.2 in
    (first ++ rest.0, (h.0, first, rest.0, record { notes = h.1.0; step = h.1.1; text_is = refl }, rest.1, refl))

-- ---- a replay on its way

-- a replay has come to this world: the rest of the trace leads to w, and what was told so far is written
pub record IsOnTheWay (w now : Parts) (i : ℕ) (before after : Option (List ℕ)) : Type 0 where
  pub goes : Goes now (drop i w.trace) w
  pub front : List ℕ
  pub goes_on : (rest : List ℕ) → IsLogFrom now (drop i w.trace) rest → IsLog w (front ++ rest)
  pub appends : Appends before after front

begun : (w : Parts) (a : Option (List ℕ)) → IsReplayed w → IsOnTheWay w (empty_world w.version) 0 a a
unfolding Replays
begun w a h = record { goes = h; front = []; goes_on = λ rest log. log; appends = Appends-none a }

pub begins : (w now : Parts) (version : Version) (a : Option (List ℕ)) → now ≡ empty_world version → version ≡ w.version → IsReplayed w → IsOnTheWay w now 0 a a
begins w now version a is same h = subst (λ (v : Parts). IsOnTheWay w v 0 a a) (sym (is ∙ ap empty_world same)) (begun w a h)

-- the piece that was written
pub piece_is : (piece now cleared text : List ℕ) → piece ≡ now → now ≡ cleared ++ text → cleared ≡ [] → piece ≡ text
piece_is piece now cleared text is told none = is ∙ told ∙ ap (λ xs. xs ++ text) none

module _ (w now : Parts) (i : ℕ) (t : Traced) (a b : Option (List ℕ)) (within : i < length w.trace) (is : t ≡ get_or w.trace i t) (so_far : IsOnTheWay w now i a b) where
  rest_is : drop i w.trace ≡ t ∷ drop (i + 1) w.trace
  rest_is = drop_more w.trace i t within ∙ ap (λ u. u ∷ drop (i + 1) w.trace) (sym is)

  goes_next : Goes now (t ∷ drop (i + 1) w.trace) w
  goes_next = subst (λ (ts : List Traced). Goes now ts w) rest_is so_far.goes

  -- the next event of the trace is a step
  pub next_step : (notes : List Note) × (after : Parts) × Step t notes now after
  next_step = (goes_next.1.0, goes_next.0, goes_next.1.1)

  module _ (next : Parts) (text : List ℕ) (same : (notes : List Note) (after : Parts) → Step t notes now after → next ≡ after) (told : IsStepText t now next text) where
    goes_from : Goes next (drop (i + 1) w.trace) w
    goes_from = subst (λ (v : Parts). Goes v (drop (i + 1) w.trace) w) (sym (same goes_next.1.0 goes_next.0 goes_next.1.1)) goes_next.2

    log_with : (rest : List ℕ) → IsLogFrom next (drop (i + 1) w.trace) rest → IsLog w (so_far.front ++ (text ++ rest))
    log_with rest log =
        so_far.goes_on (text ++ rest) (subst (λ (ts : List Traced). IsLogFrom now ts (text ++ rest)) (sym rest_is) (next, text, rest, told, log, refl))

    -- it was told
    pub goes_further : PiecesAppend → (c : Option (List ℕ)) → Appends b c text → IsOnTheWay w next (i + 1) a c
    goes_further append c wrote = record {
      goes = goes_from;
      front = so_far.front ++ text;
      goes_on = λ rest log. subst (IsLog w) (sym (append_assoc so_far.front text rest)) (log_with rest log);
      appends = append a b c so_far.front text so_far.appends wrote;
    }

    -- the writing was cut in what is told of it
    pub cut_in_it : PiecesAppend → (fault : IoFault) (c : Option (List ℕ)) → AppendsCut fault b c text → (log : List ℕ) × IsLog w log × AppendsCut fault a c log
    cut_in_it append fault c cut =
        let rest = has_log next w (drop (i + 1) w.trace) goes_from in
        let whole = so_far.front ++ (text ++ rest.0) in
        (whole, log_with rest.0 rest.1, AppendsCut-more append fault a b c so_far.front text rest.0 whole so_far.appends cut refl)

-- memory ended
pub starved_here : (w now : Parts) (i : ℕ) (a b : Option (List ℕ)) → IsOnTheWay w now i a b → (log : List ℕ) × IsLog w log × AppendsFront a b log
starved_here w now i a b so_far =
    let rest = has_log now w (drop i w.trace) so_far.goes in
    (so_far.front ++ rest.0, so_far.goes_on rest.0 rest.1, (so_far.front, (rest.0, refl), so_far.appends))

-- memory ended before anything was told
pub untold : (w : Parts) (a : Option (List ℕ)) → IsReplayed w → (log : List ℕ) × IsLog w log × AppendsFront a a log
untold w a h = starved_here w (empty_world w.version) 0 a a (begun w a h)

-- all was told
pub all_told : (w now : Parts) (i : ℕ) (a b : Option (List ℕ)) → length w.trace ≤ i → IsOnTheWay w now i a b → (log : List ℕ) × IsLog w log × Appends a b log
all_told w now i a b past so_far =
    let none : IsLogFrom now (drop i w.trace) [] = subst (λ (ts : List Traced). IsLogFrom now ts []) (sym (drop_all i w.trace past)) refl in
    (so_far.front ++ [], so_far.goes_on [] none, subst (λ (xs : List ℕ). Appends a b xs) (sym (append-nil so_far.front)) so_far.appends)
