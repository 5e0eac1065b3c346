-- Which words are chosen: what comes of words, and which word helps a pair.
use Rattle.hn_base.proofs.Names.{◌≡◌, ◌∙◌, ◌⊎◌, ℕ, zero, suc, ◌+◌, ◌<◌, ◌≤◌, List, [], ◌∷◌, ◌++◌, length, take, get_or, true, false, sym, ap, subst, arith, inl, inr, cases_lt, cases_Bool}
use Rattle.hn_base.proofs.Names.{Option, Some, None, IfSome, IfNone, Took, Begins, All, All-push, Contains, list_any, IsTotalOrder, Less, length-append, length-take-le, get_or_append_left, get_or-append_seam, take-append_seam}
use Rattle.std.proofs.lemmas.List.{take-append-le}
use Rattle.hn_base.proofs.AscendingLists.{nothing_in, Contains-head, Contains-tail, Contains-cases, below_head, not_below_itself, not_both}
use Rattle.hn_base.proofs.Elements.{any_from}
use Rattle.hn_base.proofs.FirstWords.{begins_along}
use Rattle.hn_base.proofs.FrontOfList.{front_more}
use Rattle.hn_base.proofs.Names.{on, on_total, sorted_tail, IsStrictlySortedBy, Ordering}
use mathlib.Core.Bool.{true≢false}
use Rattle.hn_pair.specs.declared.assigned.Assigned.{Assigned}
use Rattle.hn_pair.specs.declared.pair.Pair.{Pair}
use Rattle.hn_pair.specs.Pair.{IsAscending, pair_cmp}
use Rattle.hn_router.specs.Plan.{PlainPlan}
use Rattle.hn_rules.specs.declared.done.Done.{Done}
use Rattle.hn_rules.specs.declared.state.State.{State}
use Rattle.hn_router.specs.Act.{Happened}
use Rattle.hn_router.specs.Laws.{OneResult}
use Rattle.hn_kept.specs.declared.preferred.Preferred.{Preferred}
use Rattle.hn_kept.specs.Preferred.{preferred_pair, word_of, is_missed, is_kept}
use Rattle.hn_kept.specs.Words.{chacha_word, listed_word, AreDrawn}
use Rattle.hn_kept.specs.Choosing.{PlainAsked, EventComesTo, LeavesOver, earlier_ones, first_ones, Helps, IsTaker, MayBePassed, IsFirstHelped, IsBestWord, AreBest, AreChosen}
use Rattle.hn_kept.proofs.Stream.{begins_listed, begins_taken, own_behind, more_listed, one_listed, same_front}
use Rattle.hn_kept.proofs.DrawnWords.{drawn_first, drawn_more, drawn_of_none}

-- ---- what comes of words

-- over one stream an event comes to one result
same_result : OneResult → (ask : PlainAsked) (stream : ℕ → ℕ) (words : List ℕ) (next other : State) (done : Done) → (comes : EventComesTo ask stream words next)
    → Happened ask.moment ask.event ask.router other done → Begins done.words stream → (next ≡ other) × (comes.done ≡ done)
same_result one ask stream words next other done comes happened begins =
    one ask.moment ask.event ask.router next other comes.done done stream comes.happened happened
    (subst (λ (ws : List ℕ). Begins ws stream) (sym comes.words_are) comes.begins) begins

same_left : OneResult → (ask : PlainAsked) (listed : List ℕ) (a b : State) → LeavesOver ask listed a → LeavesOver ask listed b → a ≡ b
same_left one ask listed a b p q =
    (same_result one ask (listed_word listed ask.words) p.words a b q.comes.done p.comes q.comes.happened
    (begins_along q.words q.comes.done.words (listed_word listed ask.words) (sym q.comes.words_are) q.comes.begins)).0

-- words that come of a stream come of another one that they begin
pub comes_over : (ask : PlainAsked) (stream others : ℕ → ℕ) (words : List ℕ) (next : State) → EventComesTo ask stream words next → Begins words others → EventComesTo ask others words next
comes_over ask stream others words next comes begins = record { done = comes.done; happened = comes.happened; words_are = comes.words_are; begins = begins }

-- what was planned comes to the words of the plan
pub comes_of_plan : (ask : PlainAsked) (stream : ℕ → ℕ) (told_after : Option (ℕ → ℕ)) (plan : PlainPlan) (next : State) (done : Done)
    → Happened ask.moment ask.event ask.router plan.state plan.done → Took (Some stream) plan.done.words told_after → next ≡ plan.state → done ≡ plan.done
    → EventComesTo ask stream done.words next
comes_of_plan ask stream told_after plan next done happened took is_next is_done = record {
  done = plan.done;
  happened = subst (λ (s : State). Happened ask.moment ask.event ask.router s plan.done) (sym is_next) happened;
  words_are = ap (λ (d : Done). d.words) (sym is_done);
  begins = begins_along plan.done.words done.words stream (ap (λ (d : Done). d.words) (sym is_done)) (begins_taken stream told_after plan.done.words took);
}

-- ---- which pairs are helped

-- none that does not miss its prefix
pub not_missed : OneResult → (ask : PlainAsked) (front : List ℕ) (f : Preferred) (own : State) → LeavesOver ask front own
    → is_missed ask.moment own.held.assigned f ≡ false → ¬ (Helps ask front f)
not_missed one ask front f own leaves not helps =
    let same : helps.own ≡ own = same_left one ask front helps.own own helps.is_own leaves in
    true≢false (sym helps.missed ∙ ap (λ (s : State). is_missed ask.moment s.held.assigned f) same ∙ not)

-- one that is served by the word of its place
pub helps_by : (ask : PlainAsked) (front : List ℕ) (f : Preferred) (own other : State) (had now : List Assigned) → had ≡ own.held.assigned → now ≡ other.held.assigned
    → LeavesOver ask front own → is_missed ask.moment own.held.assigned f ≡ true → LeavesOver ask (front ++ word_of f ∷ []) other
    → (is_kept now f ≡ true) × (earlier_ones (preferred_pair f) now ≡ earlier_ones (preferred_pair f) had) → Helps ask front f
helps_by ask front f own other had now had_is now_is leaves missed others (kept, earlier) = record {
  own = own;
  is_own = leaves;
  missed = missed;
  other = other;
  is_other = others;
  kept = sym (ap (λ (xs : List Assigned). is_kept xs f) now_is) ∙ kept;
  earlier = sym (ap (earlier_ones (preferred_pair f)) now_is) ∙ earlier ∙ ap (earlier_ones (preferred_pair f)) had_is;
}

-- none that is not
pub not_served : OneResult → (ask : PlainAsked) (front : List ℕ) (f : Preferred) (own other : State) (had now : List Assigned) → had ≡ own.held.assigned → now ≡ other.held.assigned
    → LeavesOver ask front own → LeavesOver ask (front ++ word_of f ∷ []) other
    → ¬ ((is_kept now f ≡ true) × (earlier_ones (preferred_pair f) now ≡ earlier_ones (preferred_pair f) had)) → ¬ (Helps ask front f)
not_served one ask front f own other had now had_is now_is leaves others not helps =
    let of_own : helps.own.held.assigned ≡ had = ap (λ (s : State). s.held.assigned) (same_left one ask front helps.own own helps.is_own leaves) ∙ sym had_is in
    let of_other : helps.other.held.assigned ≡ now = ap (λ (s : State). s.held.assigned) (same_left one ask (front ++ word_of f ∷ []) helps.other other helps.is_other others) ∙ sym now_is in not (
      sym (ap (λ (xs : List Assigned). is_kept xs f) of_other) ∙ helps.kept,
      sym (ap (earlier_ones (preferred_pair f)) of_other) ∙ helps.earlier ∙ ap (earlier_ones (preferred_pair f)) of_own,
    )

-- what comes of the word of the place
pub others_left : (ask : PlainAsked) (front listed words : List ℕ) (word : ℕ) (f : Preferred) (next : State) → listed ≡ front ++ word ∷ [] → word ≡ word_of f
    → EventComesTo ask (listed_word listed ask.words) words next → LeavesOver ask (front ++ word_of f ∷ []) next
others_left ask front listed words word f next is of comes = record {
  words = words;
  comes = subst (λ (ls : List ℕ). EventComesTo ask (listed_word ls ask.words) words next) (is ∙ ap (λ (w : ℕ). front ++ w ∷ []) of) comes;
}

-- the pair that is found takes the word
pub taker_of : (ask : PlainAsked) (front : List ℕ) (word : ℕ) (own other : State) (had now : List Assigned) (found : Option Pair) → had ≡ own.held.assigned → now ≡ other.held.assigned
    → LeavesOver ask front own → LeavesOver ask (front ++ word ∷ []) other → IfSome found (λ pair. earlier_ones pair now ≡ earlier_ones pair had)
    → IfSome found (λ pair. ¬ (first_ones pair now ≡ first_ones pair had)) → IfSome found (IsTaker ask front)
taker_of ask front word own other had now None had_is now_is leaves others earlier changed = tt
taker_of ask front word own other had now (Some pair) had_is now_is leaves others earlier changed = record {
  own = own;
  is_own = leaves;
  word = word;
  other = other;
  is_other = others;
  earlier = sym (ap (earlier_ones pair) now_is) ∙ earlier ∙ ap (earlier_ones pair) had_is;
  changed = λ same. changed (ap (first_ones pair) now_is ∙ same ∙ sym (ap (first_ones pair) had_is));
}

-- what may be passed over
pub passed : OneResult → (ask : PlainAsked) (front : List ℕ) (f : Preferred) (own : State) (found : Option Pair) → LeavesOver ask front own → IfSome found (IsTaker ask front)
    → (is_missed ask.moment own.held.assigned f ≡ false) ⊎ ((pair : Pair) × (found ≡ Some pair) × ¬ (pair ≡ preferred_pair f)) → MayBePassed ask front f
passed one ask front f own found leaves taker (inl not) helps = absurd (not_missed one ask front f own leaves not helps)
passed one ask front f own found leaves taker (inr (pair, is, another)) helps = (pair, subst (λ (o : Option Pair). IfSome o (IsTaker ask front)) is taker, another)

-- of what was found, or where nothing was
pub of_some : {X : Type 0} (P : X → Type 0) (found : Option X) (x : X) → found ≡ Some x → IfSome found P → P x
of_some {X} P found x is holds = subst (λ (o : Option X). IfSome o P) is holds

pub of_none : {X : Type 0} (P : Type 0) (found : Option X) → found ≡ None → IfNone found P → P
of_none {X} P found none holds = subst (λ (o : Option X). IfNone o P) none holds

pub all_so_far : {X : Type 0} (P : X → Type 0) (xs : List X) (i : ℕ) (x : X) → i < length xs → x ≡ get_or xs i x → All P (take i xs) → P x → All P (take (i + 1) xs)
all_so_far P xs i x within is before here = subst (All P) (sym (front_more xs i x within is)) (All-push P (take i xs) x before here)

-- of a list that ascends, what is below an element comes before it
below_at : {K : Type 0} (R : K → K → Ordering) → IsTotalOrder R → (xs : List K) → IsStrictlySortedBy R xs → (i : ℕ) (x : K) → i < length xs → x ≡ get_or xs i x
    → (y : K) → Contains xs y → R y x ≡ Less → Contains (take i xs) y
below_at R total [] up i x within is y there less = absurd (nothing_in y there)
below_at {K} R total (z ∷ zs) up zero x within is y there less = elim (Contains-cases z zs y there) [
  | inl here ↦ absurd (not_below_itself R total y x (sym here ∙ sym is) less)
  | inr later ↦ absurd (not_both R total x y (subst (λ (k : K). R k y ≡ Less) (sym is) (below_head R z zs up y later)) less)
]
below_at R total (z ∷ zs) up (suc i) x within is y there less = elim (Contains-cases z zs y there) [
  | inl here ↦ subst (Contains (z ∷ take i zs)) here (Contains-head z (take i zs))
  | inr later ↦ Contains-tail z (take i zs) y (below_at R total zs (sorted_tail R z zs up) i x (omega (arith, within)) is y later less)
]

-- the first one that is helped
pub first_of : IsTotalOrder pair_cmp → (ask : PlainAsked) → IsAscending preferred_pair ask.preferred → (front : List ℕ) (i : ℕ) (f : Preferred) → i < length ask.preferred
    → f ≡ get_or ask.preferred i f → All (MayBePassed ask front) (take i ask.preferred) → Helps ask front f → IsFirstHelped ask front f
first_of total ask up front i f within is before helped = record {
  preferred = (i, within, sym is);
  helped = helped;
  first = λ g there less.
      let (k, below, at) = below_at (on preferred_pair pair_cmp) (on_total preferred_pair total) ask.preferred up i f within is g there less in
      subst (MayBePassed ask front) at (before k g below);
}

-- ---- the words that are chosen

pub none_chosen : (ask : PlainAsked) → AreBest ask []
none_chosen ask i within = absurd (omega (arith, within))

-- one word more
pub one_chosen : (ask : PlainAsked) (words : List ℕ) (w : ℕ) → AreBest ask words → IsBestWord ask words w → AreBest ask (words ++ w ∷ [])
one_chosen ask words w before here i within = elim (cases_lt i (length words)) [
  | inl below ↦ subst (λ (front : List ℕ). IsBestWord ask front (get_or (words ++ w ∷ []) i 0)) (sym (take-append-le i words (w ∷ []) (omega (arith, below))))
      (subst (IsBestWord ask (take i words)) (sym (get_or_append_left words (w ∷ []) 0 i below)) (before i below))
  | inr past ↦
      let last : length words ≡ i = omega (arith, within, past, length-append words (w ∷ [])) in
      subst (λ (k : ℕ). IsBestWord ask (take k (words ++ w ∷ [])) (get_or (words ++ w ∷ []) k 0)) last
      (subst (λ (front : List ℕ). IsBestWord ask front (get_or (words ++ w ∷ []) (length words) 0)) (sym (take-append_seam words (w ∷ [])))
      (subst (IsBestWord ask words) (sym (get_or-append_seam words w [] 0)) here))
]

-- it is drawn
pub drawn_one : (ask : PlainAsked) (words : List ℕ) (w : ℕ) → AreDrawn ask.preferred ask.words words → IsBestWord ask words w → AreDrawn ask.preferred ask.words (words ++ w ∷ [])
drawn_one ask words w drawn (inl (f, first, is)) = drawn_more ask.preferred ask.words words w drawn (inr (f, first.preferred, is))
drawn_one ask words w drawn (inr (none, is)) = drawn_more ask.preferred ask.words words w drawn (inl is)

-- that of the first one that is helped
pub best_helped : (ask : PlainAsked) (front : List ℕ) (w : ℕ) → (f : Preferred) × IsFirstHelped ask front f × (w ≡ word_of f) → IsBestWord ask front w
best_helped ask front w found = inl found

-- or the generator's own
pub best_own : (ask : PlainAsked) (front words : List ℕ) (w : ℕ) → Begins words (listed_word front ask.words) → length front < length words → w ≡ get_or words (length front) 0
    → ((f : Preferred) → Contains ask.preferred f → MayBePassed ask front f) → IsBestWord ask front w
best_own ask front words w begins within is none = inr (none, is ∙ begins (length front) within ∙ own_behind front ask.words (length front) (omega arith))

-- with the generator's own word as one more that is chosen, the same comes
pub own_comes : (ask : PlainAsked) (chosen words next : List ℕ) (w : ℕ) (own : State) → next ≡ chosen ++ w ∷ [] → w ≡ get_or words (length chosen) 0 → length chosen < length words
    → EventComesTo ask (listed_word chosen ask.words) words own → EventComesTo ask (listed_word next ask.words) words own
own_comes ask chosen words next w own is at within comes =
    subst (λ (ls : List ℕ). EventComesTo ask (listed_word ls ask.words) words own) (sym is)
    (comes_over ask (listed_word chosen ask.words) (listed_word (chosen ++ w ∷ []) ask.words) words own comes (one_listed chosen words ask.words w comes.begins within at))

-- where nothing was chosen, each is the generator's own
pub best_of_none : (ask : PlainAsked) (words : List ℕ) → ask.preferred ≡ [] → AreDrawn ask.preferred ask.words words → AreBest ask words
best_of_none ask words none drawn i within =
    let begins : Begins words (chacha_word ask.words) = drawn_of_none ask.words words (subst (λ (fs : List Preferred). AreDrawn fs ask.words words) none drawn) in
    inr (
      λ f there. absurd (nothing_in f (subst (λ (fs : List Preferred). Contains fs f) none there)),
      begins i within ∙ ap (chacha_word ask.words) (sym (length-take-le i words (omega (arith, within)))),
    )

-- where no word is left, or no pair misses its prefix, all are chosen
pub chosen_of : OneResult → (ask : PlainAsked) (chosen words : List ℕ) (own : State) → EventComesTo ask (listed_word chosen ask.words) words own
    → AreDrawn ask.preferred ask.words chosen → AreBest ask chosen → (length words ≤ length chosen) ⊎ (list_any (is_missed ask.moment own.held.assigned) ask.preferred ≡ false)
    → AreChosen ask words
chosen_of one ask chosen words own comes drawn best over = record {
  next = own;
  comes = comes_over ask (listed_word chosen ask.words) (listed_word words ask.words) words own comes (begins_listed words ask.words);
  drawn = drawn_first ask.preferred chosen ask.words words drawn comes.begins;
  best = λ i within. elim (cases_lt i (length chosen)) [
    | inl below ↦
        let front : take i words ≡ take i chosen = same_front chosen words ask.words i comes.begins (omega (arith, below)) (omega (arith, within)) in
        let word : get_or words i 0 ≡ get_or chosen i 0 = comes.begins i within ∙ sym (begins_listed chosen ask.words i below) in
        subst (λ (ws : List ℕ). IsBestWord ask ws (get_or words i 0)) (sym front) (subst (IsBestWord ask (take i chosen)) (sym word) (best i below))
    | inr past ↦
        let many : length (take i words) ≡ i = length-take-le i words (omega (arith, within)) in
        let leaves : LeavesOver ask (take i words) own = record {
          words = words;
          comes = comes_over ask (listed_word chosen ask.words) (listed_word (take i words) ask.words) words own comes (more_listed chosen words ask.words i comes.begins past (omega (arith, within)));
        } in inr (
          λ f there helps. absurd (not_missed one ask (take i words) f own leaves (none_missed f there past within) helps),
          comes.begins i within ∙ own_behind chosen ask.words i past ∙ ap (chacha_word ask.words) (sym many),
        )
  ];
}
  where
    none_missed : (f : Preferred) → Contains ask.preferred f → {i : ℕ} → length chosen ≤ i → i < length words → is_missed ask.moment own.held.assigned f ≡ false
    none_missed f there {i} past within = elim over [
      | inl short ↦ absurd (omega (arith, short, past, within))
      | inr none ↦ elim (cases_Bool (is_missed ask.moment own.held.assigned f)) [
        | inl is ↦ absurd (true≢false (sym (any_from (is_missed ask.moment own.held.assigned) ask.preferred f there is) ∙ none))
        | inr not ↦ not
      ]
    ]

-- what happens over words that were chosen took them
pub best_of_chosen : OneResult → (ask : PlainAsked) (words : List ℕ) → AreChosen ask words → (next : State) (done : Done)
    → Happened ask.moment ask.event ask.router next done → Begins done.words (listed_word words ask.words) → AreBest ask done.words
best_of_chosen one ask words chosen next done happened begins =
    let same = same_result one ask (listed_word words ask.words) words chosen.next next done chosen.comes happened begins in
    let words_are : words ≡ done.words = sym chosen.comes.words_are ∙ ap (λ (d : Done). d.words) same.1 in
    subst (AreBest ask) words_are chosen.best
