-- A preferred prefix that is free in the turn of its pair is published, where the pair's assignment is made anew.
use Rattle.hn_base.proofs.Names.{◌≡◌, ◌∙◌, ℕ, List, [], ◌∷◌, ◌++◌, length, take, get_or, Contains, true, refl, sym, ap, subst, arith, inl, inr, Some!, Begins, length-append, get_or-append_seam, take-append_seam}
use Rattle.hn_base.proofs.DecidingTests.{cases_by}
use Rattle.hn_base.proofs.FirstWords.{begins_front, begins_along}
use Rattle.hn_base.proofs.PartsAtPlaces.{one_of_ascending}
use Rattle.hn_base.proofs.Prefixes.{prefix_total, exact_prefix}
use Rattle.hn_base.proofs.Names.{prefix_cmp, PlainPrefix, Ordering, Less, Equal, Greater, ordering_reverse}
use Rattle.hn_prefix.specs.Laws.{PlaceIsFirst, InsideAreSubPrefixes}
use Rattle.hn_pair.specs.declared.assigned.Assigned.{Assigned}
use Rattle.hn_pair.specs.declared.held.Held.{Held}
use Rattle.hn_pair.specs.declared.pair.Pair.{Pair}
use Rattle.hn_pair.specs.Pair.{IsAscending, assigned_pair, pair_cmp}
use Rattle.hn_assign.specs.Scene.{IsFreeFor}
use Rattle.hn_rules.specs.declared.done.Done.{Done}
use Rattle.hn_rules.specs.declared.running.Running.{Running}
use Rattle.hn_rules.specs.declared.state.State.{State}
use Rattle.hn_router.specs.Act.{Tick, Happened, HasResults}
use Rattle.hn_router.specs.Laws.{EventHasAResult, RouterStays}
use Rattle.hn_kept.specs.declared.preferred.Preferred.{Preferred}
use Rattle.hn_kept.specs.Anew.{words_before, IsMadeAnew, scene_in}
use Rattle.hn_kept.specs.Choosing.{PlainAsked, LeavesOver, earlier_ones, first_ones, Helps, IsTaker, MayBePassed, IsBestWord}
use Rattle.hn_kept.specs.Kept.{Kept, asked_of}
use Rattle.hn_kept.specs.Laws.{IsTickOf, IsOfScene, published_at, FreeIsPublished}
use Rattle.hn_kept.specs.Preferred.{preferred_pair, word_of, is_kept}
use Rattle.hn_kept.specs.Words.{listed_word}
use Rattle.hn_kept.proofs.KeptPairs.{is_kept_by, is_missed_by, missed_not_kept, not_kept_by, stays_along, kept_along, same_earlier, same_first}
use Rattle.hn_kept.proofs.Stream.{begins_listed, own_behind}
use Rattle.hn_kept.proofs.SameAfter.{same_held}
use Rattle.hn_kept.proofs.ThroughTurns.{TurnLaws, WentThrough}
use Rattle.hn_kept.proofs.TurnOutcomes.{tick_happened, word_at, given, gets, gets_preferred, goes_through, earlier_same, word_in, same_gets}

-- the laws on which it rests
pub record FreeLaws : Type 0 where
  pub turns : TurnLaws
  pub result : EventHasAResult
  pub stays : RouterStays
  pub first : PlaceIsFirst
  pub inside : InsideAreSubPrefixes

pub some_results : (now : ℕ) (s : State) → HasResults now Tick s → (stream : ℕ → ℕ) → Some! (λ (result : State × Done). Happened now Tick s result.0 result.1 × Begins result.1.words stream)
unfolding HasResults
some_results now s some = some

-- one of three
by_order : (C : Type 0) (o : Ordering) → (o ≡ Less → C) → (o ≡ Equal → C) → (o ≡ Greater → C) → C
by_order C Less less equal greater = less refl
by_order C Equal less equal greater = equal refl
by_order C Greater less equal greater = greater refl

module _ (laws : FreeLaws) (now : ℕ) (before after : Kept) (f : Preferred) (tick : IsTickOf now before after f) (anew : IsMadeAnew now before.router after.done.words f) where
  -- the words before the turn of the pair
  abbrev front : List ℕ
  front = words_before anew.turn

  abbrev ask : PlainAsked
  ask = asked_of now Tick before

  -- a tick over a stream that begins with those goes through the turn
  record IsOver (stream : ℕ → ℕ) (next : State) : Type 0 where
    pub end : Running
    pub held : next.held ≡ end.state.held
    pub begins : Begins end.done.words stream
    pub went : WentThrough now before.router f anew.turn end
    pub ascends : IsAscending assigned_pair next.held.assigned

  over : (stream : ℕ → ℕ) (next : State) (done : Done) → Happened now Tick before.router next done → Begins done.words stream → Begins front stream → IsOver stream next
  over stream next done happens begins at_turn =
      let to = tick_happened now before.router next done happens in
      record {
        end = to.end;
        held = to.held;
        begins = begins_along done.words to.end.done.words stream to.words_are begins;
        went = goes_through laws.turns now before.router after.done.words f anew next done.words stream to begins at_turn;
        ascends = (laws.stays now Tick before.router next done tick.router tick.not_before tt happens).well.pairs.assigned;
      }

  leaves : (listed : List ℕ) (next : State) → LeavesOver ask listed next → Begins front (listed_word listed before.words) → IsOver (listed_word listed before.words) next
  leaves listed next left at_turn =
      over (listed_word listed before.words) next left.comes.done left.comes.happened
      (begins_along left.words left.comes.done.words (listed_word listed before.words) (sym left.comes.words_are) left.comes.begins) at_turn

  -- a pair has one assignment there
  only_in : (stream : ℕ → ℕ) (next : State) → IsOver stream next → (a b : Assigned) → Contains next.held.assigned a → Contains next.held.assigned b → assigned_pair a ≡ assigned_pair b → a ≡ b
  only_in stream next run a b = one_of_ascending assigned_pair pair_cmp laws.turns.total next.held.assigned run.ascends a b

  -- the pair gets a prefix
  got : (stream : ℕ → ℕ) (next : State) → IsOver stream next → (p : PlainPrefix) × Contains next.held.assigned (given now f p)
  got stream next run =
      let it = gets laws.turns now before.router after.done.words f anew run.end run.went in
      (it.0, subst (λ (h : Held). Contains h.assigned (given now f it.0)) (sym run.held) it.1)

  -- the same one with the same word
  same_got : (s t : ℕ → ℕ) (a b : State) (p : IsOver s a) (q : IsOver t b) → s (length front) ≡ t (length front) → (got s a p).0 ≡ (got t b q).0
  unfolding got
  same_got s t a b p q same =
      same_gets laws.turns now before.router after.done.words f anew p.end q.end p.went q.went
      (word_in laws.turns now before.router after.done.words f anew p.end p.went s p.begins ∙ same
      ∙ sym (word_in laws.turns now before.router after.done.words f anew q.end q.went t q.begins))

  -- the pairs before it have the same
  same_before : (s t : ℕ → ℕ) (a b : State) → IsOver s a → IsOver t b → earlier_ones (preferred_pair f) a.held.assigned ≡ earlier_ones (preferred_pair f) b.held.assigned
  same_before s t a b p q = same_earlier laws.turns.total (preferred_pair f) a.held.assigned b.held.assigned p.ascends q.ascends (along s t a b p q) (along t s b a q p)
    where
      along : (s t : ℕ → ℕ) (a b : State) → IsOver s a → IsOver t b → (c : Assigned) → pair_cmp (assigned_pair c) (preferred_pair f) ≡ Less
          → Contains a.held.assigned c → Contains b.held.assigned c
      along s t a b p q c less there =
          subst (λ (h : Held). Contains h.assigned c) (sym q.held)
          (earlier_same laws.turns now before.router f anew.turn p.end q.end p.went q.went c less (subst (λ (h : Held). Contains h.assigned c) p.held there))

  -- ---- the words of the tick, those before the turn, and those with another one behind them

  abbrev all : ℕ → ℕ
  all = listed_word after.done.words before.words

  abbrev own : ℕ → ℕ
  own = listed_word front before.words

  abbrev instead : ℕ → ℕ → ℕ
  instead w = listed_word (front ++ w ∷ []) before.words

  all_begins : Begins (front ++ anew.word ∷ anew.rest) all
  all_begins = begins_along after.done.words (front ++ anew.word ∷ anew.rest) all anew.took (begins_listed after.done.words before.words)

  after_over : IsOver all after.router
  after_over = over all after.router after.done tick.acts.happened (begins_listed after.done.words before.words) (begins_front front (anew.word ∷ anew.rest) all all_begins)

  own_over : (next : State) → LeavesOver ask front next → IsOver own next
  own_over next left = leaves front next left (begins_listed front before.words)

  instead_over : (w : ℕ) (next : State) → LeavesOver ask (front ++ w ∷ []) next → IsOver (instead w) next
  instead_over w next left = leaves (front ++ w ∷ []) next left (begins_front front (w ∷ []) (instead w) (begins_listed (front ++ w ∷ []) before.words))

  word_instead : (w : ℕ) → w ≡ instead w (length front)
  word_instead w = word_at front w [] (instead w) (begins_listed (front ++ w ∷ []) before.words)

  -- with another word there, and the same prefix for the pair, all is the same
  same_all : (w : ℕ) (a b : State) (p : IsOver own a) (q : IsOver (instead w) b) → (got own a p).0 ≡ (got (instead w) b q).0 → a.held.assigned ≡ b.held.assigned
  unfolding got
  same_all w a b p q same =
      let many = length-append front (w ∷ []) in
      ap (λ (h : Held). h.assigned)
      (p.held
      ∙ same_held laws.turns now before.router after.done.words f anew p.end q.end p.went q.went same own (instead w) p.begins q.begins
      (λ i behind. own_behind front before.words i (omega (arith, behind)) ∙ sym (own_behind (front ++ w ∷ []) before.words i (omega (arith, many, behind))))
      ∙ sym q.held)

  word_after : anew.word ≡ all (length front)
  word_after = word_at front anew.word anew.rest all all_begins

  -- the word of the turn is the one that is chosen there
  word_is_best : IsBestWord ask front anew.word
  word_is_best =
      let many = length-append front (anew.word ∷ anew.rest) in
      let best = tick.acts.best refl (length front) (let long = ap (λ (ws : List ℕ). length ws) anew.took in omega (arith, many, long)) in
      let at_front : take (length front) after.done.words ≡ front = ap (take (length front)) anew.took ∙ take-append_seam front (anew.word ∷ anew.rest) in
      let at_word : get_or after.done.words (length front) 0 ≡ anew.word = ap (λ (ws : List ℕ). get_or ws (length front) 0) anew.took ∙ get_or-append_seam front anew.word anew.rest 0 in
      subst (IsBestWord ask front) at_word (subst (λ (ws : List ℕ). IsBestWord ask ws (get_or after.done.words (length front) 0)) at_front best)

  module _ (of : IsOfScene (scene_in anew) f) (free : IsFreeFor (scene_in anew) f.prefix) where
    -- with the word of its place it gets the preferred prefix
    got_preferred : (stream : ℕ → ℕ) (next : State) (run : IsOver stream next) → stream (length front) ≡ word_of f → Contains next.held.assigned (given now f f.prefix)
    got_preferred stream next run at_place =
        subst (λ (h : Held). Contains h.assigned (given now f f.prefix)) (sym run.held)
        (gets_preferred laws.turns now before.router after.done.words f anew laws.first laws.inside of free run.end stream run.went run.begins at_place)

    kept_instead : (next : State) → LeavesOver ask (front ++ word_of f ∷ []) next → is_kept next.held.assigned f ≡ true
    kept_instead next left =
        is_kept_by f next.held.assigned (given now f f.prefix)
        (got_preferred (instead (word_of f)) next (instead_over (word_of f) next left) (sym (word_instead (word_of f)))) refl refl

    -- where it would get another one, that word helps it
    helps : (next other : State) (left : LeavesOver ask front next) → LeavesOver ask (front ++ word_of f ∷ []) other → ¬ ((got own next (own_over next left)).0 ≡ f.prefix) → Helps ask front f
    helps next other left others another =
        let run = own_over next left in
        let it = got own next run in
        record {
          own = next;
          is_own = left;
          missed = is_missed_by now 2 f next.held.assigned (given now f it.0) it.1 refl refl refl
              (not_kept_by f next.held.assigned (given now f it.0) (only_in own next run) it.1 refl another);
          other = other;
          is_other = others;
          kept = kept_instead other others;
          earlier = same_before (instead (word_of f)) own other next (instead_over (word_of f) other others) run;
        }

    -- no other pair takes the word
    no_other : (pair : Pair) → IsTaker ask front pair → ¬ (pair ≡ preferred_pair f) → ⊥
    no_other pair taker another =
        let run = own_over taker.own taker.is_own in
        let others = instead_over taker.word taker.other taker.is_other in
        by_order ⊥ (pair_cmp pair (preferred_pair f))
        (λ less. taker.changed
        (same_first laws.turns.total laws.turns.exact pair (preferred_pair f) taker.other.held.assigned taker.own.held.assigned others.ascends run.ascends less
        (same_before (instead taker.word) own taker.other taker.own others run)))
        (λ equal. another (laws.turns.exact pair (preferred_pair f) equal))
        (λ greater.
        let less : pair_cmp (preferred_pair f) pair ≡ Less = laws.turns.total.antisymm (preferred_pair f) pair ∙ ap ordering_reverse greater in
        let it = got own taker.own run in
        let in_other = stays_along pair taker.own.held.assigned taker.other.held.assigned (sym taker.earlier) (given now f it.0) less it.1 in
        let same : (got own taker.own run).0 ≡ (got (instead taker.word) taker.other others).0 =
        ap (λ (c : Assigned). c.prefix)
        (only_in (instead taker.word) taker.other others (given now f it.0) (given now f (got (instead taker.word) taker.other others).0) in_other
        (got (instead taker.word) taker.other others).1 refl) in
        taker.changed (ap (λ (xs : List Assigned). first_ones pair xs) (sym (same_all taker.word taker.own taker.other run others same))))

    -- so it is not passed over
    not_passed : MayBePassed ask front f → Helps ask front f → ⊥
    not_passed passed helped = let (pair, taker, another) = passed helped in no_other pair taker another

    -- no pair before it is helped
    none_earlier : (g : Preferred) → pair_cmp (preferred_pair g) (preferred_pair f) ≡ Less → ¬ (Helps ask front g)
    none_earlier g less helped =
        missed_not_kept now g helped.own.held.assigned helped.missed
        (kept_along (preferred_pair f) g helped.other.held.assigned helped.own.held.assigned
        (same_before (instead (word_of g)) own helped.other helped.own (instead_over (word_of g) helped.other helped.is_other) (own_over helped.own helped.is_own)) less helped.kept)

    -- what it has, a later pair that is helped leaves it
    later_leaves : (g : Preferred) (h : Helps ask front g) → pair_cmp (preferred_pair f) (preferred_pair g) ≡ Less → (got own h.own (own_over h.own h.is_own)).0 ≡ f.prefix
        → anew.word ≡ word_of g → (got all after.router after_over).0 ≡ f.prefix
    later_leaves g h less is word =
        let run = own_over h.own h.is_own in
        let others = instead_over (word_of g) h.other h.is_other in
        let there : Contains h.own.held.assigned (given now f f.prefix) = subst (λ (p : PlainPrefix). Contains h.own.held.assigned (given now f p)) is (got own h.own run).1 in
        let in_other : Contains h.other.held.assigned (given now f f.prefix) =
        stays_along (preferred_pair g) h.own.held.assigned h.other.held.assigned (sym h.earlier) (given now f f.prefix) less there in
        same_got all (instead (word_of g)) after.router h.other after_over others (sym word_after ∙ word ∙ word_instead (word_of g))
        ∙ ap (λ (c : Assigned). c.prefix)
        (only_in (instead (word_of g)) h.other others (given now f (got (instead (word_of g)) h.other others).0) (given now f f.prefix) (got (instead (word_of g)) h.other others).1 in_other refl)

    -- with the word of its place it has it after the tick
    of_place : anew.word ≡ word_of f → (got all after.router after_over).0 ≡ f.prefix
    of_place word =
        ap (λ (c : Assigned). c.prefix)
        (only_in all after.router after_over (given now f (got all after.router after_over).0) (given now f f.prefix) (got all after.router after_over).1
        (got_preferred all after.router after_over (sym word_after ∙ word)) refl)

    -- whatever word is chosen, it has it
    by_word : (next other : State) (left : LeavesOver ask front next) → LeavesOver ask (front ++ word_of f ∷ []) other → IsBestWord ask front anew.word → (got all after.router after_over).0 ≡ f.prefix
    by_word next other left others (inr (none, word)) = elim (cases_by prefix_cmp prefix_total exact_prefix (got own next (own_over next left)).0 f.prefix) [
      | inl is ↦ same_got all own after.router next after_over (own_over next left) (sym word_after ∙ word ∙ sym (own_behind front before.words (length front) (omega arith))) ∙ is
      | inr another ↦ absurd (not_passed (none f tick.preferred) (helps next other left others another))
    ]
    by_word next other left others (inl (g, first, word)) =
        by_order ((got all after.router after_over).0 ≡ f.prefix) (pair_cmp (preferred_pair f) (preferred_pair g))
        (λ less. elim (cases_by prefix_cmp prefix_total exact_prefix (got own first.helped.own (own_over first.helped.own first.helped.is_own)).0 f.prefix) [
          | inl is ↦ later_leaves g first.helped less is word
          | inr another ↦ absurd (not_passed (first.first f tick.preferred less) (helps first.helped.own other first.helped.is_own others another))
        ])
        (λ equal.
        let same : f ≡ g =
        one_of_ascending preferred_pair pair_cmp laws.turns.total before.preferred tick.acts.ascends f g tick.preferred first.preferred
        (laws.turns.exact (preferred_pair f) (preferred_pair g) equal) in
        of_place (word ∙ ap word_of (sym same)))
        (λ greater.
        let less : pair_cmp (preferred_pair g) (preferred_pair f) ≡ Less = laws.turns.total.antisymm (preferred_pair g) (preferred_pair f) ∙ ap ordering_reverse greater in
        absurd (none_earlier g less first.helped))

    -- the ticks that are compared have results
    left_by : (listed : List ℕ) (next : State) (done : Done) → Happened now Tick before.router next done → Begins done.words (listed_word listed before.words) → LeavesOver ask listed next
    left_by listed next done happens begins = record { words = done.words; comes = record { done = done; happened = happens; words_are = refl; begins = begins } }

    not_another : ¬ ((got all after.router after_over).0 ≡ f.prefix) → ⊥
    not_another another =
        let results = laws.result now Tick before.router tick.router tick.not_before tt tt in
        some_results now before.router results own (λ (next, done) (happens, begins).
        some_results now before.router results (instead (word_of f)) (λ (other, other_done) (other_happens, other_begins).
        another (by_word next other (left_by front next done happens begins) (left_by (front ++ word_of f ∷ []) other other_done other_happens other_begins) word_is_best)))

    pub is_published : Contains after.router.held.assigned (published_at now f)
    is_published = elim (cases_by prefix_cmp prefix_total exact_prefix (got all after.router after_over).0 f.prefix) [
      | inl same ↦ subst (λ (p : PlainPrefix). Contains after.router.held.assigned (given now f p)) same (got all after.router after_over).1
      | inr other ↦ absurd (not_another other)
    ]

-- after the tick a pair has one assignment
pub only_one : (laws : FreeLaws) (now : ℕ) (before after : Kept) (f : Preferred) → IsTickOf now before after f
    → (a b : Assigned) → Contains after.router.held.assigned a → Contains after.router.held.assigned b → assigned_pair a ≡ assigned_pair b → a ≡ b
only_one laws now before after f tick a b =
    one_of_ascending assigned_pair pair_cmp laws.turns.total after.router.held.assigned
    ((laws.stays now Tick before.router after.router after.done tick.router tick.not_before tt tick.acts.happened).well.pairs.assigned) a b

pub free_is_published : FreeLaws → FreeIsPublished
free_is_published laws now before after f tick anew of free = is_published laws now before after f tick anew of free
