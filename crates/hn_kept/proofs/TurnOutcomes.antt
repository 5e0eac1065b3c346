-- What a tick that goes through the turn of a pair leaves for it, where an assignment is made anew there, and for the pairs before it.
use Rattle.hn_base.proofs.Names.{◌≡◌, ◌∙◌, ◌↔◌, ℕ, ◌-◌, List, [], ◌∷◌, ◌++◌, length, map, Contains, Some, None, Bool, true, false, refl, sym, ap, subst, arith, inl, inr, on, Begins}
use Rattle.hn_base.proofs.Names.{get_or-append_seam, sorted_tail, nat_le, if◌then◌else◌, Less, PlainPrefix, HaveSame, length-append, false≢true}
use Rattle.hn_base.proofs.AscendingLists.{Contains-cases, Contains-map, Contains-from_map, below_head, not_below_itself}
use Rattle.hn_base.proofs.FirstWords.{begins_along}
use Rattle.hn_base.proofs.FrontOfList.{head_is}
use Rattle.hn_prefix.specs.Laws.{PlaceIsFirst, InsideAreSubPrefixes}
use Rattle.hn_pair.specs.declared.assigned.Assigned.{Assigned}
use Rattle.hn_pair.specs.declared.assigned.Wish.{Wish}
use Rattle.hn_pair.specs.declared.held.Held.{Held}
use Rattle.hn_pair.specs.declared.pair.Pair.{Pair}
use Rattle.hn_assign.specs.declared.slot.Slot.{Slot}
use Rattle.hn_pair.specs.Marks.{marked_applied}
use Rattle.hn_pair.specs.Pair.{IsAscending, assigned_pair, wish_pair, pair_cmp}
use Rattle.hn_assign.specs.Scene.{scene_of, IsFreeFor, IsFirstFreeFor, new_assigned}
use Rattle.hn_assign.specs.Unassigned.{IsMade}
use Rattle.hn_rules.specs.declared.done.Done.{Done}
use Rattle.hn_rules.specs.declared.running.Running.{Running}
use Rattle.hn_rules.specs.declared.state.State.{State}
use Rattle.hn_rules.specs.Rules.{begun_at}
use Rattle.hn_rules.specs.Ticks.{IsTick}
use Rattle.hn_router.specs.Act.{Tick, Happened, IsEvent}
use Rattle.hn_kept.specs.declared.preferred.Preferred.{Preferred}
use Rattle.hn_kept.specs.Anew.{IsTurnInTick, view_after, words_before, IsMadeAnew, scene_in}
use Rattle.hn_kept.specs.Laws.{IsOfScene}
use Rattle.hn_kept.specs.Preferred.{preferred_pair, word_of}
use Rattle.hn_kept.proofs.PairTurns.{IsMadeAgain, made_again, made_there, same_advertised, free_by_same}
use Rattle.hn_kept.proofs.PlaceOfPrefix.{place_is_published}
use Rattle.hn_kept.proofs.StepsOfPairs.{others_stay}
use Rattle.hn_kept.proofs.ThroughTurns.{TurnLaws, WentThrough, through, lists_ascend, moment_is}

-- ---- a tick that happened

-- what a tick leaves, and the words that it takes
pub record IsTickTo (now : ℕ) (s next : State) (words : List ℕ) : Type 0 where
  pub end : Running
  pub ticked : IsTick (begun_at now s) end
  pub held : next.held ≡ end.state.held
  pub words_are : words ≡ end.done.words

event_ticked : (before after : Running) → IsEvent Tick before after → IsTick before after
event_ticked before after (inl refused) = absurd (false≢true refused.0)
event_ticked before after (inr ticked) = ticked.1

pub tick_happened : (now : ℕ) (s next : State) (done : Done) → Happened now Tick s next done → IsTickTo now s next done.words
unfolding Happened
tick_happened now s next done (end, event, (due, is_due, next_is), done_is) = record {
  end = end;
  ticked = event_ticked (begun_at now s) end event;
  held = ap (λ (t : State). t.held) next_is;
  words_are = ap (λ (d : Done). d.words) done_is;
}

-- ---- words

pub word_at : (xs : List ℕ) (w : ℕ) (ys : List ℕ) (stream : ℕ → ℕ) → Begins (xs ++ w ∷ ys) stream → w ≡ stream (length xs)
word_at xs w ys stream begins = sym (get_or-append_seam xs w ys 0) ∙ begins (length xs) (omega (arith, length-append xs (w ∷ ys)))

-- ---- pairs in order

pub back_ascends : (front back : List Wish) → IsAscending wish_pair (front ++ back) → IsAscending wish_pair back
back_ascends [] back up = up
back_ascends (w ∷ front) back up = back_ascends front back (sorted_tail (on wish_pair pair_cmp) w (front ++ back) up)

-- marks leave the pair, and what is published of it
pub marked_parts : (now : ℕ) (c : Assigned) → (assigned_pair (marked_applied now c) ≡ assigned_pair c) × ((marked_applied now c).published ≡ c.published)
marked_parts now c = go (nat_le 10000 (now - c.since))
  where
    go : (b : Bool) → (assigned_pair (if b then record c { applied = true } else c) ≡ assigned_pair c) × ((if b then record c { applied = true } else c).published ≡ c.published)
    go true = (refl, refl)
    go false = (refl, refl)

-- the assignment that a pair has from this moment on, with a prefix
abbrev pub given : ℕ → Preferred → PlainPrefix → Assigned
given now f p = record { delegated = f.delegated; endpoint = f.endpoint; prefix = p; published = Some 2; since = now; applied = false }

marked_new : (now : ℕ) (f : Preferred) (p : PlainPrefix) → marked_applied now (given now f p) ≡ given now f p
marked_new now f p =
    let none : now - now ≡ 0 = omega arith in
    ap (λ (n : ℕ). if nat_le 10000 n then record (given now f p) { applied = true } else given now f p) none

module _ (laws : TurnLaws) (now : ℕ) (s : State) (f : Preferred) (turn : IsTurnInTick now s f) where
  pairs_ascend : IsAscending wish_pair (turn.wish ∷ turn.later)
  pairs_ascend = back_ascends turn.earlier (turn.wish ∷ turn.later) turn.are_asked.ascending

  -- a pair that comes before this one has its turn before it
  earlier_stays : (end : Running) (went : WentThrough now s f turn end) (c : Assigned) → pair_cmp (assigned_pair c) (preferred_pair f) ≡ Less
      → Contains went.last.held.assigned c ↔ Contains turn.before.held.assigned c
  earlier_stays end went c less =
      let first : pair_cmp (assigned_pair c) (wish_pair turn.wish) ≡ Less = subst (λ (p : Pair). pair_cmp (assigned_pair c) p ≡ Less) (sym turn.of_pair) less in
      others_stay (view_after turn.lost) (turn.wish ∷ turn.later) turn.before went.last c (went.next, went.words, went.step, went.steps)
      (λ w there same. elim (Contains-cases turn.wish turn.later w there) [
        | inl here ↦ not_below_itself pair_cmp laws.total (assigned_pair c) (wish_pair turn.wish) (same ∙ ap wish_pair (sym here)) first
        | inr later ↦ not_below_itself pair_cmp laws.total (assigned_pair c) (wish_pair w) same
            (laws.total.trans (assigned_pair c) (wish_pair turn.wish) (wish_pair w) first (below_head (on wish_pair pair_cmp) turn.wish turn.later pairs_ascend w later))
      ])

  -- so in two runs it has the same
  pub earlier_same : (end other : Running) → WentThrough now s f turn end → WentThrough now s f turn other → (c : Assigned)
      → pair_cmp (assigned_pair c) (preferred_pair f) ≡ Less → Contains end.state.held.assigned c → Contains other.state.held.assigned c
  earlier_same end other one two c less there =
      let marked : Contains (map (marked_applied now) one.last.held.assigned) c = subst (λ (h : Held). Contains h.assigned c) one.held there in
      let (d, in_last, is) = Contains-from_map (marked_applied now) one.last.held.assigned c marked in
      let same : assigned_pair d ≡ assigned_pair c = sym (marked_parts now d).0 ∙ ap assigned_pair is in
      let before : pair_cmp (assigned_pair d) (preferred_pair f) ≡ Less = subst (λ (p : Pair). pair_cmp p (preferred_pair f) ≡ Less) (sym same) less in
      let in_other : Contains two.last.held.assigned d = (earlier_stays other two d before).1 ((earlier_stays end one d before).0 in_last) in
      subst (λ (h : Held). Contains h.assigned c) (sym two.held)
      (subst (λ (x : Assigned). Contains (map (marked_applied now) two.last.held.assigned) x) is (Contains-map (marked_applied now) two.last.held.assigned d in_other))

  -- what the pair gets from this moment on it has at the end
  pub given_stays : (end : Running) (went : WentThrough now s f turn end) (p : PlainPrefix) → went.step.new.assigned ≡ Some (given now f p) → Contains end.state.held.assigned (given now f p)
  given_stays end went p is =
      let c = given now f p in
      let (in_next, of_wish) = made_there (view_after turn.lost) turn.wish went.words turn.before went.next went.step c is in
      let in_last : Contains went.last.held.assigned c =
      (others_stay (view_after turn.lost) turn.later went.next went.last c went.steps
      (λ w there same. not_below_itself pair_cmp laws.total (wish_pair turn.wish) (wish_pair w) (sym of_wish ∙ same)
      (below_head (on wish_pair pair_cmp) turn.wish turn.later pairs_ascend w there))).1 in_next in
      subst (λ (h : Held). Contains h.assigned c) (sym went.held)
      (subst (λ (x : Assigned). Contains (map (marked_applied now) went.last.held.assigned) x) (marked_new now f p) (Contains-map (marked_applied now) went.last.held.assigned c in_last))

module _ (laws : TurnLaws) (now : ℕ) (s : State) (words : List ℕ) (f : Preferred) (anew : IsMadeAnew now s words f) where
  -- a run that goes through the turn makes an assignment there
  pub again_in : (end : Running) (went : WentThrough now s f anew.turn end)
      → IsMadeAgain laws.best laws.total (view_after anew.turn.lost) anew.turn.wish anew.turn.before anew.after went.next
      (lists_ascend laws now s f anew.turn).0 (lists_ascend laws now s f anew.turn).1 anew.word went.words anew.step went.step
  again_in end went =
      made_again laws.best laws.total (view_after anew.turn.lost) anew.turn.wish anew.turn.before anew.after went.next
      (lists_ascend laws now s f anew.turn).0 (lists_ascend laws now s f anew.turn).1 anew.word went.words anew.step went.step anew.made

  -- it is of the pair, from this moment on
  pub is_given : (end : Running) (went : WentThrough now s f anew.turn end) (p : PlainPrefix)
      → new_assigned (scene_of (view_after anew.turn.lost) anew.turn.wish went.step.advertised) p (Some 2) ≡ given now f p
  is_given end went p =
      let moment : anew.turn.lost.state.moment ≡ now = moment_is laws now s f anew.turn in
      let delegated = ap (λ (x : Pair). x.delegated) anew.turn.of_pair in
      let endpoint = ap (λ (x : Pair). x.endpoint) anew.turn.of_pair in
      λ i. record { delegated = delegated i; endpoint = endpoint i; prefix = p; published = Some 2; since = moment i; applied = false }

  -- with some prefix
  pub gets : (end : Running) → WentThrough now s f anew.turn end → (p : PlainPrefix) × Contains end.state.held.assigned (given now f p)
  gets end went =
      let again = again_in end went in
      (again.made.prefix, given_stays laws now s f anew.turn end went again.made.prefix (ap (λ (slot : Slot). slot.assigned) again.made.gives ∙ ap Some (is_given end went again.made.prefix)))

  -- the word that a run takes there
  pub word_in : (end : Running) (went : WentThrough now s f anew.turn end) (stream : ℕ → ℕ) → Begins end.done.words stream → (again_in end went).taken ≡ stream (length (words_before anew.turn))
  word_in end went stream begins =
      let again = again_in end went in
      let all : end.done.words ≡ words_before anew.turn ++ again.taken ∷ went.rest = went.took ∙ ap (λ (ws : List ℕ). words_before anew.turn ++ (ws ++ went.rest)) again.takes in
      word_at (words_before anew.turn) again.taken went.rest stream (begins_along end.done.words (words_before anew.turn ++ again.taken ∷ went.rest) stream all begins)

  -- by the same prefixes in each run
  advertised_in : (end : Running) (went : WentThrough now s f anew.turn end) → HaveSame anew.step.advertised went.step.advertised
  advertised_in end went =
      same_advertised laws.best laws.total (view_after anew.turn.lost) anew.turn.wish anew.turn.before anew.after went.next
      (lists_ascend laws now s f anew.turn).0 (lists_ascend laws now s f anew.turn).1 anew.word went.words anew.step went.step

  -- with one word the pair gets one prefix
  pub same_gets : (a b : Running) (p : WentThrough now s f anew.turn a) (q : WentThrough now s f anew.turn b) → (again_in a p).taken ≡ (again_in b q).taken → (gets a p).0 ≡ (gets b q).0
  unfolding gets again_in
  same_gets a b p q same =
      let one = again_in a p in
      let two = again_in b q in
      let word : one.made.word ≡ two.made.word = sym (head_is one.made.took) ∙ same ∙ head_is two.made.took in
      let also : HaveSame p.step.advertised q.step.advertised = λ x.
      let h = advertised_in a p x in
      let k = advertised_in b q x in
      (λ there. k.0 (h.1 there), λ there. h.0 (k.1 there)) in
      laws.first p.step.advertised q.step.advertised also anew.turn.wish.delegated two.made.word anew.turn.wish.length one.made.prefix two.made.prefix
      (subst (λ (w : ℕ). IsFirstFreeFor (scene_of (view_after anew.turn.lost) anew.turn.wish p.step.advertised) w one.made.prefix) word one.made.first) two.made.first

  -- where it gets one prefix, its turn leaves the same
  pub same_new : (a b : Running) (p : WentThrough now s f anew.turn a) (q : WentThrough now s f anew.turn b) → (gets a p).0 ≡ (gets b q).0 → p.step.new ≡ q.step.new
  unfolding gets again_in
  same_new a b p q same =
      let one = again_in a p in
      let two = again_in b q in
      let make : Assigned → Slot = λ c. record { assigned = Some c; backoff = None } in
      one.made.gives ∙ ap make (is_given a p one.made.prefix ∙ ap (given now f) same ∙ sym (is_given b q two.made.prefix)) ∙ sym two.made.gives

  -- over a stream with the word of its place it has the preferred prefix, if that is free
  pub gets_preferred : PlaceIsFirst → InsideAreSubPrefixes → IsOfScene (scene_in anew) f → IsFreeFor (scene_in anew) f.prefix
      → (end : Running) (stream : ℕ → ℕ) (went : WentThrough now s f anew.turn end) → Begins end.done.words stream → stream (length (words_before anew.turn)) ≡ word_of f
      → Contains end.state.held.assigned (given now f f.prefix)
  gets_preferred first inside of free end stream went begins at_place =
      let again = again_in end went in
      let view = view_after anew.turn.lost in
      let wish = anew.turn.wish in
      let scene = scene_of view wish went.step.advertised in
      let word : again.taken ≡ word_of f = word_in end went stream begins ∙ at_place in
      let free_there : IsFreeFor scene f.prefix = free_by_same anew.step.advertised went.step.advertised view wish f.prefix (advertised_in end went) free in
      let of_there : IsOfScene scene f = record {
        delegated = of.delegated;
        length = of.length;
        prefix = of.prefix;
        outer = of.outer;
        inside = of.inside;
        long = of.long;
        not_shorter = of.not_shorter;
        short = of.short;
      } in
      let made : IsMade scene went.step.old (word_of f ∷ []) went.step.new =
      subst (λ (w : ℕ). IsMade scene went.step.old (w ∷ []) went.step.new) word again.made in
      given_stays laws now s f anew.turn end went f.prefix
      (place_is_published first inside scene f went.step.old went.step.new of_there free_there made ∙ ap Some (is_given end went f.prefix))

  -- where a run takes the words before the turn
  pub goes_through : (next : State) (taken : List ℕ) (stream : ℕ → ℕ) (to : IsTickTo now s next taken) → Begins taken stream → Begins (words_before anew.turn) stream
      → WentThrough now s f anew.turn to.end
  goes_through next taken stream to begins at_turn =
      through laws now s f anew.turn to.end stream to.ticked (begins_along taken to.end.done.words stream to.words_are begins) at_turn
