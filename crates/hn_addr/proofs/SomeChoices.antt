-- Over each stream of words a router has a choice: it cannot be that there is none.
use Rattle.hn_base.proofs.Names.{◌∙◌, ◌+◌, ◌≡◌, ◌⊎◌, ◌≤◌, ℕ, List, [], ◌∷◌, filter, refl, ap, inl, inr, sym, subst, arith, nat_cmp, append-nil, IsExact, Some!, IsTotalBy, Begins}
use Rattle.hn_addr.proofs.Names.{Assigned, PlainView, OwnAddress, address_cmp, seen_by, State, NumberFits, IsFirstFit, Stays, start_of, ahead, adding, counts, none_chosen, KeepsOwn, DrawsOne}
use Rattle.hn_addr.proofs.Names.{GetsNone, IsChosenFor, AreNext, Keep, Set, Choosing}
use Rattle.hn_base.proofs.AscendingLists.{exact_nat, exact_then}
use Rattle.hn_base.proofs.AscendingMade.{ascending_of}
use Rattle.hn_base.proofs.SomeExists.{some_by, some_least, some_then}
use Rattle.hn_base.proofs.SomeResult.{total_cases, total_each, total_from, total_given, total_word}
use Rattle.hn_addr.specs.Addresses.{IsChoice}
use Rattle.hn_addr.specs.Laws.{HasAChoice, ChoiceExists}
use Rattle.hn_addr.specs.declared.choice.Choice.{Choice}
use Rattle.hn_addr.proofs.OneChoosing.{address_told, addresses_total}

-- ---- one assignment

-- the words that were taken so far
abbrev words_of : Choosing → List ℕ
words_of p = p.words

-- whatever was chosen before
abbrev Any : Choosing → Type 0
Any p = Unit {0}

module _ (view : PlainView) (own : List OwnAddress) (c : Assigned) where
  -- an own address stays
  abbrev OneStays : Choosing → Type 0
  OneStays p = (x : ℕ) × Stays view own c p.list x

  -- a number fits
  abbrev OneFits : Choosing → Type 0
  OneFits p = (k : ℕ) × NumberFits view c p.list k

  -- the address with the first number that fits comes, from the start that this word says
  abbrev DrawsBy : ℕ → Choosing → Choosing → Type 0
  DrawsBy word before after = (k : ℕ) × IsFirstFit view c before.list word k × (after ≡ adding c.endpoint (c.prefix.bits + k) (word ∷ []) before)

  -- so far is a number that fits from that start
  abbrev IsAhead : List OwnAddress → ℕ → ℕ → Type 0
  IsAhead list word far = (k : ℕ) × NumberFits view c list k × (ahead (start_of word) k ≡ far)

  some_first_fit : (list : List OwnAddress) (word k : ℕ) → NumberFits view c list k → Some! (IsFirstFit view c list word)
  some_first_fit list word k fits =
      some_then (some_least (IsAhead list word) (ahead (start_of word) k) (k, fits, refl)) (λ far least none.
      let (at, so, is) = least.1 in
      none at (record { fits = so; first = λ j also. subst (λ (n : ℕ). n ≤ ahead (start_of word) j) (sym is) (least.2 (ahead (start_of word) j) (j, also, refl)) }))

  total_keeps : IsTotalBy words_of (λ p. Any p × OneStays p) (KeepsOwn view own c)
  total_keeps = total_given words_of (λ p. Any p × OneStays p) (KeepsOwn view own c) (λ r a h. ap words_of h.2 ∙ append-nil r.words)
      (λ r is none. none _ (is.1.0, is.1.1, refl))

  total_draws : IsTotalBy words_of (λ p. (Any p × ¬ (OneStays p)) × OneFits p) (DrawsOne view c)
  total_draws = total_from words_of (λ p. (Any p × ¬ (OneStays p)) × OneFits p) (λ r a. (word : ℕ) × DrawsBy word r a) (DrawsOne view c)
      (λ r a is h. (h.0, h.1.0, h.1.1, h.1.2))
      (total_word words_of (λ p. (Any p × ¬ (OneStays p)) × OneFits p) DrawsBy (λ word r a h. ap words_of h.2)
      (λ word r is. some_then (some_first_fit r.list word is.1.0 is.1.1) (λ k first none. none _ (k, first, refl))))

  total_none : IsTotalBy words_of (λ p. (Any p × ¬ (OneStays p)) × ¬ (OneFits p)) (GetsNone view c)
  total_none = total_given words_of (λ p. (Any p × ¬ (OneStays p)) × ¬ (OneFits p)) (GetsNone view c) (λ r a h. ap words_of h.1)
      (λ r is none. none r (λ k fits. is.1 (k, fits), refl))

  -- the second of the rule's two parts
  abbrev Anew : Choosing → Choosing → Type 0
  Anew r a = (OneFits r × DrawsOne view c r a) ⊎ (¬ (OneFits r) × GetsNone view c r a)

  abbrev ByCases : Choosing → Choosing → Type 0
  ByCases r a = (OneStays r × KeepsOwn view own c r a) ⊎ (¬ (OneStays r) × Anew r a)

  so_chosen : (r a : Choosing) → Any r → ByCases r a → IsChosenFor view own c r a
  so_chosen r a any (inl (some, keeps)) = inl keeps
  so_chosen r a any (inr (never, inl (some, draws))) = inr (λ x stays. never (x, stays), inl draws)
  so_chosen r a any (inr (never, inr (nothing, gets))) = inr (λ x stays. never (x, stays), inr gets)

  total_chosen : IsTotalBy words_of Any (IsChosenFor view own c)
  total_chosen = total_from words_of Any ByCases (IsChosenFor view own c) so_chosen
      (total_cases words_of Any OneStays (KeepsOwn view own c) Anew total_keeps
      (total_cases words_of (λ p. Any p × ¬ (OneStays p)) OneFits (DrawsOne view c) (GetsNone view c) total_draws total_none))

-- ---- a choice

exact_address : IsExact address_cmp
exact_address = exact_then (λ (a : OwnAddress). a.0.0) (λ (a : OwnAddress). a.1) nat_cmp nat_cmp exact_nat exact_nat address_told

abbrev IsTheChoice : State → (ℕ → ℕ) → Choice × List ℕ → Type 0
IsTheChoice s stream o = IsChoice s o.0 o.1 × Begins o.1 stream

by_own : (s : State) (stream : ℕ → ℕ) (list : List OwnAddress) (words : List ℕ) → AreNext s list words → Begins words stream → Some! (IsTheChoice s stream)
by_own s stream list words next begins =
    some_by (list ≡ s.addresses)
    (λ same none. none (Keep, words) (subst (λ (l : List OwnAddress). AreNext s l words) same next, begins))
    (λ other none. none (Set list, words) ((next, other), begins))

pub some_choice : ChoiceExists
unfolding HasAChoice
some_choice s stream =
    let each = filter (counts s) s.held.assigned in
    let rule = IsChosenFor (seen_by s) s.addresses in
    some_then (total_each words_of Any rule each (λ c is before after any h. tt) (λ c is. total_chosen (seen_by s) s.addresses c) stream none_chosen tt (λ i less. absurd (omega (arith, less))))
    (λ end chosen.
    let sorted = ascending_of address_cmp addresses_total exact_address end.list in
    by_own s stream sorted.0 end.words (record { end = end; chosen = chosen.0; words_are = refl; ascending = sorted.1; same = sorted.2 }) chosen.1)
