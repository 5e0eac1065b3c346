-- Rules one after another, and the words that they take.
use Rattle.hn_base.proofs.Names.{◌≡◌, ◌∙◌, ◌<◌, ◌+◌, ℕ, List, [], ◌∷◌, ◌++◌, Option, Some, None, length, take, get_or, ap, refl, sym, subst, take_more, RuleOf, Then, Each, OnSome, IsAt}
use Rattle.hn_base.specs.Rules.{RanBy}

-- ---- a rule for each element, and for one more

pub each_more : {S A : Type 0} (rule : A → RuleOf S) (xs : List A) (x : A) (before between after : S) → Each rule xs before between → rule x between after → Each rule (xs ++ x ∷ []) before after
each_more {S} rule [] x before between after a b = (after, subst (λ (r : S). rule x r after) a b, refl)
each_more rule (y ∷ xs) x before between after a b = (a.0, a.1, each_more rule xs x a.0 between after a.2 b)

-- as a `for` goes over a slice
pub each_next : {S A : Type 0} (rule : A → RuleOf S) (xs : List A) (i : ℕ) (x d : A) (before between after : S) → i < length xs → x ≡ get_or xs i d
    → Each rule (take i xs) before between → rule x between after → Each rule (take (i + 1) xs) before after
each_next {S} {A} rule xs i x d before between after within is a b =
    let more : take (i + 1) xs ≡ take i xs ++ x ∷ [] = take_more xs i d within ∙ ap (λ (y : A). take i xs ++ y ∷ []) (sym is) in
    subst (λ (ys : List A). Each rule ys before after) (sym more) (each_more rule (take i xs) x before between after a b)

-- ---- the words that rules take

module _ {S : Type 0} (words : S → List ℕ) where
  -- a rule that takes no word
  pub ran_plain : (rule : RuleOf S) (told : Option (ℕ → ℕ)) (before after : S) → rule before after → words after ≡ words before → RanBy words rule told told before after
  ran_plain rule told before after holds same = record { holds = holds; drew = λ stream at. subst (λ (ws : List ℕ). IsAt told stream ws) (sym same) at }

  -- one rule after another
  pub ran_both : (first second : RuleOf S) (told told_between told_after : Option (ℕ → ℕ)) (before between after : S)
      → RanBy words first told told_between before between → RanBy words second told_between told_after between after → RanBy words (Then first second) told told_after before after
  ran_both first second told told_between told_after before between after a b = record {
    holds = (between, a.holds, b.holds);
    drew = λ stream at. b.drew stream (a.drew stream at);
  }

  -- a rule after a step that takes no word
  pub ran_after : (step : S → S) (rule : RuleOf S) (told told_after : Option (ℕ → ℕ)) (before between after : S) → between ≡ step before
      → words (step before) ≡ words before → RanBy words rule told told_after between after → RanBy words (Then (λ b a. a ≡ step b) rule) told told_after before after
  ran_after step rule told told_after before between after is same ran =
      ran_both (λ b a. a ≡ step b) rule told told told_after before between after (ran_plain (λ b a. a ≡ step b) told before between is (ap words is ∙ same)) ran

  -- one element more
  pub ran_more : {A : Type 0} (rule : A → RuleOf S) (xs : List A) (x : A) (told told_between told_after : Option (ℕ → ℕ)) (before between after : S)
      → RanBy words (Each rule xs) told told_between before between → RanBy words (rule x) told_between told_after between after → RanBy words (Each rule (xs ++ x ∷ [])) told told_after before after
  ran_more rule xs x told told_between told_after before between after a b = record {
    holds = each_more rule xs x before between after a.holds b.holds;
    drew = λ stream at. b.drew stream (a.drew stream at);
  }

  -- as a `for` goes over a slice
  pub ran_next : {A : Type 0} (rule : A → RuleOf S) (xs : List A) (i : ℕ) (x d : A) (told told_between told_after : Option (ℕ → ℕ)) (before between after : S)
      → i < length xs → x ≡ get_or xs i d → RanBy words (Each rule (take i xs)) told told_between before between
      → RanBy words (rule x) told_between told_after between after → RanBy words (Each rule (take (i + 1) xs)) told told_after before after
  ran_next {A} rule xs i x d told told_between told_after before between after within is a b =
      let more : take (i + 1) xs ≡ take i xs ++ x ∷ [] = take_more xs i d within ∙ ap (λ (y : A). take i xs ++ y ∷ []) (sym is) in
      subst (λ (ys : List A). RanBy words (Each rule ys) told told_after before after) (sym more) (ran_more rule (take i xs) x told told_between told_after before between after a b)

  -- a rule that takes no word, at each element and where there is an element
  pub each_words : {A : Type 0} (rule : A → RuleOf S) (xs : List A) (before after : S) → ((x : A) (b a : S) → rule x b a → words a ≡ words b) → Each rule xs before after → words after ≡ words before
  each_words rule [] before after none holds = ap words holds
  each_words rule (x ∷ xs) before after none holds = each_words rule xs holds.0 after none holds.2 ∙ none x before holds.0 holds.1

  pub on_some_words : {A : Type 0} (rule : A → RuleOf S) (found : Option A) (before after : S) → ((x : A) (b a : S) → rule x b a → words a ≡ words b)
      → OnSome rule found before after → words after ≡ words before
  on_some_words rule None before after none same = ap words same
  on_some_words rule (Some x) before after none holds = none x before after holds
