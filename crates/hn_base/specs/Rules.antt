-- Rules, and how they compose. A rule relates what there is before something happens, and after it.
use Rattle.std.specs.Prelude.{◌≡◌, ℕ, List, [], ◌∷◌, Option, Some, None}
use Rattle.hn_base.specs.Exists.{Some! }
use Rattle.hn_base.specs.Words.{Drew, Begins}

abbrev pub RuleOf : Type 0 → Type 1
RuleOf S = S → S → Type 0

-- one rule after another
abbrev pub Then : {S : Type 0} → RuleOf S → RuleOf S → RuleOf S
Then {S} first second before after = (between : S) × first before between × second between after

-- a rule for each element, in order
abbrev pub Each : {S A : Type 0} → (A → RuleOf S) → List A → RuleOf S
Each rule [] before after = after ≡ before
Each rule (x ∷ xs) before after = Then (rule x) (Each rule xs) before after

-- the rule of an element, if there is one; if there is none, nothing happens
abbrev pub OnSome : {S A : Type 0} → (A → RuleOf S) → Option A → RuleOf S
OnSome rule None before after = after ≡ before
OnSome rule (Some x) before after = rule x before after

-- a rule leaves a part of what there is as it was
abbrev pub KeepsBy : {S P : Type 0} → (S → P) → RuleOf S → Type 0
KeepsBy {S} part rule = (before after : S) → rule before after → part after ≡ part before

-- Where the words that were taken so far are known, a rule ran, and a draw that told these words before and after moved
-- by exactly the words that the rule took.
pub record RanBy {S : Type 0} (words : S → List ℕ) (rule : RuleOf S) (told told_after : Option (ℕ → ℕ)) (before after : S) : Type 0 where
  pub holds : rule before after
  pub drew : Drew told (words before) told_after (words after)

-- Where the words that were taken so far are known, a rule gives no word back, and over one stream of words it has at
-- most one result.
pub record IsSoleBy {S : Type 0} (words : S → List ℕ) (rule : RuleOf S) : Type 0 where
  pub grows : (stream : ℕ → ℕ) (r a : S) → rule r a → Begins (words a) stream → Begins (words r) stream
  pub one : (stream : ℕ → ℕ) (r a b : S) → rule r a → rule r b → Begins (words a) stream → Begins (words b) stream → a ≡ b

-- A rule keeps a fact of what there is.
abbrev pub KeepsFact : {S : Type 0} → (S → Type 0) → RuleOf S → Type 0
KeepsFact {S} P rule = (before after : S) → P before → rule before after → P after

-- Where the words that were taken so far are known and a fact holds before, it cannot be that a rule has no result over a
-- stream of words that begins with those.
abbrev pub IsTotalBy : {S : Type 0} → (S → List ℕ) → (S → Type 0) → RuleOf S → Type 0
IsTotalBy {S} words P rule =
    (stream : ℕ → ℕ) (before : S) → P before → Begins (words before) stream
    → Some! (λ (after : S). rule before after × Begins (words after) stream)

-- Where the words that were taken so far are known and a fact holds before, a rule has exactly one result over a stream
-- of words that begins with those.
pub record IsExactBy {S : Type 0} (words : S → List ℕ) (P : S → Type 0) (rule : RuleOf S) : Type 0 where
  pub sole : IsSoleBy words rule
  pub total : IsTotalBy words P rule
