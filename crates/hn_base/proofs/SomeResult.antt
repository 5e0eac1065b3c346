-- Rules of which each has some result over one stream of words, where a fact holds before, and how they compose.
use Rattle.hn_base.proofs.Names.{◌≡◌, ◌∙◌, ◌⊎◌, ◌+◌, ℕ, Bool, true, false, List, [], ◌∷◌, ◌++◌, Option, Some, None, length, Contains, refl, sym, inl, inr, append-nil, Some!, RuleOf, Then, Each}
use Rattle.hn_base.proofs.Names.{OnSome, KeepsFact, IsTotalBy, Begins}
use Rattle.hn_base.proofs.AscendingLists.{Contains-head, Contains-tail}
use Rattle.hn_base.proofs.FirstWords.{begins_along, begins_both, begins_next, words_first}

-- The words that were taken so far are known.
module _ {S : Type 0} (words : S → List ℕ) where
  -- ---- rules with some result

  -- a rule that takes no words
  pub total_given : (P : S → Type 0) (rule : RuleOf S)
      → ((r a : S) → rule r a → words a ≡ words r) → ((r : S) → P r → Some! (rule r)) → IsTotalBy words P rule
  total_given P rule same some stream r holds begins none =
      some r holds (λ a is. none a (is, begins_along (words r) (words a) stream (sym (same r a is)) begins))

  pub total_plain : (P : S → Type 0) (rule : S → S) → ((r : S) → words (rule r) ≡ words r) → IsTotalBy words P (λ r a. a ≡ rule r)
  total_plain P rule same stream r holds begins none =
      none (rule r) (refl, begins_along (words r) (words (rule r)) stream (sym (same r)) begins)

  -- a rule that takes one word
  pub total_word : (P : S → Type 0) (rule : ℕ → RuleOf S)
      → ((word : ℕ) (r a : S) → rule word r a → words a ≡ words r ++ word ∷ [])
      → ((word : ℕ) (r : S) → P r → Some! (rule word r)) → IsTotalBy words P (λ r a. (word : ℕ) × rule word r a)
  total_word P rule takes some stream r holds begins none =
      some (stream (length (words r))) r holds
      (λ a is. none a (
        (stream (length (words r)), is),
        begins_along (words r ++ stream (length (words r)) ∷ []) (words a) stream (sym (takes (stream (length (words r))) r a is))
            (begins_next (words r) stream begins),
      ))

  -- a rule that takes as many words as what is there before says
  pub total_drawn : (P : S → Type 0) (many : S → ℕ) (rule : List ℕ → RuleOf S)
      → ((drawn : List ℕ) (r a : S) → rule drawn r a → words a ≡ words r ++ drawn)
      → ((drawn : List ℕ) (r : S) → P r → length drawn ≡ many r → Some! (rule drawn r)) → IsTotalBy words P (λ r a. (drawn : List ℕ) × rule drawn r a)
  total_drawn P many rule takes some stream r holds begins none =
      let (drawn, as_many, next) = words_first (many r) (λ i. stream (length (words r) + i)) in
      some drawn r holds as_many
      (λ a is. none a ((drawn, is), begins_along (words r ++ drawn) (words a) stream (sym (takes drawn r a is)) (begins_both (words r) drawn stream begins next)))

  -- a rule that another brings with it
  pub total_from : (P : S → Type 0) (rule other : RuleOf S) → ((r a : S) → P r → rule r a → other r a) → IsTotalBy words P rule → IsTotalBy words P other
  total_from P rule other along total stream r holds begins none =
      total stream r holds begins (λ a is. none a (along r a holds is.0, is.1))

  -- where less is known before
  pub total_by : (P Q : S → Type 0) (rule : RuleOf S) → ((r : S) → P r → Q r) → IsTotalBy words Q rule → IsTotalBy words P rule
  total_by P Q rule known total stream r holds = total stream r (known r holds)

  -- ---- how they compose

  pub total_both : (P Q : S → Type 0) (first second : RuleOf S) → IsTotalBy words P first
      → ((r a : S) → P r → first r a → Q a) → IsTotalBy words Q second → IsTotalBy words P (Then first second)
  total_both P Q first second one keeps other stream r holds begins none =
      one stream r holds begins (λ m is. other stream m (keeps r m holds is.0) is.1 (λ a also. none a ((m, is.0, also.0), also.1)))

  pub total_each : {A : Type 0} (P : S → Type 0) (rule : A → RuleOf S) (xs : List A)
      → ((x : A) → Contains xs x → KeepsFact P (rule x)) → ((x : A) → Contains xs x → IsTotalBy words P (rule x)) → IsTotalBy words P (Each rule xs)
  total_each P rule [] keeps all = total_plain P (λ r. r) (λ r. refl)
  total_each P rule (x ∷ xs) keeps all =
      total_both P P (rule x) (Each rule xs) (all x (Contains-head x xs)) (keeps x (Contains-head x xs))
      (total_each P rule xs (λ y is. keeps y (Contains-tail x xs y is)) (λ y is. all y (Contains-tail x xs y is)))

  -- a rule that reads where it begins
  pub total_start : (P : S → Type 0) (rule : S → RuleOf S) → ((s : S) → P s → IsTotalBy words P (rule s)) → IsTotalBy words P (λ r a. rule r r a)
  total_start P rule all stream r holds = all r holds stream r holds

  -- a rule after a change
  pub total_after : (P Q : S → Type 0) (first : S → S) (rule : RuleOf S) → ((r : S) → words (first r) ≡ words r)
      → ((r : S) → P r → Q (first r)) → IsTotalBy words Q rule → IsTotalBy words P (λ r a. rule (first r) a)
  total_after P Q first rule same keeps total stream r holds begins =
      total stream (first r) (keeps r holds) (begins_along (words r) (words (first r)) stream (sym (same r)) begins)

  -- a rule of the element that is found, if one is
  pub total_on : {A : Type 0} (P : S → Type 0) (find : S → Option A) (rule : A → RuleOf S)
      → ((x : A) → IsTotalBy words (λ r. P r × (find r ≡ Some x)) (rule x)) → IsTotalBy words P (λ r a. OnSome rule (find r) r a)
  total_on {A} P find rule all stream r holds begins = of_found (find r) refl
    where
      of_found : (found : Option A) → find r ≡ found → Some! (λ (a : S). OnSome rule found r a × Begins (words a) stream)
      of_found None is none = none r (refl, begins)
      of_found (Some x) is none = all x stream r (holds, is) begins none

  -- one rule where a fact holds, and another where it does not
  pub total_cases : (P C : S → Type 0) (first second : RuleOf S) → IsTotalBy words (λ r. P r × C r) first
      → IsTotalBy words (λ r. P r × ¬ (C r)) second → IsTotalBy words P (λ r a. (C r × first r a) ⊎ (¬ (C r) × second r a))
  total_cases P C first second one other stream r holds begins none =
      let not : ¬ (C r) = λ so. one stream r (holds, so) begins (λ a is. none a (inl (so, is.0), is.1)) in
      other stream r (holds, not) begins (λ a is. none a (inr (not, is.0), is.1))

  -- the rule of some value, of which it cannot be that there is none
  pub total_some : {A : Type 0} (P : S → Type 0) (Q : A → S → Type 0) (rule : A → RuleOf S) → ((r : S) → P r → Some! (λ (x : A). Q x r))
      → ((x : A) → IsTotalBy words (λ r. P r × Q x r) (rule x)) → IsTotalBy words P (λ r a. (x : A) × Q x r × rule x r a)
  total_some P Q rule some all stream r holds begins none =
      some r holds (λ x is. all x stream r (holds, is) begins (λ a also. none a ((x, is, also.0), also.1)))

  -- one rule where a test says so, and another where it does not
  pub total_test : (P : S → Type 0) (test : S → Bool) (first second : RuleOf S) → IsTotalBy words (λ r. P r × (test r ≡ true)) first
      → IsTotalBy words (λ r. P r × (test r ≡ false)) second → IsTotalBy words P (λ r a. ((test r ≡ true) × first r a) ⊎ ((test r ≡ false) × second r a))
  total_test P test first second one other stream r holds begins = by_test (test r) refl
    where
      by_test : (b : Bool) → test r ≡ b → Some! (λ (a : S). (((test r ≡ true) × first r a) ⊎ ((test r ≡ false) × second r a)) × Begins (words a) stream)
      by_test true is none = one stream r (holds, is) begins (λ a also. none a (inl (is, also.0), also.1))
      by_test false is none = other stream r (holds, is) begins (λ a also. none a (inr (is, also.0), also.1))
