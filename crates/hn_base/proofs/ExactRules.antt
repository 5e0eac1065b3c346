-- Rules of which each has exactly one result over one stream of words, where a fact holds before, and how they compose.
use Rattle.hn_base.proofs.Names.{◌≡◌, ◌⊎◌, ℕ, Bool, true, false, List, Option, Some, Contains, sym, ◌∙◌, Some!, RuleOf, Then, Each, OnSome, KeepsFact, IsSoleBy, IsTotalBy}
use Rattle.std.proofs.Common.{true≢false}
use Rattle.hn_base.specs.Rules.{IsExactBy}
use Rattle.hn_base.proofs.OneResult.{sole_given, sole_plain, sole_both, sole_each, sole_start, sole_after, sole_on, sole_or, sole_where, sole_some, sole_from}
use Rattle.hn_base.proofs.SomeResult.{total_given, total_plain, total_both, total_each, total_start, total_after, total_on, total_cases, total_test, total_some, total_by, total_from}

-- The words that were taken so far are known.
module _ {S : Type 0} (words : S → List ℕ) where
  -- ---- rules with exactly one result

  -- a rule that takes no words
  pub exact_given : (P : S → Type 0) (rule : RuleOf S) → ((r a : S) → rule r a → words a ≡ words r)
      → ((r a b : S) → rule r a → rule r b → a ≡ b) → ((r : S) → P r → Some! (rule r)) → IsExactBy words P rule
  exact_given P rule same one some = record { sole = sole_given words rule same one; total = total_given words P rule same some }

  pub exact_plain : (P : S → Type 0) (rule : S → S) → ((r : S) → words (rule r) ≡ words r) → IsExactBy words P (λ r a. a ≡ rule r)
  exact_plain P rule same = record { sole = sole_plain words rule same; total = total_plain words P rule same }

  -- where less is known before
  pub exact_by : (P Q : S → Type 0) (rule : RuleOf S) → ((r : S) → P r → Q r) → IsExactBy words Q rule → IsExactBy words P rule
  exact_by P Q rule known exact = record { sole = exact.sole; total = total_by words P Q rule known exact.total }

  -- a rule that says the same as another
  pub exact_like : (P : S → Type 0) (rule other : RuleOf S) → ((r a : S) → other r a → rule r a) → ((r a : S) → P r → rule r a → other r a)
      → IsExactBy words P rule → IsExactBy words P other
  exact_like P rule other back along exact = record {
    sole = sole_from words other rule back exact.sole;
    total = total_from words P rule other along exact.total;
  }

  -- ---- how they compose

  pub exact_both : (P Q : S → Type 0) (first second : RuleOf S) → IsExactBy words P first
      → ((r a : S) → P r → first r a → Q a) → IsExactBy words Q second → IsExactBy words P (Then first second)
  exact_both P Q first second one keeps other = record {
    sole = sole_both words first second one.sole other.sole;
    total = total_both words P Q first second one.total keeps other.total;
  }

  pub exact_each : {A : Type 0} (P : S → Type 0) (rule : A → RuleOf S) (xs : List A) → ((x : A) → IsSoleBy words (rule x))
      → ((x : A) → Contains xs x → KeepsFact P (rule x)) → ((x : A) → Contains xs x → IsTotalBy words P (rule x)) → IsExactBy words P (Each rule xs)
  exact_each P rule xs sole keeps total = record {
    sole = sole_each words rule sole xs;
    total = total_each words P rule xs keeps total;
  }

  -- a rule that reads where it begins
  pub exact_start : (P : S → Type 0) (rule : S → RuleOf S) → ((s : S) → IsSoleBy words (rule s)) → ((s : S) → P s → IsTotalBy words P (rule s))
      → IsExactBy words P (λ r a. rule r r a)
  exact_start P rule sole total = record { sole = sole_start words rule sole; total = total_start words P rule total }

  -- a rule after a change
  pub exact_after : (P Q : S → Type 0) (first : S → S) (rule : RuleOf S) → ((r : S) → words (first r) ≡ words r)
      → ((r : S) → P r → Q (first r)) → IsExactBy words Q rule → IsExactBy words P (λ r a. rule (first r) a)
  exact_after P Q first rule same keeps exact = record {
    sole = sole_after words first rule same exact.sole;
    total = total_after words P Q first rule same keeps exact.total;
  }

  -- a rule of the element that is found, if one is
  pub exact_on : {A : Type 0} (P : S → Type 0) (find : S → Option A) (rule : A → RuleOf S)
      → ((x : A) → IsExactBy words (λ r. P r × (find r ≡ Some x)) (rule x)) → IsExactBy words P (λ r a. OnSome rule (find r) r a)
  exact_on P find rule all = record {
    sole = sole_on words find rule (λ x. (all x).sole);
    total = total_on words P find rule (λ x. (all x).total);
  }

  -- one rule where a fact holds, and another where it does not
  pub exact_cases : (P C : S → Type 0) (first second : RuleOf S) → IsExactBy words (λ r. P r × C r) first
      → IsExactBy words (λ r. P r × ¬ (C r)) second → IsExactBy words P (λ r a. (C r × first r a) ⊎ (¬ (C r) × second r a))
  exact_cases P C first second one other = record {
    sole = sole_or words (λ r a. C r × first r a) (λ r a. ¬ (C r) × second r a) (sole_where words C first one.sole) (sole_where words (λ r. ¬ (C r)) second other.sole)
        (λ r a b h k. k.0 h.0);
    total = total_cases words P C first second one.total other.total;
  }

  -- one rule where a test says so, and another where it does not
  pub exact_test : (P : S → Type 0) (test : S → Bool) (first second : RuleOf S) → IsExactBy words (λ r. P r × (test r ≡ true)) first
      → IsExactBy words (λ r. P r × (test r ≡ false)) second → IsExactBy words P (λ r a. ((test r ≡ true) × first r a) ⊎ ((test r ≡ false) × second r a))
  exact_test P test first second one other = record {
    sole = sole_or words (λ r a. (test r ≡ true) × first r a) (λ r a. (test r ≡ false) × second r a)
        (sole_where words (λ r. test r ≡ true) first one.sole) (sole_where words (λ r. test r ≡ false) second other.sole)
        (λ r a b h k. true≢false (sym h.0 ∙ k.0));
    total = total_test words P test first second one.total other.total;
  }

  -- the rule of some value, of which there is exactly one
  pub exact_some : {A : Type 0} (P : S → Type 0) (Q : A → Type 0) (rule : A → RuleOf S) → ((x y : A) → Q x → Q y → x ≡ y) → Some! Q
      → ((x : A) → Q x → IsTotalBy words P (rule x)) → ((x : A) → IsSoleBy words (rule x)) → IsExactBy words P (λ r a. (x : A) × Q x × rule x r a)
  exact_some P Q rule unique some total sole = record {
    sole = sole_some words Q rule unique sole;
    total = total_some words P (λ x _. Q x) rule (λ r _. some)
        (λ x stream r known. total x known.1 stream r known.0);
  }
