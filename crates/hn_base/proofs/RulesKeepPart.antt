-- Rules that leave a part of what there is as it was, and how they compose.
use Rattle.hn_base.proofs.Names.{◌∙◌, List, [], ◌∷◌, Option, Some, None, ap, RuleOf, Then, Each, OnSome, KeepsBy}

module _ {S P : Type 0} (part : S → P) where
  pub kept_then : (first second : RuleOf S) → KeepsBy part first → KeepsBy part second → KeepsBy part (Then first second)
  kept_then first second one other before after h = other h.0 after h.2 ∙ one before h.0 h.1

  pub kept_each : {A : Type 0} (rule : A → RuleOf S) → ((x : A) → KeepsBy part (rule x)) → (xs : List A) → KeepsBy part (Each rule xs)
  kept_each rule all [] before after h = ap part h
  kept_each rule all (x ∷ xs) before after h = kept_each rule all xs h.0 after h.2 ∙ all x before h.0 h.1

  pub kept_on : {A : Type 0} (rule : A → RuleOf S) → ((x : A) → KeepsBy part (rule x)) → (found : Option A) → KeepsBy part (OnSome rule found)
  kept_on rule all None before after h = ap part h
  kept_on rule all (Some x) before after h = all x before after h
