-- Laws of the rule.
use Rattle.std.specs.Prelude.{◌≡◌, ◌<◌, ◌^◌, ℕ, List, All}
use Rattle.hn_base.specs.Exists.{Some! }
use Rattle.hn_base.specs.Prefix.{PlainPrefix, IsPrefix}
use Rattle.hn_base.specs.Words.{Begins}
use Rattle.hn_rules.specs.declared.state.State.{State}
use Rattle.hn_ula.specs.Ula.{Decides}
use Rattle.hn_ula.specs.declared.decision.Ula.{Ula}
use Rattle.hn_ula.specs.declared.decision.Ula.TheVariants.{Announce}

-- Over one stream of words a router decides one thing, and takes the same words for it.
abbrev pub DecisionIsUnique : Type 0
DecisionIsUnique =
    (s : State) (a b : Ula) (v w : List ℕ) (stream : ℕ → ℕ)
    → Decides s a v → Decides s b w → Begins v stream → Begins w stream → (a ≡ b) × (v ≡ w)

-- over each stream of words a router has a decision: it cannot be that there is none
unfoldable pub HasADecision : State → Type 0
HasADecision s = (stream : ℕ → ℕ) → Some! (λ (o : Ula × List ℕ). Decides s o.0 o.1 × Begins o.1 stream)

-- so it is in each state
abbrev pub DecisionExists : Type 0
DecisionExists = (s : State) → HasADecision s

-- The prefix that a router announces is one, where each word has 32 bits.
abbrev pub AnnouncedIsPrefix : Type 0
AnnouncedIsPrefix = (s : State) (p : PlainPrefix) (words : List ℕ) → Decides s (Announce p) words → All (λ word. word < 2 ^ 32) words → IsPrefix p
