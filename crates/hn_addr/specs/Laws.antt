-- Laws of the rule.
use Rattle.std.specs.Prelude.{◌≡◌, ◌↔◌, ℕ, ◌+◌, ◌-◌, ◌^◌, ◌<◌, List, Contains, All}
use Rattle.hn_base.specs.Exists.{Some! }
use Rattle.hn_base.specs.Prefix.{PlainPrefix, IsPrefix, IsInside}
use Rattle.hn_base.specs.Words.{Begins}
use Rattle.hn_own.specs.Addresses.{OwnAddress}
use Rattle.hn_own.specs.Ranges.{IsRangedAddress}
use Rattle.hn_rules.specs.Router.{IsRouter}
use Rattle.hn_rules.specs.Seen.{seen_by}
use Rattle.hn_rules.specs.declared.state.State.{State}
use Rattle.hn_addr.specs.Addresses.{IsAddressOfOther, IsChoice, IsAddressStill}
use Rattle.hn_addr.specs.declared.choice.Choice.{Choice}
use Rattle.hn_addr.specs.declared.choice.Choice.TheVariants.{Set}

-- A number is below the size of a prefix if and only if the address that it makes is inside the prefix.
abbrev pub NumberIsInside : Type 0
NumberIsInside = (p : PlainPrefix) (k : ℕ) → IsPrefix p → (k < 2 ^ (128 - p.len)) ↔ IsInside (p.bits + k) p

-- Over one stream of words a router chooses one thing, and takes the same words for it.
abbrev pub ChoiceIsUnique : Type 0
ChoiceIsUnique =
    (s : State) (a b : Choice) (v w : List ℕ) (stream : ℕ → ℕ)
    → IsChoice s a v → IsChoice s b w → Begins v stream → Begins w stream → (a ≡ b) × (v ≡ w)

-- ---- a choice

-- over each stream of words a router has a choice: it cannot be that there is none
unfoldable pub HasAChoice : State → Type 0
HasAChoice s = (stream : ℕ → ℕ) → Some! (λ (o : Choice × List ℕ). IsChoice s o.0 o.1 × Begins o.1 stream)

-- so it is in each state
abbrev pub ChoiceExists : Type 0
ChoiceExists = (s : State) → HasAChoice s

-- The addresses that a router sets have 128 bits, and their endpoints 32.
abbrev pub ChosenAddressesFit : Type 0
ChosenAddressesFit = (s : State) (list : List OwnAddress) (words : List ℕ) → IsRouter s → IsChoice s (Set list) words → All IsRangedAddress list

-- ---- where it is still

-- Where a router is still, no node with a greater identifier has an own address of it, and no two of its own addresses
-- are the same.
abbrev pub StillAddressesStay : Type 0
StillAddressesStay =
    (s : State) (a : OwnAddress) → IsAddressStill s → Contains s.addresses a
    → ((node : ℕ) → IsAddressOfOther (seen_by s) node a.1 → ¬ (s.id.0 < node)) × ((b : OwnAddress) → Contains s.addresses b → b.1 ≡ a.1 → b ≡ a)
