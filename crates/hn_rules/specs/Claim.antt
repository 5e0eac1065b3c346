-- A claim on the own identifier (RFC 7787, section 4.4; RFC 7788, section 3).
use Rattle.std.specs.Prelude.{◌≡◌, ℕ, ◌+◌, ◌%◌, ◌^◌, ◌<◌, ◌⊎◌, Bool, true, false, ◌==◌, ◌||◌, [], ◌∷◌, is_some}
use Rattle.hn_store.specs.Nodes.{held}
use Rattle.hn_rules.specs.declared.state.State.{State}
use Rattle.hn_rules.specs.declared.running.Running.{Running}
use Rattle.hn_rules.specs.Rules.{Rule, with_words}
use Rattle.hn_rules.specs.Refresh.{Publishes}

-- the first claim since the router began or took its identifier: it publishes with a number 1000 above the claimed one
pub record IsFirstClaim (number : ℕ) (before after : Running) : Type 0 where
  pub none_before : before.state.claimed ≡ false
  pub publishes : Publishes ((number + 1000) % 2 ^ 32) (record before { state = record before.state { claimed = true } }) after

-- whether a router may not take this identifier: it is 0, its own, or held
abbrev pub is_taken : ℕ → State → Bool
is_taken id s = id == 0 || (id == s.id.0 || is_some (held s.table.entries id))

-- the first identifier of a word and those after it, modulo 2^32, that it may take
pub record IsFirstFreeId (s : State) (word id : ℕ) : Type 0 where
  pub steps : ℕ
  pub is_it : id ≡ (word + steps) % 2 ^ 32
  pub free : is_taken id s ≡ false
  pub taken_before : (j : ℕ) → j < steps → is_taken ((word + j) % 2 ^ 32) s ≡ true

-- the second claim: the router draws a new identifier, and publishes with number 1
pub record IsSecondClaim (before after : Running) : Type 0 where
  pub one_before : before.state.claimed ≡ true
  pub word : ℕ
  pub id : ℕ
  pub first : IsFirstFreeId before.state word id
  pub publishes : Publishes 1 (with_words (word ∷ []) (record before { state = record before.state { id = record { 0 = id }; claimed = false } })) after

-- the rule
abbrev pub IsClaim : ℕ → Rule
IsClaim number before after = IsFirstClaim number before after ⊎ IsSecondClaim before after
