-- A router's own delegated prefixes.
use Rattle.std.specs.Prelude.{ℕ, ◌≤◌, ◌==◌, ◌&&◌, ◌||◌, not, nat_lt, Bool, true, false, List, ◌∷◌, ◌++◌, length, filter}
use Rattle.std.specs.Ordering.{on, match_ordering}
use Rattle.std.specs.List.{list_any}
use Rattle.std.specs.List.Sorted.{IsStrictlySortedBy}
use Rattle.hn_base.specs.Prefix.{PlainPrefix, prefix_cmp}
use Rattle.hn_own.specs.declared.own_prefixes.OwnPrefix.{OwnPrefix}
use Rattle.hn_own.specs.Lifetimes.{end_after, has_ended}

-- what holds of a router's own delegated prefixes: they are in strictly ascending order, and at most 8
pub record AreOwnPrefixes (list : List OwnPrefix) : Type 0 where
  pub ascending : IsStrictlySortedBy (on (λ p. p.prefix) prefix_cmp) list
  pub few : length list ≤ 8

-- whether it is that prefix
abbrev pub is_prefix : PlainPrefix → OwnPrefix → Bool
is_prefix prefix own = own.prefix.bits == prefix.bits && own.prefix.len == prefix.len

-- whether it is among them
abbrev pub is_delegated : PlainPrefix → List OwnPrefix → Bool
is_delegated prefix list = list_any (is_prefix prefix) list

-- whether it may be added: it is among them, or they are fewer than 8
abbrev pub may_delegate : PlainPrefix → List OwnPrefix → Bool
may_delegate prefix list = is_delegated prefix list || nat_lt (length list) 8

-- whether one prefix comes before another
abbrev pub is_before : PlainPrefix → PlainPrefix → Bool
is_before p q = match_ordering (prefix_cmp p q) true false false

-- the prefixes, and one more at its place in the order, or in place of the same one
abbrev pub delegated_with : OwnPrefix → List OwnPrefix → List OwnPrefix
delegated_with own list = filter (λ p. is_before p.prefix own.prefix) list ++ own ∷ filter (λ p. is_before own.prefix p.prefix) list

-- the prefixes without that one
abbrev pub delegated_without : PlainPrefix → List OwnPrefix → List OwnPrefix
delegated_without prefix list = filter (λ p. not (is_prefix prefix p)) list

-- the prefixes without those whose valid lifetime has ended
abbrev pub delegated_after : ℕ → List OwnPrefix → List OwnPrefix
delegated_after now list = filter (λ p. not (has_ended now p.valid_until)) list

-- whether the valid lifetime of some prefix has ended
abbrev pub has_ended_one : ℕ → List OwnPrefix → Bool
has_ended_one now list = list_any (λ p. has_ended now p.valid_until) list

-- a prefix whose lifetimes in seconds begin now
abbrev pub own_prefix : ℕ → PlainPrefix → ℕ → ℕ → OwnPrefix
own_prefix now prefix valid preferred =
    record { prefix = prefix; valid_until = end_after now valid; preferred_until = end_after now preferred }
