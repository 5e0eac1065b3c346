-- Prefixes that are preferred, and which of them a router's assignments keep.
use Rattle.std.specs.Prelude.{ℕ, ◌-◌, ◌/◌, ◌%◌, ◌^◌, ◌==◌, ◌&&◌, not, Bool, List, ◌∷◌, ◌++◌, is_some}
use Rattle.std.specs.List.{filter, list_any}
use Rattle.std.specs.Ordering.{is_lt}
use Rattle.hn_pair.specs.declared.assigned.Assigned.{Assigned}
use Rattle.hn_pair.specs.declared.pair.Pair.{Pair}
use Rattle.hn_pair.specs.Pair.{pair_cmp}
use Rattle.hn_kept.specs.declared.preferred.Preferred.{Preferred}

-- the pair for which a prefix is preferred
abbrev pub preferred_pair : Preferred → Pair
preferred_pair f = record { delegated = f.delegated; endpoint = f.endpoint }

-- The random word that names the place of a preferred prefix among those of its length inside its delegated prefix. Where a
-- router takes this word for the pair, it tries this place first.
abbrev pub word_of : Preferred → ℕ
word_of f = ((f.prefix.bits - f.delegated.bits) / 2 ^ (128 - f.prefix.len)) % 2 ^ 32

-- an assignment of the pair
abbrev pub is_of_pair : Preferred → Assigned → Bool
is_of_pair f c = c.endpoint.0 == f.endpoint.0 && (c.delegated.bits == f.delegated.bits && c.delegated.len == f.delegated.len)

-- whether the pair has the prefix that is preferred
abbrev pub is_kept : List Assigned → Preferred → Bool
is_kept assigned f = list_any (λ c. is_of_pair f c && (c.prefix.bits == f.prefix.bits && c.prefix.len == f.prefix.len)) assigned

-- whether the router publishes one for the pair, from this moment on
abbrev pub is_anew : ℕ → List Assigned → Preferred → Bool
is_anew now assigned f = list_any (λ c. is_of_pair f c && (c.since == now && is_some c.published)) assigned

-- whether it does so, and the pair does not have the one that is preferred
abbrev pub is_missed : ℕ → List Assigned → Preferred → Bool
is_missed now assigned f = not (is_kept assigned f) && is_anew now assigned f

-- ---- a list of them, one for a pair, in the order of pairs

abbrev pub without_pair : Preferred → List Preferred → List Preferred
without_pair f preferred =
    filter (λ p. not (p.endpoint.0 == f.endpoint.0 && (p.delegated.bits == f.delegated.bits && p.delegated.len == f.delegated.len))) preferred

-- those of pairs before this one
abbrev pub before_pair : Preferred → List Preferred → List Preferred
before_pair f preferred = filter (λ p. is_lt (pair_cmp (preferred_pair p) (preferred_pair f))) preferred

-- those of pairs after it
abbrev pub after_pair : Preferred → List Preferred → List Preferred
after_pair f preferred = filter (λ p. is_lt (pair_cmp (preferred_pair f) (preferred_pair p))) preferred

-- this one is preferred in place of what was for its pair
abbrev pub with_preferred : Preferred → List Preferred → List Preferred
with_preferred f preferred = before_pair f preferred ++ f ∷ after_pair f preferred
