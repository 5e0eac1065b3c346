-- How a router holds the advertised prefixes, so that those inside another prefix are found at once.
use Rattle.std.specs.Prelude.{◌≡◌, ℕ, ◌<◌, nat_lt, List, map, filter, length, take, get_or}
use Rattle.std.specs.List.Sorted.{IsNonDecreasingBy}
use Rattle.hn_base.specs.Prefix.{PlainPrefix}
use Rattle.hn_assign.specs.declared.advertised.Advertised.{Advertised}

-- those that are shorter than 64 bits
abbrev pub short_of : List Advertised → List Advertised
short_of adv = filter (λ a. nat_lt a.prefix.len 64) adv

-- if they are more than 64, they ascend by their first address; beside them are the short ones, and the prefixes of all
pub record IsIndexed (adv short : List Advertised) (taken : List PlainPrefix) : Type 0 where
  pub ascending : 64 < length adv → IsNonDecreasingBy (λ a. a.prefix.bits) adv
  pub short_ones : short ≡ short_of adv
  pub prefixes : taken ≡ map (λ a. a.prefix) adv

-- the first ones; if more follow, the next one begins above the address
pub record IsFrontUpTo (adv : List Advertised) (last : ℕ) (front : List Advertised) : Type 0 where
  pub count : ℕ
  pub taken : front ≡ take count adv
  pub next : (d : Advertised) → count < length adv → last < (get_or adv count d).prefix.bits
