use Rattle.std.specs.Prelude.{◌≡◌, ℕ, ◌+◌, ◌-◌, ◌*◌, ◌/◌, ◌%◌, ◌^◌, ◌<◌, min, List, length, get_or, All, Any}
use Rattle.hn_base.specs.Prefix.{PlainPrefix, IsPrefix, IsWithin, Overlaps}

-- the prefixes of one length inside a prefix are numbered from 0, in ascending order
abbrev pub sub_prefix : PlainPrefix → ℕ → ℕ → PlainPrefix
sub_prefix outer len place = record { bits = outer.bits + place * 2 ^ (128 - len); len = len }

-- how many they are
abbrev pub sub_prefix_count : PlainPrefix → ℕ → ℕ
sub_prefix_count outer len = 2 ^ (len - outer.len)

-- one of them, by its place, and by what it is: a prefix of the length whose addresses are all inside the outer one
abbrev pub IsSubPrefix : PlainPrefix → ℕ → PlainPrefix → Type 0
IsSubPrefix outer len p = (place : ℕ) × (place < sub_prefix_count outer len) × (p ≡ sub_prefix outer len place)

pub record IsPrefixInside (outer : PlainPrefix) (len : ℕ) (p : PlainPrefix) : Type 0 where
  pub prefix : IsPrefix p
  pub of_len : p.len ≡ len
  pub within : IsWithin p outer

-- the one so many places after a start, in cyclic order
abbrev pub sub_prefix_after : PlainPrefix → ℕ → ℕ → ℕ → PlainPrefix
sub_prefix_after outer len start ahead = sub_prefix outer len ((start + ahead) % sub_prefix_count outer len)

-- the place after that of the one with this address inside; the count, where the address is past the outer prefix
abbrev pub next_place : PlainPrefix → ℕ → ℕ → ℕ
next_place outer len address = min ((address - outer.bits) / 2 ^ (128 - len) + 1) (sub_prefix_count outer len)

-- the prefix at a place of the taken ones overlaps p
pub record OverlapsAt (taken : List PlainPrefix) (p : PlainPrefix) (at : ℕ) : Type 0 where
  pub within : at < length taken
  pub overlap : (d : PlainPrefix) → Overlaps (get_or taken at d) p

-- a prefix is free where it overlaps none of the taken ones, and else taken
abbrev pub IsFree : List PlainPrefix → PlainPrefix → Type 0
IsFree taken p = All (λ t. ¬ Overlaps t p) taken

abbrev pub IsTakenPrefix : List PlainPrefix → PlainPrefix → Type 0
IsTakenPrefix taken p = Any (λ t. Overlaps t p) taken

-- each prefix of the length inside is taken
abbrev pub IsFull : PlainPrefix → List PlainPrefix → ℕ → Type 0
IsFull outer taken len = (place : ℕ) → place < sub_prefix_count outer len → IsTakenPrefix taken (sub_prefix outer len place)

-- the first free prefix of the length inside, in cyclic order from a start
pub record IsFirstFree (outer : PlainPrefix) (start : ℕ) (taken : List PlainPrefix) (len : ℕ) (found : PlainPrefix) : Type 0 where
  pub ahead : ℕ
  pub below_count : ahead < sub_prefix_count outer len
  pub at_place : found ≡ sub_prefix_after outer len start ahead
  pub free : IsFree taken found
  pub each_before_taken : (j : ℕ) → j < ahead → IsTakenPrefix taken (sub_prefix_after outer len start j)
