-- Node data made of items: the set of their encodings in ascending order.
use Rattle.std.specs.Prelude.{◌≡◌, ℕ, ◌↔◌, List, Contains, All}
use Rattle.std.specs.Ordering.{nat_cmp}
use Rattle.std.specs.Cmp.Lexicographic.{slice_cmp}
use Rattle.std.specs.List.{concat}
use Rattle.std.specs.List.Sorted.{IsStrictlySortedBy}
use Rattle.hn_base.specs.Byte.{IsByte}
use Rattle.hn_tlv.specs.Grammar.{spelling}
use Rattle.hn_typed.specs.Item.{PlainItem}
use Rattle.hn_typed.specs.Written.{tlv_of, IsWritable, IsEncoding}

-- each has eight bits
abbrev pub AreBytes : List ℕ → Type 0
AreBytes bytes = All IsByte bytes

-- the one TLV that is written for some item
abbrev pub IsEncoded : List ℕ → Type 0
IsEncoded bytes = (item : PlainItem) × IsEncoding bytes item

-- one of the pieces is the one TLV that is written for this item
abbrev pub IsWrittenIn : List (List ℕ) → PlainItem → Type 0
IsWrittenIn pieces item = IsWritable item × Contains pieces (spelling (tlv_of item))

-- the bytes are these pieces, each once, in ascending order of their bytes
pub record IsAscendingSet (pieces : List (List ℕ)) (bytes : List ℕ) : Type 0 where
  pub ascending : List (List ℕ)
  pub in_order : IsStrictlySortedBy (slice_cmp nat_cmp) ascending
  pub same : (piece : List ℕ) → Contains ascending piece ↔ Contains pieces piece
  pub joined : bytes ≡ concat ascending
