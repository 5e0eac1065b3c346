-- Laws of prefixes and of their texts.
use Rattle.std.specs.Prelude.{◌≡◌, ◌↔◌, ℕ, ◌<◌, ◌≤◌, List, Option, None, Some}
use Rattle.hn_base.specs.Prefix.{PlainPrefix, IsPrefix}
use Rattle.hn_base.specs.Exists.{Some! }
use Rattle.hn_prefix.specs.Free.{sub_prefix, sub_prefix_count, IsSubPrefix, IsPrefixInside, IsFree, IsFull, IsFirstFree}
use Rattle.hn_prefix.specs.PrefixText.{prefix_text_of, IsPrefixText}

-- The written form of a prefix is among its read forms.
abbrev pub PrefixTextIsRead : Type 0
PrefixTextIsRead = (p : PlainPrefix) → IsPrefix p → IsPrefixText (prefix_text_of p) p

-- A text is a read form of one prefix at most.
abbrev pub PrefixTextIsOfOne : Type 0
PrefixTextIsOfOne = (text : List ℕ) (one other : PlainPrefix) → IsPrefixText text one → IsPrefixText text other → one ≡ other

-- the first free prefix of a length inside another, if there is one; there is none where each is taken
abbrev pub IsFirstFreeIfAny : PlainPrefix → ℕ → List PlainPrefix → ℕ → Option PlainPrefix → Type 0
IsFirstFreeIfAny outer start taken len None = IsFull outer taken len
IsFirstFreeIfAny outer start taken len (Some found) = IsFirstFree outer start taken len found

-- It cannot be that neither there is a first free prefix, from whatever start, nor each is taken.
abbrev pub FreeOrFull : Type 0
FreeOrFull = (outer : PlainPrefix) (start : ℕ) (taken : List PlainPrefix) (len : ℕ) → Some! (IsFirstFreeIfAny outer start taken len)

-- The prefixes of a length inside another are its sub-prefixes.
abbrev pub InsideAreSubPrefixes : Type 0
InsideAreSubPrefixes =
    (outer : PlainPrefix) (len : ℕ) → IsPrefix outer → outer.len ≤ len → len ≤ 128 → (p : PlainPrefix) → IsPrefixInside outer len p ↔ IsSubPrefix outer len p

-- The first free prefix from the place of a free one is that one. So a word that names the place of a free prefix gives this prefix.
abbrev pub PlaceIsFirst : Type 0
PlaceIsFirst =
    (outer : PlainPrefix) (place : ℕ) (taken : List PlainPrefix) (len : ℕ) (found : PlainPrefix)
    → place < sub_prefix_count outer len → IsFree taken (sub_prefix outer len place)
    → IsFirstFree outer place taken len found → found ≡ sub_prefix outer len place
