-- Laws of the grammar of TLVs.
use Rattle.std.specs.Prelude.{◌≡◌, ◌⊎◌, ℕ, ◌+◌, ◌-◌, ◌≤◌, All, List, [], ◌∷◌, ◌++◌, length, take, drop}
use Rattle.hn_base.specs.Byte.{IsByte}
use Rattle.hn_tlv.specs.Grammar.{PlainTlv, IsTlv, tlv_size, spelling, IsTlvList, HasTlvs, IsTlvAt, IsFault, FirstFault}

-- No spelling of a TLV is a proper prefix of another's.
abbrev pub SpellingIsPrefixFree : Type 0
SpellingIsPrefixFree =
    (t u : PlainTlv) (x y : List ℕ) → IsTlv t → IsTlv u → spelling t ++ x ≡ spelling u ++ y → (t ≡ u) × (x ≡ y)

-- A text decodes to at most one list of TLVs.
abbrev pub ListIsUnique : Type 0
ListIsUnique = (a b : List PlainTlv) (bytes : List ℕ) → IsTlvList a bytes → IsTlvList b bytes → a ≡ b

-- A text that decodes to a list of TLVs consists of bytes.
abbrev pub ListIsOfBytes : Type 0
ListIsOfBytes = (tlvs : List PlainTlv) (bytes : List ℕ) → IsTlvList tlvs bytes → All IsByte bytes

-- The bytes of two lists, one after the other, are those of the two lists joined.
abbrev pub ListsJoin : Type 0
ListsJoin = (a b : List PlainTlv) (x y : List ℕ) → IsTlvList a x → IsTlvList b y → IsTlvList (a ++ b) (x ++ y)

-- A list of TLVs up to a place, and the TLV there, are a list up to the place after it.
abbrev pub ListGrows : Type 0
ListGrows =
    (bytes : List ℕ) (at after : ℕ) (t : PlainTlv) (ts : List PlainTlv)
    → IsTlvList ts (take at bytes) → IsTlvAt bytes at t after → IsTlvList (ts ++ t ∷ []) (take after bytes)

-- A TLV at a place, and a list from the place after it, are a list from the place on.
abbrev pub ListContinues : Type 0
ListContinues =
    (bytes : List ℕ) (at after : ℕ) (t : PlainTlv) (ts : List PlainTlv)
    → IsTlvAt bytes at t after → IsTlvList ts (drop after bytes) → IsTlvList (t ∷ ts) (drop at bytes)

-- A list of TLVs from a place on is the TLV there, and then a list from the place after it.
abbrev pub ListSplits : Type 0
ListSplits =
    (bytes : List ℕ) (at after : ℕ) (t : PlainTlv) (all : List PlainTlv)
    → IsTlvAt bytes at t after → IsTlvList all (drop at bytes)
    → (ts : List PlainTlv) × (all ≡ t ∷ ts) × IsTlvList ts (drop after bytes)

-- At a place stands at most one TLV.
abbrev pub TlvIsUnique : Type 0
TlvIsUnique =
    (bytes : List ℕ) (at m n : ℕ) (t u : PlainTlv) → IsTlvAt bytes at t m → IsTlvAt bytes at u n → (t ≡ u) × (m ≡ n)

-- A TLV that was written is read again: alone, as a list of one.
abbrev pub SpellingIsAList : Type 0
SpellingIsAList = (t : PlainTlv) → IsTlv t → IsTlvList (t ∷ []) (spelling t)

-- And at its place, whatever stands before it and after it.
abbrev pub SpellingIsAtItsPlace : Type 0
SpellingIsAtItsPlace =
    (t : PlainTlv) (front rest : List ℕ) → IsTlv t
    → IsTlvAt (front ++ (spelling t ++ rest)) (length front) t (length front + tlv_size (length t.value))

-- Where a fault lies no TLV begins.
abbrev pub FaultExcludesTlv : Type 0
FaultExcludesTlv =
    (bytes rest : List ℕ) (offset why : ℕ) (t : PlainTlv) → IsFault bytes offset why → IsTlv t → ¬ (bytes ≡ spelling t ++ rest)

-- And there is one fault only.
abbrev pub FaultIsUnique : Type 0
FaultIsUnique = (bytes : List ℕ) (p q v w : ℕ) → IsFault bytes p v → IsFault bytes q w → (p ≡ q) × (v ≡ w)

-- A fault after a list of TLVs is the first one.
abbrev pub FaultAfterList : Type 0
FaultAfterList =
    (bytes : List ℕ) (at place why : ℕ) (ts : List PlainTlv)
    → at ≤ length bytes → IsTlvList ts (take at bytes)
    → at ≤ place → IsFault (drop at bytes) (place - at) why → FirstFault bytes place why

-- A text with a first fault decodes to no list of TLVs.
abbrev pub ListHasNoFirstFault : Type 0
ListHasNoFirstFault = (bytes : List ℕ) (place why : ℕ) → FirstFault bytes place why → ¬ (HasTlvs bytes)

-- And it has one first fault only.
abbrev pub FirstFaultIsUnique : Type 0
FirstFaultIsUnique =
    (bytes : List ℕ) (p q v w : ℕ) → FirstFault bytes p v → FirstFault bytes q w → (p ≡ q) × (v ≡ w)

-- Bytes are a list of TLVs, or they have a first fault.
abbrev pub ListOrFirstFault : Type 0
ListOrFirstFault =
    (bytes : List ℕ) → All IsByte bytes
    → HasTlvs bytes ⊎ ((place why : ℕ) × FirstFault bytes place why)
