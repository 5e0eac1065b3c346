-- The table of the kinds of TLV (RFC 7787, section 7; RFC 7788, section 10): of each, the fields that its value begins
-- with, and what follows them.
use Rattle.std.specs.Prelude.{ℕ, ◌^◌, ◌<◌, ◌≤◌, ◌==◌, if◌then◌else◌, List, [], ◌∷◌, ◌++◌, drop, get_or}
use Rattle.std.specs.Int.{w128, to_be_bytes}
use Rattle.hn_base.specs.Prefix.{PlainPrefix, IsPrefix}
use Rattle.hn_typed.specs.Item.{PlainItem, RequestNetwork, RequestNode, NodeEndpoint, NetworkState, NodeState, Peer, KeepAlive, Version, External, Delegated, Assigned, Address, Other}
use Rattle.hn_typed.specs.Fields.{word, two_in_byte, prefix_field, IsHash}

-- A field of a value, and what it holds: a number of 4 bytes; an address of 16; a hash of 8; a prefix; two numbers of
-- 4 bits in a byte; one in its lower 4 bits, of which the upper are reserved; a reserved byte.
pub data ValueField : Type 0 where
  Word : (n : ℕ) → ValueField
  Ipv6 : (address : ℕ) → ValueField
  Hash : (hash : List ℕ) → ValueField
  Prefixed : (prefix : PlainPrefix) → ValueField
  Halves : (upper lower : ℕ) → ValueField
  LowerHalf : (n : ℕ) → ValueField
  Reserved : ValueField

-- what follows the fields, with its bytes: sub-TLVs, text in UTF-8, or anything
pub data After : Type 0 where
  Subs : (subs : List ℕ) → After
  Text : (text : List ℕ) → After
  Anything : (bytes : List ℕ) → After

-- a kind's number, the fields of its value, and what follows them
pub record Shape : Type 0 where
  pub kind : ℕ
  pub fields : List ValueField
  pub after : After

abbrev pub shaped : ℕ → List ValueField → After → Shape
shaped kind fields after = record { kind = kind; fields = fields; after = after }

-- the table: a row for each kind
abbrev pub shape : PlainItem → Shape
shape (RequestNetwork subs) = shaped 1 [] (Subs subs)
shape (RequestNode node subs) = shaped 2 (Word node ∷ []) (Subs subs)
shape (NodeEndpoint node endpoint subs) = shaped 3 (Word node ∷ Word endpoint ∷ []) (Subs subs)
shape (NetworkState hash subs) = shaped 4 (Hash hash ∷ []) (Subs subs)
shape (NodeState node number age hash body) = shaped 5 (Word node ∷ Word number ∷ Word age ∷ Hash hash ∷ []) (Anything body)
shape (Peer peer peer_endpoint endpoint subs) = shaped 8 (Word peer ∷ Word peer_endpoint ∷ Word endpoint ∷ []) (Subs subs)
shape (KeepAlive endpoint interval subs) = shaped 9 (Word endpoint ∷ Word interval ∷ []) (Subs subs)
shape (Version caps agent) = shaped 32 (Reserved ∷ Reserved ∷ Halves caps.m caps.p ∷ Halves caps.h caps.l ∷ []) (Text agent)
shape (External subs) = shaped 33 [] (Subs subs)
shape (Delegated valid preferred prefix subs) = shaped 34 (Word valid ∷ Word preferred ∷ Prefixed prefix ∷ []) (Subs subs)
shape (Assigned endpoint priority prefix subs) = shaped 35 (Word endpoint ∷ LowerHalf priority ∷ Prefixed prefix ∷ []) (Subs subs)
shape (Address endpoint address subs) = shaped 36 (Word endpoint ∷ Ipv6 address ∷ []) (Subs subs)
shape (Other kind value) = shaped kind [] (Anything value)

-- the prefix of all addresses
abbrev pub any_prefix : PlainPrefix
any_prefix = record { bits = 0; len = 0 }

-- an item of each kind with a row of its own, whatever it holds
abbrev pub samples : List PlainItem
samples =
    RequestNetwork [] ∷ RequestNode 0 [] ∷ NodeEndpoint 0 0 [] ∷ NetworkState [] [] ∷ NodeState 0 0 0 [] [] ∷ Peer 0 0 0 [] ∷ KeepAlive 0 0 []
    ∷ Version (record { m = 0; p = 0; h = 0; l = 0 }) [] ∷ External [] ∷ Delegated 0 0 any_prefix [] ∷ Assigned 0 0 any_prefix [] ∷ Address 0 0 [] ∷ []

-- the first of these items that is of a kind, or else one with its bytes as they are
abbrev pub sample_among : List PlainItem → ℕ → PlainItem
sample_among [] kind = Other kind []
sample_among (item ∷ items) kind = if kind == (shape item).kind then item else sample_among items kind

-- the shape of the values of a kind, whatever its fields hold
abbrev pub shape_of_kind : ℕ → Shape
shape_of_kind kind = shape (sample_among samples kind)

-- a number that fits in so many bits
abbrev pub Fits : ℕ → ℕ → Type 0
Fits bits n = n < 2 ^ bits

-- what a field holds fits it
abbrev pub IsInField : ValueField → Type 0
IsInField (Word n) = Fits 32 n
IsInField (Ipv6 address) = Fits 128 address
IsInField (Hash hash) = IsHash hash
IsInField (Prefixed prefix) = IsPrefix prefix
IsInField (Halves upper lower) = Fits 4 upper × Fits 4 lower
IsInField (LowerHalf n) = Fits 4 n
IsInField Reserved = Unit {0}

abbrev pub AreInFields : List ValueField → Type 0
AreInFields [] = Unit {0}
AreInFields (field ∷ []) = IsInField field
AreInFields (field ∷ next ∷ fields) = IsInField field × AreInFields (next ∷ fields)

-- the bytes of a field, with a number in its reserved bits if it has any
abbrev pub field_bytes : ℕ → ValueField → List ℕ
field_bytes reserved (Word n) = word n
field_bytes reserved (Ipv6 address) = to_be_bytes w128 address
field_bytes reserved (Hash hash) = hash
field_bytes reserved (Prefixed prefix) = prefix_field prefix
field_bytes reserved (Halves upper lower) = two_in_byte upper lower ∷ []
field_bytes reserved (LowerHalf n) = two_in_byte reserved n ∷ []
field_bytes reserved Reserved = reserved ∷ []

-- the bytes of fields one after the other, with a number for the reserved bits of each, which is zero if the list ends
abbrev pub fields_bytes : List ℕ → List ValueField → List ℕ
fields_bytes reserved [] = []
fields_bytes reserved (field ∷ []) = field_bytes (get_or reserved 0 0) field
fields_bytes reserved (field ∷ next ∷ fields) = field_bytes (get_or reserved 0 0) field ++ fields_bytes (drop 1 reserved) (next ∷ fields)
