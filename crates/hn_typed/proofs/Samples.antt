-- The kinds of TLV: a sample of a kind is filled with what a value holds.
use Rattle.hn_base.proofs.Names.{◌≡◌, ◌≢◌, ℕ, ◌^◌, ◌<◌, ◌⊎◌, inl, inr, List, [], ◌∷◌, map, drop, refl, sym, ap, subst, ◌∙◌, cond, eqb, AllByRecursion, cases_eq}
use Rattle.hn_typed.proofs.Names.{PlainTlv, padding, PlainItem, Other, ValueField, Word, Ipv6, Hash, Prefixed, Halves, LowerHalf, Reserved, After, Subs, Text, Anything, shape, samples, sample_among}
use Rattle.hn_typed.proofs.Names.{shape_of_kind, AreInFields, fields_bytes, HasOtherKind, IsValue, InRange, IsItem, IsItemFault, tail_of}
use Rattle.std.proofs.Common.{eq-eqb, ne_eqb}
use Rattle.hn_typed.specs.Item.{RequestNetwork, RequestNode, NodeEndpoint, NetworkState, NodeState, Peer, KeepAlive, Version, External, Delegated, Assigned, Address}
use Rattle.hn_typed.specs.Shape.{Shape}
use Rattle.hn_typed.specs.Table.{IsOtherKind}
use Rattle.hn_typed.specs.Fault.{IsFirstCause}
use Rattle.hn_typed.proofs.FieldsRead.{fields_at, fields_size}

-- ---- an item of the kind of a sample, from its fields and what follows them: a row for each kind

abbrev pub filled : PlainItem → List ValueField → List ℕ → PlainItem
filled (RequestNetwork _) [] subs = RequestNetwork subs
filled (RequestNode _ _) (Word node ∷ []) subs = RequestNode node subs
filled (NodeEndpoint _ _ _) (Word node ∷ Word endpoint ∷ []) subs = NodeEndpoint node endpoint subs
filled (NetworkState _ _) (Hash hash ∷ []) subs = NetworkState hash subs
filled (NodeState _ _ _ _ _) (Word node ∷ Word number ∷ Word age ∷ Hash hash ∷ []) body = NodeState node number age hash body
filled (Peer _ _ _ _) (Word peer ∷ Word peer_endpoint ∷ Word endpoint ∷ []) subs = Peer peer peer_endpoint endpoint subs
filled (KeepAlive _ _ _) (Word endpoint ∷ Word interval ∷ []) subs = KeepAlive endpoint interval subs
filled (Version _ _) (Reserved ∷ Reserved ∷ Halves m p ∷ Halves h l ∷ []) agent = Version (record { m = m; p = p; h = h; l = l }) agent
filled (External _) [] subs = External subs
filled (Delegated _ _ _ _) (Word valid ∷ Word preferred ∷ Prefixed prefix ∷ []) subs = Delegated valid preferred prefix subs
filled (Assigned _ _ _ _) (Word endpoint ∷ LowerHalf priority ∷ Prefixed prefix ∷ []) subs = Assigned endpoint priority prefix subs
filled (Address _ _ _) (Word endpoint ∷ Ipv6 address ∷ []) subs = Address endpoint address subs
filled (Other kind _) [] value = Other kind value
filled sample _ _ = sample

pub filled_itself : (item : PlainItem) → item ≡ filled item (shape item).fields (tail_of item)
filled_itself (Other kind value) = refl
filled_itself _ = refl

-- what follows fields, of the same sort as another
abbrev pub with_bytes : After → List ℕ → After
with_bytes (Subs _) bytes = Subs bytes
with_bytes (Text _) bytes = Text bytes
with_bytes (Anything _) bytes = Anything bytes

-- what follows so many bytes of fields, of the same sort as another, where these bytes stand there
abbrev pub tail_at : After → ℕ → List ℕ → List ℕ
tail_at (Subs _) len bytes = drop (padding len) bytes
tail_at _ len bytes = bytes

abbrev pub tail_in : Shape → List ℕ → List ℕ
tail_in like value =
    let size = fields_size (fields_at like.fields value) value in
    tail_at like.after size (drop size value)

-- the item of the kind of a sample that a value holds
abbrev pub held_by : List ℕ → PlainItem → PlainItem
held_by value sample = filled sample (fields_at (shape sample).fields value) (tail_in (shape sample) value)

-- it has the sample's kind, and what was read from the value
pub held_is_item : (sample : PlainItem) (tlv : PlainTlv) (reserved : List ℕ) → tlv.kind ≡ (shape sample).kind → tlv.kind < 2 ^ 16 → HasOtherKind sample
    → AreInFields (fields_at (shape sample).fields tlv.value)
    → IsValue (fields_bytes reserved (fields_at (shape sample).fields tlv.value)) (with_bytes (shape sample).after (tail_in (shape sample) tlv.value)) tlv.value → IsItem tlv (held_by tlv.value sample)
held_is_item (Other kind _) tlv r same small other fits value = record { in_range = subst (λ k. k < 2 ^ 16) same small; other_kind = other; spelled = (same, r, value) }
held_is_item _ tlv r same small other fits value = record { in_range = fits; other_kind = tt; spelled = (same, r, value) }

-- ---- the sample of a kind

-- the kind of an item
abbrev kind_in : PlainItem → ℕ
kind_in item = (shape item).kind

among_first : (item : PlainItem) (items : List PlainItem) (kind : ℕ) → kind ≡ kind_in item → sample_among (item ∷ items) kind ≡ item
among_first item items kind same = rw (eq-eqb kind (kind_in item) same) refl

among_later : (item : PlainItem) (items : List PlainItem) (kind : ℕ) → kind ≢ kind_in item → sample_among (item ∷ items) kind ≡ sample_among items kind
among_later item items kind differ = rw (ne_eqb kind (kind_in item) differ) refl

other_among : (items : List PlainItem) (kind : ℕ) → AllByRecursion (λ known. kind ≢ known) (map kind_in items) → sample_among items kind ≡ Other kind []
other_among [] kind none = refl
other_among (item ∷ items) kind none = among_later item items kind none.0 ∙ other_among items kind none.1

-- a sample of the kind is there, or none
sample_or_other : (items : List PlainItem) (kind : ℕ) → AllByRecursion HasOtherKind items
    → (HasOtherKind (sample_among items kind) × (kind ≡ kind_in (sample_among items kind))) ⊎ AllByRecursion (λ known. kind ≢ known) (map kind_in items)
sample_or_other [] kind all = inr tt
sample_or_other (item ∷ items) kind all =
    elim (cases_eq kind (kind_in item)) [
      | inl same ↦
          let is = among_first item items kind same in
          inl (subst HasOtherKind (sym is) all.0, same ∙ ap kind_in (sym is))
      | inr differ ↦
          let is = among_later item items kind differ in
          elim (sample_or_other items kind all.1) [
            | inl found ↦ inl (subst HasOtherKind (sym is) found.0, found.1 ∙ ap kind_in (sym is))
            | inr none ↦ inr (differ, none)
          ]
    ]

abbrev sample_of : ℕ → PlainItem
sample_of kind = sample_among samples kind

pub sample_has_kind : (kind : ℕ) → HasOtherKind (sample_of kind) × (kind ≡ kind_in (sample_of kind))
sample_has_kind kind =
    elim (sample_or_other samples kind (assumption)) [
      | inl found ↦ found
      | inr none ↦ let is : sample_of kind ≡ Other kind [] = other_among samples kind none in (subst HasOtherKind (sym is) none, ap kind_in (sym is))
    ]

-- ---- an item, and the sample of its kind

pub held_by_sample : (item : PlainItem) (value : List ℕ) → HasOtherKind item → held_by value item ≡ held_by value (sample_of (kind_in item))
held_by_sample (Other kind bytes) value other = ap (held_by value) (sym (other_among samples kind other))
held_by_sample _ value other = refl

pub fault_of_item : (item : PlainItem) (value : List ℕ) (why : ℕ) → HasOtherKind item → IsItemFault (record { kind = kind_in item; value = value }) why
    → IsFirstCause (shape item).fields (shape item).after 0 value why
unfolding IsFirstCause
fault_of_item (Other kind bytes) value why other fault = subst (λ s. IsFirstCause (shape s).fields (shape s).after 0 value why) (other_among samples kind other) fault
fault_of_item _ value why other fault = fault
