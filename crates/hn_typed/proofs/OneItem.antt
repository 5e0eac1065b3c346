-- A TLV decodes to one item at most.
use Rattle.hn_base.proofs.Names.{◌≡◌, ◌≢◌, ℕ, ◌+◌, List, [], ◌∷◌, ◌++◌, length, drop, replicate, refl, sym, ap, subst, ◌∙◌, arith, inl, inr, ⊎_elim, length-replicate, drop_at, drop_all, IsUtf8}
use Rattle.hn_typed.proofs.Names.{PlainTlv, padding, HasTlvs, PlainItem, Other, ThenSubs, ValueField, After, Subs, Text, Anything, shape, samples, sample_among, AreInFields, fields_bytes}
use Rattle.hn_typed.proofs.Names.{HasOtherKind, IsValue, InRange, IsItem, IsAfterFault, bytes_after, tail_of}
use Rattle.hn_typed.proofs.FieldsRead.{fields_at, fields_size, are_at}
use Rattle.hn_typed.proofs.Samples.{filled, filled_itself, tail_at, tail_in, held_by, held_by_sample}

-- what follows the fields of a value: it is as it has to be, and its bytes are read back
pub record IsAfter (fields : List ℕ) (after : After) (value : List ℕ) : Type 0 where
  pub rest : List ℕ
  pub parts : value ≡ fields ++ rest
  pub whole : (why : ℕ) → ¬ (IsAfterFault after (length fields) rest why)
  pub bytes_are : bytes_after after ≡ tail_at after (length fields) rest

subs_at : (len : ℕ) (rest subs : List ℕ) → ThenSubs len rest subs → subs ≡ drop (padding len) rest
subs_at len rest subs (tlvs, inl none) = none.1 ∙ sym (ap (drop (padding len)) none.0 ∙ drop_all (padding len) [] (omega arith))
subs_at len rest subs (tlvs, inr some) =
    sym (ap (drop (padding len)) some ∙ drop_at (replicate (padding len) 0) subs (padding len) (length-replicate {A = ℕ} (padding len) 0))

pub is_after : (fields : List ℕ) (after : After) (value : List ℕ) → IsValue fields after value → IsAfter fields after value
is_after fields (Subs subs) value (rest, parts, then) = record {
  rest = rest;
  parts = parts;
  whole = λ why fault. ⊎_elim (λ lacks. lacks.0 subs then) (λ none. none.1) fault;
  bytes_are = subs_at (length fields) rest subs then;
}
is_after fields (Text text) value (parts, utf8) = record {
  rest = text;
  parts = parts;
  whole = λ why fault. ⊎_elim (λ no_text. no_text.0 utf8) (λ none. none.1) fault;
  bytes_are = refl;
}
is_after fields (Anything bytes) value parts = record { rest = bytes; parts = parts; whole = λ why none. none; bytes_are = refl }

-- the numbers of an item fit its fields
pub in_fields : (item : PlainItem) → InRange item → AreInFields (shape item).fields
in_fields (Other kind value) fits = tt
in_fields _ fits = fits

item_is : (tlv : PlainTlv) (item : PlainItem) → IsItem tlv item → item ≡ held_by tlv.value item
item_is tlv item h =
    let fields : List ValueField = (shape item).fields in
    let value : List ℕ = tlv.value in
    let r : List ℕ = h.spelled.1 in
    let after = is_after (fields_bytes r fields) (shape item).after value h.spelled.2 in
    let at = are_at r fields value after.rest (in_fields item h.in_range) after.parts in
    let tail : tail_of item ≡ tail_in (shape item) value =
    after.bytes_are ∙ ap (λ n. tail_at (shape item).after n after.rest) at.len ∙ ap (tail_at (shape item).after (fields_size fields value)) (sym at.rest)
    ∙ ap (λ (fs : List ValueField). tail_at (shape item).after (fields_size fs value) (drop (fields_size fs value) value)) at.fields_are in
    filled_itself item ∙ ap (λ (fs : List ValueField). filled item fs (tail_of item)) at.fields_are ∙ ap (filled item (fields_at fields value)) tail

item_of_kind : (tlv : PlainTlv) (item : PlainItem) → IsItem tlv item → item ≡ held_by tlv.value (sample_among samples tlv.kind)
item_of_kind tlv item h = item_is tlv item h ∙ held_by_sample item tlv.value h.other_kind ∙ ap (λ k. held_by tlv.value (sample_among samples k)) (sym h.spelled.0)

pub same_item : (tlv : PlainTlv) (item other : PlainItem) → IsItem tlv item → IsItem tlv other → item ≡ other
same_item tlv item other h k = item_of_kind tlv item h ∙ sym (item_of_kind tlv other k)
