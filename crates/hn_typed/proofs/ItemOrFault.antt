-- Each TLV decodes to an item or has a fault.
use Rattle.hn_base.proofs.Names.{◌≡◌, ℕ, zero, suc, ◌+◌, ◌<◌, ◌⊎◌, inl, inr, List, [], ◌∷◌, ◌++◌, length, get_or, drop, replicate, refl, sym, ap, subst, ◌∙◌, append_assoc, arith, cases_Bool}
use Rattle.hn_base.proofs.Names.{false≢true, length-replicate, length-drop, drop_at, drop_all, All-from_recursion, recursion_from_All, IsByte}
use Rattle.hn_typed.proofs.Names.{length-append, Bytes, Bytes-drop, PlainTlv, padding, HasTlvs, PlainItem, ThenSubs, ValueField, After, Subs, Text, Anything, shape, samples, sample_among, AreInFields}
use Rattle.hn_typed.proofs.Names.{fields_bytes, field_bytes, HasOtherKind, IsItem, IsValue, field_size, LacksSubs, IsAfterFault, IsItemFault}
use Rattle.std.specs.Str.{is_utf8}
use Rattle.std.proofs.lemmas.Str.{IsUtf8-from_is_utf8, is_utf8-from_IsUtf8}
use Rattle.hn_tlv.specs.Grammar.{IsTlv, FirstFault}
use Rattle.hn_tlv.specs.Laws.{ListHasNoFirstFault, ListOrFirstFault}
use Rattle.hn_typed.specs.Fault.{IsFirstCause}
use Rattle.hn_typed.proofs.FieldsRead.{field_at, fields_at, fields_size, bytes_first, both_in, IsSound, BeginsWith, begins_soundly, begun_len, field_or_fault, are_at}
use Rattle.hn_typed.proofs.FirstCauses.{past, in_field}
use Rattle.hn_typed.proofs.Samples.{with_bytes, tail_at, tail_in, held_by, held_is_item, sample_has_kind}

-- so many zeros begin the bytes, or do not
zeros_or_other : (count : ℕ) (bytes : List ℕ) → (bytes ≡ replicate count 0 ++ drop count bytes) ⊎ ((rest : List ℕ) → ¬ (bytes ≡ replicate count 0 ++ rest))
zeros_or_other zero bytes = inl refl
zeros_or_other (suc count) [] = inr (λ rest e. cc)
zeros_or_other (suc count) (suc b ∷ bytes) = inr (λ rest e. cc)
zeros_or_other (suc count) (zero ∷ bytes) = more (zeros_or_other count bytes)
  where
    more : (bytes ≡ replicate count 0 ++ drop count bytes) ⊎ ((rest : List ℕ) → ¬ (bytes ≡ replicate count 0 ++ rest))
        → (zero ∷ bytes ≡ replicate (suc count) 0 ++ drop (suc count) (zero ∷ bytes)) ⊎ ((rest : List ℕ) → ¬ (zero ∷ bytes ≡ replicate (suc count) 0 ++ rest))
    more (inl zeros) = inl (ap (λ (z : List ℕ). 0 ∷ z) zeros)
    more (inr other) = inr (λ rest e. other rest (ap (drop 1) e))

-- bytes begin with fields of these sorts, and have a fault if what follows has one
record AreRead (fields : List ValueField) (after : After) (len : ℕ) (bytes : List ℕ) : Type 0 where
  pub reserved : List ℕ
  pub rest : List ℕ
  pub in_fields : AreInFields (fields_at fields bytes)
  pub parts : bytes ≡ fields_bytes reserved (fields_at fields bytes) ++ rest
  pub bytes_rest : Bytes rest
  pub goes_on : (why : ℕ) → IsAfterFault after (len + length (fields_bytes reserved (fields_at fields bytes))) rest why → IsFirstCause fields after len bytes why

no_fields : (after : After) (len : ℕ) (bytes : List ℕ) → Bytes bytes → AreRead [] after len bytes
unfolding IsFirstCause
no_fields after len bytes fit =
    let end : len + 0 ≡ len = omega arith in
    record { reserved = []; rest = bytes; in_fields = tt; parts = refl; bytes_rest = fit; goes_on = λ why fault. subst (λ n. IsAfterFault after n bytes why) end fault }

first_read : (field : ValueField) (fields : List ValueField) (after : After) (len : ℕ) (bytes : List ℕ) → BeginsWith field bytes
    → AreRead fields after (len + field_size field bytes) (drop (field_size field bytes) bytes) → AreRead (field ∷ fields) after len bytes
first_read field fields after len bytes here later =
    let first : ValueField = field_at field bytes in
    let others : List ValueField = fields_at fields (drop (field_size field bytes) bytes) in
    let front : List ℕ = field_bytes here.reserved first in
    let back : List ℕ = fields_bytes later.reserved others in
    let r : List ℕ = here.reserved ∷ later.reserved in
    let joined : fields_bytes r (first ∷ others) ≡ front ++ back = bytes_first r first others in
    let size : length front ≡ field_size field bytes = begun_len field bytes here in
    let lens : len + length (fields_bytes r (first ∷ others)) ≡ (len + field_size field bytes) + length back = omega (arith, ap length joined, length-append front back, size) in
    record {
      reserved = r;
      rest = later.rest;
      in_fields = both_in first others here.in_field later.in_fields;
      parts = here.parts ∙ ap (λ (z : List ℕ). front ++ z) later.parts ∙ sym (append_assoc front back later.rest) ∙ ap (λ (z : List ℕ). z ++ later.rest) (sym joined);
      bytes_rest = later.bytes_rest;
      goes_on = λ why fault.
          past field bytes (drop (field_size field bytes) bytes) (begins_soundly field bytes here) refl fields after len why
          (later.goes_on why (subst (λ n. IsAfterFault after n later.rest why) lens fault));
    }

fields_or_fault : (fields : List ValueField) (after : After) (len : ℕ) (bytes : List ℕ) → Bytes bytes → AreRead fields after len bytes ⊎ ((why : ℕ) × IsFirstCause fields after len bytes why)
fields_or_fault [] after len bytes fit = inl (no_fields after len bytes fit)
fields_or_fault (field ∷ fields) after len bytes fit =
    elim (field_or_fault field bytes fit) [
      | inr fault ↦ inr (fault.0, in_field field bytes fault.0 fault.1 fields after len)
      | inl here ↦
          elim (fields_or_fault fields after (len + field_size field bytes) (drop (field_size field bytes) bytes) (Bytes-drop (field_size field bytes) bytes fit)) [
            | inl later ↦ inl (first_read field fields after len bytes here later)
            | inr fault ↦ inr (fault.0, past field bytes (drop (field_size field bytes) bytes) (begins_soundly field bytes here) refl fields after len fault.0 fault.1)
          ]
    ]

module _ (list_or_fault : ListOrFirstFault) (no_list : ListHasNoFirstFault) where
  -- what follows the zeros is no list of TLVs
  lacks_list : (len : ℕ) (after : List ℕ) (place why : ℕ) → 0 < length after → FirstFault (drop (padding len) after) place why → LacksSubs len after
  lacks_list len after place why some fault subs (tlvs, inl none) = omega (arith, ap length none.0)
  lacks_list len after place why some fault subs (tlvs, inr parts) =
      let rest : drop (padding len) after ≡ subs = ap (drop (padding len)) parts ∙ drop_at (replicate (padding len) 0) subs (padding len) (length-replicate {A = ℕ} (padding len) 0) in
      no_list (drop (padding len) after) place why fault (subst HasTlvs (sym rest) tlvs)

  -- so many zeros are not there
  lacks_zeros : (len : ℕ) (after : List ℕ) → 0 < length after → ((rest : List ℕ) → ¬ (after ≡ replicate (padding len) 0 ++ rest)) → LacksSubs len after
  lacks_zeros len after some other subs (tlvs, inl none) = omega (arith, ap length none.0)
  lacks_zeros len after some other subs (tlvs, inr parts) = other subs parts

  subs_or_none : (len : ℕ) (after : List ℕ) → Bytes after → ThenSubs len after (drop (padding len) after) ⊎ LacksSubs len after
  subs_or_none len [] fit =
      let nothing : ◌≡◌ {A = List ℕ} (drop (padding len) []) [] = drop_all (padding len) [] (omega arith) in
      inl (([], nothing), inl (refl, nothing))
  subs_or_none len (b ∷ bs) fit =
      let after : List ℕ = b ∷ bs in
      let rest : List ℕ = drop (padding len) after in
      elim (zeros_or_other (padding len) after) [
        | inl zeros ↦
            elim (list_or_fault rest (All-from_recursion IsByte rest (Bytes-drop (padding len) after fit))) [
              | inl tlvs ↦ inl (tlvs, inr zeros)
              | inr fault ↦ inr (lacks_list len after fault.0 fault.1 (omega arith) fault.2)
            ]
        | inr other ↦ inr (lacks_zeros len after (omega arith) other)
      ]

  -- what follows fields is as it has to be, or has a fault
  after_or_fault : (fields : List ℕ) (after : After) (value bytes : List ℕ) → value ≡ fields ++ bytes → Bytes bytes
      → IsValue fields (with_bytes after (tail_at after (length fields) bytes)) value ⊎ ((why : ℕ) × IsAfterFault after (length fields) bytes why)
  after_or_fault fields (Subs _) value bytes parts fit =
      elim (subs_or_none (length fields) bytes fit) [
        | inl then ↦ inl (bytes, parts, then)
        | inr lacks ↦ inr (2, inl (lacks, refl))
      ]
  after_or_fault fields (Text _) value bytes parts fit =
      elim (cases_Bool (is_utf8 bytes)) [
        | inl text ↦ inl (parts, IsUtf8-from_is_utf8 bytes text)
        | inr no_text ↦ inr (4, inl ((λ utf8. false≢true (sym no_text ∙ is_utf8-from_IsUtf8 bytes utf8)), refl))
      ]
  after_or_fault fields (Anything _) value bytes parts fit = inl parts

  sample_covered : (sample : PlainItem) (tlv : PlainTlv) → IsTlv tlv → tlv.kind ≡ (shape sample).kind → HasOtherKind sample
      → ((item : PlainItem) × IsItem tlv item) ⊎ ((why : ℕ) × IsFirstCause (shape sample).fields (shape sample).after 0 tlv.value why)
  sample_covered sample tlv valid same other =
      let value : List ℕ = tlv.value in
      let after : After = (shape sample).after in
      let fields : List ValueField = fields_at (shape sample).fields value in
      elim (fields_or_fault (shape sample).fields after 0 value (recursion_from_All IsByte value valid.bytes)) [
        | inr fault ↦ inr fault
        | inl read ↦
            let fixed : List ℕ = fields_bytes read.reserved fields in
            let at = are_at read.reserved fields value read.rest read.in_fields read.parts in
            let tail : tail_at after (length fixed) read.rest ≡ tail_in (shape sample) value =
            ap (λ n. tail_at after n read.rest) at.len ∙ ap (tail_at after (fields_size fields value)) (sym at.rest) in
            elim (after_or_fault fixed after value read.rest read.parts read.bytes_rest) [
              | inl is ↦ inl (held_by value sample, held_is_item sample tlv read.reserved same valid.kind_fits other read.in_fields (subst (λ z. IsValue fixed (with_bytes after z) value) tail is))
              | inr fault ↦ inr (fault.0, read.goes_on fault.0 (subst (λ n. IsAfterFault after n read.rest fault.0) (omega arith) fault.1))
            ]
      ]

  pub covered : (tlv : PlainTlv) → IsTlv tlv → ((item : PlainItem) × IsItem tlv item) ⊎ ((why : ℕ) × IsItemFault tlv why)
  covered tlv valid = let is = sample_has_kind tlv.kind in sample_covered (sample_among samples tlv.kind) tlv valid is.1 is.0
