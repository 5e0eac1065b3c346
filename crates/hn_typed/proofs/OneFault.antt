-- A TLV that decodes to an item has no fault, and a TLV has one fault only.
use Rattle.hn_base.proofs.Names.{◌≡◌, ℕ, ◌+◌, List, [], ◌∷◌, ◌++◌, length, get_or, drop, refl, sym, ap, subst, ◌∙◌, append_assoc, arith, inl, inr, drop_at, OnCause, NoCause}
use Rattle.hn_typed.proofs.Names.{length-append, PlainTlv, PlainItem, ValueField, Prefixed, After, Subs, Text, Anything, shape, shape_of_kind, AreInFields, field_bytes, fields_bytes, IsItem}
use Rattle.hn_typed.proofs.Names.{field_size, IsFieldFault, IsAfterFault, IsItemFault}
use Rattle.hn_base.proofs.FirstCause.{one_cause}
use Rattle.hn_typed.specs.Fault.{IsFirstCause}
use Rattle.hn_typed.proofs.FieldsRead.{bytes_first, first_in, field_len, sound}
use Rattle.hn_typed.proofs.Samples.{fault_of_item}
use Rattle.hn_typed.proofs.OneItem.{is_after, in_fields}

-- ---- an item has no fault

no_cause : (fields : List ValueField) (after : After) (reserved : List ℕ) (len : ℕ) (bytes rest : List ℕ) (why : ℕ) → AreInFields fields → bytes ≡ fields_bytes reserved fields ++ rest
    → ¬ (IsAfterFault after (len + length (fields_bytes reserved fields)) rest why) → ¬ (IsFirstCause fields after len bytes why)
unfolding IsFirstCause
no_cause [] after r len bytes rest why fits parts whole cause =
    let end : len ≡ len + 0 = omega arith in
    whole (subst (λ n. IsAfterFault after n rest why) end (subst (λ z. IsAfterFault after len z why) parts cause))
no_cause (field ∷ fields) after r len bytes rest why fits parts whole (inl fault) =
    let here : List ℕ = field_bytes (get_or r 0 0) field in
    let later : List ℕ = fields_bytes (drop 1 r) fields in
    let all : bytes ≡ here ++ (later ++ rest) = parts ∙ ap (λ (z : List ℕ). z ++ rest) (bytes_first r field fields) ∙ append_assoc here later rest in
    sound (get_or r 0 0) field (later ++ rest) (first_in field fields fits).0 why (subst (λ z. IsFieldFault field z why) all fault)
no_cause (field ∷ fields) after r len bytes rest why fits parts whole (inr (_, cause)) =
    let both = first_in field fields fits in
    let here : List ℕ = field_bytes (get_or r 0 0) field in
    let later : List ℕ = fields_bytes (drop 1 r) fields in
    let all : bytes ≡ here ++ (later ++ rest) = parts ∙ ap (λ (z : List ℕ). z ++ rest) (bytes_first r field fields) ∙ append_assoc here later rest in
    let size : length here ≡ field_size field bytes = field_len (get_or r 0 0) field (later ++ rest) both.0 ∙ ap (field_size field) (sym all) in
    let next : drop (field_size field bytes) bytes ≡ later ++ rest = ap (drop (field_size field bytes)) all ∙ drop_at here (later ++ rest) (field_size field bytes) size in
    let lens : (len + field_size field bytes) + length later ≡ len + length (fields_bytes r (field ∷ fields)) = omega (arith, ap length (bytes_first r field fields), length-append here later, size) in
    no_cause fields after (drop 1 r) (len + field_size field bytes) (drop (field_size field bytes) bytes) rest why both.1 next
    (λ bad. whole (subst (λ n. IsAfterFault after n rest why) lens bad)) cause

pub no_fault : (tlv : PlainTlv) (item : PlainItem) (why : ℕ) → IsItem tlv item → ¬ (IsItemFault tlv why)
no_fault tlv item why h fault =
    let fields : List ValueField = (shape item).fields in
    let after = is_after (fields_bytes h.spelled.1 fields) (shape item).after tlv.value h.spelled.2 in
    let same : IsItemFault (record { kind = (shape item).kind; value = tlv.value }) why =
    subst (λ k. IsFirstCause (shape_of_kind k).fields (shape_of_kind k).after 0 tlv.value why) h.spelled.0 fault in
    no_cause fields (shape item).after h.spelled.1 0 tlv.value after.rest why (in_fields item h.in_range) after.parts
    (λ bad. after.whole why (subst (λ n. IsAfterFault (shape item).after n after.rest why) (omega arith) bad)) (fault_of_item item tlv.value why h.other_kind same)

-- ---- one cause is the first

same_in_field : (field : ValueField) (bytes : List ℕ) (v w : ℕ) → IsFieldFault field bytes v → IsFieldFault field bytes w → v ≡ w
same_in_field (Prefixed p) bytes v w = one_cause _ 3 (OnCause _ 1 (OnCause _ 3 NoCause)) v w (one_cause _ 1 (OnCause _ 3 NoCause) v w (one_cause _ 3 NoCause v w (λ no other. absurd no)))
same_in_field _ bytes v w = one_cause _ 1 NoCause v w (λ no other. absurd no)

same_after : (after : After) (len : ℕ) (bytes : List ℕ) (v w : ℕ) → IsAfterFault after len bytes v → IsAfterFault after len bytes w → v ≡ w
same_after (Subs _) len bytes v w = one_cause _ 2 NoCause v w (λ no other. absurd no)
same_after (Text _) len bytes v w = one_cause _ 4 NoCause v w (λ no other. absurd no)
same_after (Anything _) len bytes v w = λ no other. absurd no

same_cause : (fields : List ValueField) (after : After) (len : ℕ) (bytes : List ℕ) (v w : ℕ) → IsFirstCause fields after len bytes v → IsFirstCause fields after len bytes w → v ≡ w
unfolding IsFirstCause
same_cause [] after len bytes v w h k = same_after after len bytes v w h k
same_cause (field ∷ fields) after len bytes v w (inl h) (inl k) = same_in_field field bytes v w h k
same_cause (field ∷ fields) after len bytes v w (inl h) (inr k) = absurd (k.0 v h)
same_cause (field ∷ fields) after len bytes v w (inr h) (inl k) = absurd (h.0 w k)
same_cause (field ∷ fields) after len bytes v w (inr h) (inr k) = same_cause fields after (len + field_size field bytes) (drop (field_size field bytes) bytes) v w h.1 k.1

pub same_fault : (tlv : PlainTlv) (v w : ℕ) → IsItemFault tlv v → IsItemFault tlv w → v ≡ w
same_fault tlv v w = same_cause (shape_of_kind tlv.kind).fields (shape_of_kind tlv.kind).after 0 tlv.value v w
