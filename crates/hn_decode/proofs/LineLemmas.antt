-- The line of a TLV, put together.
use Rattle.hn_base.proofs.Names.{◌≡◌, ℕ, ◌-◌, List, ◌++◌, Option, Some, None, Result, Ok, Err, IfSome, codes, refl, append_assoc, inl, inr, Bor}
use Rattle.hn_decode.proofs.Names.{PlainTlv, PlainItem, IsItem, item_text, bad_text, within, within_name, named_bytes, line, HasLines, IsLineAbove, IsLineAlone, GrowsByText}
use Rattle.std.proofs.Common.{IfOk, IfNone}
use Rattle.hn_typed.specs.Fault.{IsItemFault}
use Rattle.hn_decode.specs.Line.{line_start}

bad_alone_is : (below place : ℕ) (tlv : PlainTlv) (why : ℕ) (old : List ℕ) → IsItemFault tlv why
    → GrowsByText (IsLineAlone below place tlv) old (((old ++ line_start (7 - below) place tlv) ++ bad_text why tlv.value) ++ codes "\n")
bad_alone_is below place tlv why old fault =
    (line below place tlv (bad_text why tlv.value), inr (record { why = why; is_fault = fault; text_is = refl }), simp append_assoc)

pub bad_alone : (below place : ℕ) (tlv : PlainTlv) (why : ℕ) (old start text new : List ℕ) → start ≡ old ++ line_start (7 - below) place tlv → IsItemFault tlv why
    → text ≡ start ++ bad_text why tlv.value → new ≡ text ++ codes "\n" → GrowsByText (IsLineAlone below place tlv) old new
bad_alone below place tlv why old start text new begins fault says ends =
    rw (ends, says, begins) (bad_alone_is below place tlv why old fault)

module _ (below place : ℕ) (tlv : PlainTlv) (item : PlainItem) (old start new : List ℕ) (begins : start ≡ old ++ line_start (7 - below) place tlv) (is_item : IsItem tlv item) where
  item_alone : (¬ HasLines below item) × (new ≡ start ++ (item_text item ++ named_bytes (within_name item) (within item) ++ codes "\n")) → GrowsByText (IsLineAlone below place tlv) old new
  item_alone (no_lines, ends) =
      let said = item_text item ++ named_bytes (within_name item) (within item) in
      (line below place tlv said, inl (record { item = item; is_item = is_item; no_lines = no_lines; text_is = refl }), rw (ends, begins) (simp append_assoc))

  item_above : (inner : List ℕ) → HasLines below item × (inner ≡ within item) × (new ≡ start ++ (item_text item ++ codes "\n"))
      → (item : PlainItem) × (inner ≡ within item) × GrowsByText (IsLineAbove below place tlv item) old new
  item_above inner (has_lines, inner_is, ends) =
      (item, inner_is, (line below place tlv (item_text item), record { is_item = is_item; has_lines = has_lines; text_is = refl }, rw (ends, begins) (simp append_assoc)))

  pub answer_alone : {E : Type 0} (result : Result (Option (Bor (List ℕ))) E)
      → IfOk result (λ inner. IfNone inner ((¬ HasLines below item) × (new ≡ start ++ (item_text item ++ named_bytes (within_name item) (within item) ++ codes "\n"))))
      → IfOk result (λ inner. IfNone inner (GrowsByText (IsLineAlone below place tlv) old new))
  answer_alone (Ok None) h = item_alone h
  answer_alone (Ok (Some inner)) h = h
  answer_alone (Err e) h = h

  pub answer_above : {E : Type 0} (result : Result (Option (Bor (List ℕ))) E)
      → IfOk result (λ inner. IfSome inner (λ bytes. HasLines below item × (bytes.now ≡ within item) × (new ≡ start ++ (item_text item ++ codes "\n"))))
      → IfOk result (λ inner. IfSome inner (λ bytes. (item : PlainItem) × (bytes.now ≡ within item) × GrowsByText (IsLineAbove below place tlv item) old new))
  answer_above (Ok None) h = h
  answer_above (Ok (Some inner)) h = item_above inner.now h
  answer_above (Err e) h = h
