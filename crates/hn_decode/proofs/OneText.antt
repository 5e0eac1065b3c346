-- A datagram has at most one text.
use Rattle.hn_base.proofs.Names.{◌≡◌, ℕ, zero, suc, ◌+◌, List, [], ◌∷◌, ◌++◌, length, codes, sym, ap, subst, ◌∙◌, inl, inr, decimal}
use Rattle.hn_decode.proofs.Names.{PlainTlv, tlv_size, FirstFault, ListIsUnique, ListHasNoFirstFault, PlainItem, item_text, bad_text, within, within_name, named_bytes, line, HasLines, IsLineAlone}
use Rattle.hn_decode.proofs.Names.{TextsInOrder, ShowsList, place_within, IsDecodeText}
use Rattle.hn_typed.specs.Laws.{ItemIsUnique, ItemHasNoFault, ItemFaultIsUnique}
use Rattle.hn_decode.specs.Nested.{ShowsWithin, Shows}

-- there is one text at most for a TLV at a place
abbrev IsFunction : (ℕ → PlainTlv → List ℕ → Type 0) → Type 0
IsFunction Shows = (place : ℕ) (tlv : PlainTlv) (text other : List ℕ) → Shows place tlv text → Shows place tlv other → text ≡ other

same_order : (Shows : ℕ → PlainTlv → List ℕ → Type 0) → IsFunction Shows → (tlvs : List PlainTlv) (place : ℕ) (text other : List ℕ)
    → TextsInOrder Shows place tlvs text → TextsInOrder Shows place tlvs other → text ≡ other
same_order Shows one [] place text other h k = h ∙ sym k
same_order Shows one (tlv ∷ tlvs) place text other h k =
    let fronts : h.0 ≡ k.0 = one place tlv h.0 k.0 h.2 k.2 in
    let rests : h.1 ≡ k.1 = same_order Shows one tlvs (place + tlv_size (length tlv.value)) h.1 k.1 h.3 k.3 in
    cc

-- the laws of lists and of items
module _ (same_list : ListIsUnique) (same_item : ItemIsUnique) (no_fault : ItemHasNoFault) (same_fault : ItemFaultIsUnique) where
  same_shown : (Shows : ℕ → PlainTlv → List ℕ → Type 0) → IsFunction Shows → (place : ℕ) (bytes text other : List ℕ)
      → ShowsList Shows place bytes text → ShowsList Shows place bytes other → text ≡ other
  same_shown Shows one place bytes text other h k =
      let lists : k.tlvs ≡ h.tlvs = same_list k.tlvs h.tlvs bytes k.is_list h.is_list in
      same_order Shows one h.tlvs place text other h.in_order (subst (λ (ts : List PlainTlv). TextsInOrder Shows place ts other) lists k.in_order)

  same_alone : (below place : ℕ) (tlv : PlainTlv) (text other : List ℕ) → IsLineAlone below place tlv text → IsLineAlone below place tlv other → text ≡ other
  same_alone below place tlv text other (inl h) (inl k) =
      let items : h.item ≡ k.item = same_item tlv h.item k.item h.is_item k.is_item in
      h.text_is ∙ ap (λ (i : PlainItem). line below place tlv (item_text i ++ named_bytes (within_name i) (within i))) items ∙ sym k.text_is
  same_alone below place tlv text other (inl h) (inr k) = absurd (no_fault tlv h.item k.why h.is_item k.is_fault)
  same_alone below place tlv text other (inr h) (inl k) = absurd (no_fault tlv k.item h.why k.is_item h.is_fault)
  same_alone below place tlv text other (inr h) (inr k) =
      let causes : h.why ≡ k.why = same_fault tlv h.why k.why h.is_fault k.is_fault in
      h.text_is ∙ ap (λ (why : ℕ). line below place tlv (bad_text why tlv.value)) causes ∙ sym k.text_is

  -- a TLV has lines below its own, or it has none
  not_both : (Shows : ℕ → PlainTlv → List ℕ → Type 0) (below place : ℕ) (tlv : PlainTlv) (text other : List ℕ) → IsLineAlone below place tlv text → ¬ (ShowsWithin Shows below place tlv other)
  not_both Shows below place tlv text other (inl h) k =
      h.no_lines (subst (HasLines below) (same_item tlv k.item h.item k.above.is_item h.is_item) k.above.has_lines)
  not_both Shows below place tlv text other (inr h) k = no_fault tlv k.item h.why k.above.is_item h.is_fault

  same_within : (Shows : ℕ → PlainTlv → List ℕ → Type 0) → IsFunction Shows → (below place : ℕ) (tlv : PlainTlv) (text other : List ℕ)
      → ShowsWithin Shows below place tlv text → ShowsWithin Shows below place tlv other → text ≡ other
  same_within Shows one below place tlv text other h k =
      let items : k.item ≡ h.item = same_item tlv k.item h.item k.above.is_item h.above.is_item in
      let heads : h.line ≡ k.line = h.above.text_is ∙ ap (λ (i : PlainItem). line below place tlv (item_text i)) (sym items) ∙ sym k.above.text_is in
      let inside : ShowsList Shows (place_within place tlv h.item) (within h.item) k.lines = subst (λ (i : PlainItem). ShowsList Shows (place_within place tlv i) (within i) k.lines) items k.inside in
      let bodies : h.lines ≡ k.lines = same_shown Shows one (place_within place tlv h.item) (within h.item) h.lines k.lines h.inside inside in
      h.text_is ∙ ap (λ (z : List ℕ). z ++ h.lines) heads ∙ ap (λ (z : List ℕ). k.line ++ z) bodies ∙ sym k.text_is

  same_tlv : (below : ℕ) → IsFunction (Shows below)
  unfolding Shows
  same_tlv zero place tlv text other h k = same_alone zero place tlv text other h k
  same_tlv (suc below) place tlv text other (inl h) (inl k) = same_alone (suc below) place tlv text other h k
  same_tlv (suc below) place tlv text other (inl h) (inr k) = absurd (not_both (Shows below) (suc below) place tlv text other h k)
  same_tlv (suc below) place tlv text other (inr h) (inl k) = absurd (not_both (Shows below) (suc below) place tlv other text k h)
  same_tlv (suc below) place tlv text other (inr h) (inr k) = same_within (Shows below) (same_tlv below) (suc below) place tlv text other h k

  pub same_text : (bytes text other : List ℕ) → IsDecodeText bytes text → IsDecodeText bytes other → text ≡ other
  same_text bytes text other h k =
      let lists : h.shown.tlvs ≡ k.shown.tlvs = same_list h.shown.tlvs k.shown.tlvs bytes h.shown.is_list k.shown.is_list in
      let lines : h.lines ≡ k.lines = same_shown (Shows 7) (same_tlv 7) 0 bytes h.lines k.lines h.shown k.shown in
      h.text_is ∙ ap (λ (ts : List PlainTlv). codes "tlvs " ++ decimal (length ts) ++ codes "\n" ++ h.lines) lists
      ∙ ap (λ (z : List ℕ). codes "tlvs " ++ decimal (length k.shown.tlvs) ++ codes "\n" ++ z) lines ∙ sym k.text_is

pub no_text : ListHasNoFirstFault → (bytes text : List ℕ) (place why : ℕ) → FirstFault bytes place why → ¬ (IsDecodeText bytes text)
no_text no_list bytes text place why fault h = no_list bytes place why fault (h.shown.tlvs, h.shown.is_list)
