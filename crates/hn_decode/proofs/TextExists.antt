-- A datagram that is a list of TLVs has a text.
use Rattle.hn_base.proofs.Names.{◌≡◌, ℕ, zero, suc, ◌+◌, ◌-◌, ◌<◌, ◌⊎◌, inl, inr, List, [], ◌∷◌, ◌++◌, length, drop, refl, ap, subst, ◌∙◌, arith, cases_lt, drop_at, All-from_recursion}
use Rattle.hn_base.proofs.Names.{recursion_from_All, IsByte}
use Rattle.hn_decode.proofs.Names.{PlainTlv, tlv_size, IsTlvList, HasTlvs, ListIsUnique, ListHasNoFirstFault, PlainItem, NodeState, IsItem, item_text, bad_text, within, within_name, named_bytes, line}
use Rattle.hn_decode.proofs.Names.{HasLines, HoldsNodeData, IsLineAbove, TextsInOrder, ShowsList, place_within, Shows, tlvs_line, IsDecodeText, IsTextTo}
use Rattle.std.proofs.Common.{All}
use Rattle.hn_base.proofs.EachByRecursion.{AllByRecursion-drop}
use Rattle.hn_tlv.specs.Grammar.{IsTlv}
use Rattle.hn_tlv.specs.Laws.{ListOrFirstFault}
use Rattle.hn_typed.specs.Fields.{word}
use Rattle.hn_typed.specs.Laws.{ItemOrFault}
use Rattle.hn_decode.proofs.Within.{list_within}
use Rattle.hn_decode.proofs.TextSoFar.{shows_line, shows_within}

-- each TLV has a text
abbrev HaveTexts : (ℕ → PlainTlv → List ℕ → Type 0) → Type 0
HaveTexts Shows = (place : ℕ) (tlv : PlainTlv) → IsTlv tlv → (text : List ℕ) × Shows place tlv text

in_order : (Shows : ℕ → PlainTlv → List ℕ → Type 0) → HaveTexts Shows → (tlvs : List PlainTlv) (place : ℕ) (bytes : List ℕ) → IsTlvList tlvs bytes
    → (text : List ℕ) × TextsInOrder Shows place tlvs text
in_order Shows each [] place bytes list = ([], refl)
in_order Shows each (tlv ∷ tlvs) place bytes list =
    let front = each place tlv list.1 in
    let rest = in_order Shows each tlvs (place + tlv_size (length tlv.value)) list.0 list.3 in
    (front.0 ++ rest.0, (front.0, rest.0, front.1, rest.1, refl))

list_shown : (Shows : ℕ → PlainTlv → List ℕ → Type 0) → HaveTexts Shows → (place : ℕ) (bytes : List ℕ) → HasTlvs bytes → (text : List ℕ) × ShowsList Shows place bytes text
list_shown Shows each place bytes (tlvs, list) =
    let told = in_order Shows each tlvs place bytes list in
    (told.0, record { tlvs = tlvs; is_list = list; in_order = told.1 })

is_node_state : (item : PlainItem) → HoldsNodeData item ⊎ (¬ HoldsNodeData item)
is_node_state (NodeState node number age hash body) = inl tt
is_node_state _ = inr (λ no. no)

-- the bytes of a node's data
body_bytes : (tlv : PlainTlv) (item : PlainItem) → IsTlv tlv → IsItem tlv item → HoldsNodeData item → All IsByte (within item)
body_bytes tlv (NodeState node number age hash body) valid h is =
    let fixed : List ℕ = word node ++ word number ++ word age ++ hash in
    let rest : drop (length fixed) tlv.value ≡ body = ap (drop (length fixed)) h.spelled.2 ∙ drop_at fixed body (length fixed) refl in
    let P : ℕ → Type 0 = IsByte in
    subst (All P) rest (All-from_recursion P (drop (length fixed) tlv.value) (AllByRecursion-drop P (length fixed) tlv.value (recursion_from_All P tlv.value valid.bytes)))
body_bytes tlv _ valid h is = absurd is

-- the laws of lists and of items
module _ (item_or_fault : ItemOrFault) (list_or_fault : ListOrFirstFault) (no_list : ListHasNoFirstFault) where
  -- what lies within an item is a list of TLVs or none
  list_or_none : (tlv : PlainTlv) (item : PlainItem) → IsTlv tlv → IsItem tlv item → HasTlvs (within item) ⊎ (¬ HasTlvs (within item))
  list_or_none tlv item valid h =
      elim (is_node_state item) [
        | inr other ↦ inl (list_within tlv item h (λ body. absurd (other body)))
        | inl node_state ↦
            elim (list_or_fault (within item) (body_bytes tlv item valid h node_state)) [
              | inl tlvs ↦ inl tlvs
              | inr fault ↦ inr (no_list (within item) fault.0 fault.1 fault.2)
            ]
      ]

  -- a line with no lines below it
  alone : (below place : ℕ) (tlv : PlainTlv) (item : PlainItem) → IsItem tlv item → (¬ HasLines below item) → (text : List ℕ) × Shows below place tlv text
  alone below place tlv item h no_lines =
      let text = line below place tlv (item_text item ++ named_bytes (within_name item) (within item)) in
      (text, shows_line below place tlv text (inl (record { item = item; is_item = h; no_lines = no_lines; text_is = refl })))

  -- the text of an item, and of what lies within
  item_shown : (below place : ℕ) (tlv : PlainTlv) (item : PlainItem) → IsTlv tlv → IsItem tlv item
      → (0 < below → (at : ℕ) → HasTlvs (within item) → (lines : List ℕ) × ShowsList (Shows (below - 1)) at (within item) lines)
      → (text : List ℕ) × Shows below place tlv text
  item_shown below place tlv item valid h inner =
      elim (cases_lt 0 below) [
        | inr none ↦ alone below place tlv item h (λ lines. omega (arith, lines.0))
        | inl some ↦
            elim (list_or_none tlv item valid h) [
              | inr none ↦ alone below place tlv item h (λ lines. none lines.1)
              | inl tlvs ↦
                  let told = inner some (place_within place tlv item) tlvs in
                  let text = line below place tlv (item_text item) in
                  let above : IsLineAbove below place tlv item text = record { is_item = h; has_lines = (some, tlvs); text_is = refl } in
                  (text ++ told.0, shows_within below place tlv item text told.0 above told.1)
            ]
      ]

  one_shown : (below place : ℕ) (tlv : PlainTlv) → IsTlv tlv
      → ((item : PlainItem) → 0 < below → (at : ℕ) → HasTlvs (within item) → (lines : List ℕ) × ShowsList (Shows (below - 1)) at (within item) lines)
      → (text : List ℕ) × Shows below place tlv text
  one_shown below place tlv valid inner =
      elim (item_or_fault tlv valid) [
        | inl item ↦ item_shown below place tlv item.0 valid item.1 (inner item.0)
        | inr fault ↦
            let text = line below place tlv (bad_text fault.0 tlv.value) in
            (text, shows_line below place tlv text (inr (record { why = fault.0; is_fault = fault.1; text_is = refl })))
      ]

  shown : (below : ℕ) → HaveTexts (Shows below)
  shown zero place tlv valid = one_shown zero place tlv valid (λ item some. absurd (omega arith))
  shown (suc below) place tlv valid =
      one_shown (suc below) place tlv valid (λ item some at tlvs.
      let told = list_shown (Shows below) (shown below) at (within item) tlvs in
      let level : below ≡ suc below - 1 = omega arith in
      (told.0, subst (λ (n : ℕ). ShowsList (Shows n) at (within item) told.0) level told.1))

  pub text_exists : (bytes : List ℕ) → HasTlvs bytes → (text : List ℕ) × IsDecodeText bytes text
  text_exists bytes list =
      let told = list_shown (Shows 7) (shown 7) 0 bytes list in
      (tlvs_line (length told.1.tlvs) ++ told.0, record { lines = told.0; shown = told.1; text_is = refl })

  -- lines up to a place, and those of the rest
  pub text_goes_on : ListIsUnique → (bytes lines : List ℕ) (at : ℕ) (tlvs : List PlainTlv) → IsTlvList tlvs bytes → IsTextTo bytes at lines
      → (rest : List ℕ) × IsDecodeText bytes (tlvs_line (length tlvs) ++ (lines ++ rest))
  text_goes_on unique bytes lines at tlvs list so_far =
      let rest = list_shown (Shows 7) (shown 7) (0 + at) (drop at bytes) so_far.is_list in
      let told = so_far.goes_on rest.0 rest.1 in
      let same = unique told.tlvs tlvs bytes told.is_list list in
      let Told : List PlainTlv → Type 0 = λ all. IsDecodeText bytes (tlvs_line (length all) ++ (lines ++ rest.0)) in
      (rest.0, subst Told same (record { lines = lines ++ rest.0; shown = told; text_is = refl }))
