-- A source that spells a list of TLVs is not refused.
use Rattle.hn_base.proofs.Names.{◌≡◌, ℕ, List, inl, inr, sym, subst, arith}
use Rattle.hn_forms.proofs.Names.{HasTlvs, SpellsTlvs, IsDecodeOf}
use Rattle.hn_base.proofs.Results.{one_value, no_error}
use Rattle.hn_tlv.specs.Laws.{ListHasNoFirstFault}

pub not_refused : ListHasNoFirstFault → (bytes text : List ℕ) → SpellsTlvs bytes → IsDecodeOf bytes 2 text → ⊥
not_refused law bytes text spells (inl (is, inl too_long)) = let short = spells.short in let long = too_long.0 in omega arith
not_refused law bytes text spells (inl (is, inr no_hex)) = no_error _ spells.octets spells.hex_text no_hex.1
not_refused law bytes text spells (inr decoded) =
    elim decoded.contents [
      | inl shown ↦ let is = shown.0 in absurd (omega arith)
      | inr malformed ↦
          let same : decoded.octets ≡ spells.octets = one_value _ _ _ decoded.hex_text spells.hex_text in
          law decoded.octets malformed.place malformed.why malformed.fault (subst HasTlvs (sym same) spells.tlvs)
    ]
