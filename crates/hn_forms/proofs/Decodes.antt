-- Each source has a text that `decode` writes of it.
use Rattle.hn_base.proofs.Names.{◌≡◌, ◌^◌, ◌≤◌, inl, inr, ℕ, List, Result, Ok, Err, length, refl, cases_lt, get_or_default, IsByte}
use Rattle.hn_forms.proofs.Names.{decode_of, FromHexError, refused_line, unblanked, malformed_line, IsDecodeOf}
use Rattle.std.proofs.Common.{All}
use Rattle.hn_tlv.specs.Laws.{ListOrFirstFault}
use Rattle.hn_decode.specs.Laws.{DecodeTextExists}
use Rattle.hex.proofs.HexLemmas.{decode_of-ok}
use Rattle.hn_forms.specs.Decode.{IsContentsOf}

-- the laws of lists and of texts
module _ (list_or_fault : ListOrFirstFault) (text_exists : DecodeTextExists) where
  contents : (octets : List ℕ) → All IsByte octets → (status : ℕ) × (text : List ℕ) × IsContentsOf octets status text
  contents octets bytes =
      elim (list_or_fault octets bytes) [
        | inl list ↦ let told = text_exists octets list in (0, told.0, inl (refl, told.1))
        | inr fault ↦ (2, malformed_line fault.0 fault.1, inr (record { place = fault.0; why = fault.1; fault = fault.2; status_is = refl; text_is = refl }))
      ]

  of_short : (bytes : List ℕ) (read : Result (List ℕ) FromHexError) → decode_of (unblanked bytes) ≡ read → length bytes ≤ 2 ^ 24 → (status : ℕ) × (text : List ℕ) × IsDecodeOf bytes status text
  of_short bytes (Err e) is short = (2, refused_line 0 4, inl (refl, inr (short, rw is refl, refl)))
  of_short bytes (Ok octets) is short =
      let small = (decode_of-ok (unblanked bytes) octets is).3 in
      let told = contents octets (λ k d within. rw (get_or_default octets k d 0 within) (small k)) in
      (told.0, told.1, inr (record { octets = octets; short = short; hex_text = is; contents = told.2 }))

  pub decodes : (bytes : List ℕ) → (status : ℕ) × (text : List ℕ) × IsDecodeOf bytes status text
  decodes bytes =
      elim (cases_lt (2 ^ 24) (length bytes)) [
        | inl long ↦ (2, refused_line 0 15, inl (refl, inl (long, refl)))
        | inr short ↦ of_short bytes (decode_of (unblanked bytes)) refl short
      ]
