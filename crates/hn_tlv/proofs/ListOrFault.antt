-- Bytes are a list of TLVs, or they have a first fault: what begins them is nothing, a TLV or a fault.
use Rattle.hn_base.proofs.Names.{◌≡◌, ℕ, zero, suc, ◌+◌, ◌^◌, ◌<◌, ◌≤◌, ◌⊎◌, inl, inr, List, [], ◌∷◌, ◌++◌, length, take, drop, replicate, refl, sym, ap, ◌∙◌, append_assoc, arith, w16, to_be_bytes}
use Rattle.hn_base.proofs.Names.{from_be_bytes, cases_lt, take-append-drop, length-drop, length-take-le, get_or-drop, recursion_from_All, IsByte}
use Rattle.hn_tlv.proofs.Names.{length-append, PlainTlv, padding, tlv_size, header, spelling, HasTlvs, IsTlvAt, IsFault, FirstFault, IsPaddingFault, AreOctets}
use Rattle.std.proofs.Common.{All}
use Rattle.hn_tlv.proofs.TakenApart.{IsSplit, is_split, faulty_padding, whole_tlv}
use Rattle.hn_base.proofs.BigEndian.{octets, two_bytes, two_small}

-- ---- what begins the bytes

pub data Begin (bytes : List ℕ) : Type 0 where
  Nothing : bytes ≡ [] → Begin bytes
  ATlv : (tlv : PlainTlv) (after : ℕ) → IsTlvAt bytes 0 tlv after → Begin bytes
  AFault : (offset why : ℕ) → IsFault bytes offset why → Begin bytes

-- so many zeros, or the first byte that is missing or is not zero
zeros_or_fault : (count : ℕ) (bytes : List ℕ) → (bytes ≡ replicate count 0 ++ drop count bytes) ⊎ ((offset why : ℕ) × IsPaddingFault count bytes offset why)
zeros_or_fault zero bytes = inl refl
zeros_or_fault (suc count) [] = inr (0, 3, (omega arith, inl (refl, refl)))
zeros_or_fault (suc count) (suc b ∷ bytes) =
    inr (0, 4, (omega arith, inr (refl, record { byte = suc b; rest = bytes; parts = refl; not_zero = λ e. omega arith })))
zeros_or_fault (suc count) (zero ∷ bytes) = more (zeros_or_fault count bytes)
  where
    more : (bytes ≡ replicate count 0 ++ drop count bytes) ⊎ ((offset why : ℕ) × IsPaddingFault count bytes offset why)
        → (zero ∷ bytes ≡ replicate (suc count) 0 ++ drop (suc count) (zero ∷ bytes)) ⊎ ((offset why : ℕ) × IsPaddingFault (suc count) (zero ∷ bytes) offset why)
    more (inl zeros) = inl (ap (λ (z : List ℕ). 0 ∷ z) zeros)
    more (inr (offset, why, (few, inl ends))) = inr (suc offset, why, (omega arith, inl (ends.0, ap (λ (z : List ℕ). 0 ∷ z) ends.1)))
    more (inr (offset, why, (few, inr breaks))) =
        inr (suc offset, why, (omega arith, inr (breaks.0, record { byte = breaks.1.byte; rest = breaks.1.rest; parts = ap (λ (z : List ℕ). 0 ∷ z) breaks.1.parts; not_zero = breaks.1.not_zero })))

-- a type, a length and a value
begin_value : (bytes value rest : List ℕ) (kind len : ℕ) → AreOctets bytes → kind < 2 ^ 16 → len < 2 ^ 16 → length value ≡ len → bytes ≡ header kind len ++ (value ++ rest) → Begin bytes
begin_value bytes value rest kind len fit kind_fits length_fits value_len parts =
    let tlv : PlainTlv = record { kind = kind; value = value } in
    let split : IsSplit bytes tlv rest = is_split bytes value rest kind len fit kind_fits length_fits value_len parts in
    elim (zeros_or_fault (padding (length value)) rest) [
      | inl zeros ↦ ATlv tlv (tlv_size (length value)) (whole_tlv bytes tlv rest (tlv_size (length value)) split refl zeros)
      | inr found ↦ AFault (4 + length value + found.0) found.1 (faulty_padding bytes tlv rest found.0 found.1 split found.2)
    ]

-- a type and a length
begin_header : (bytes rest : List ℕ) (kind len : ℕ) → AreOctets bytes → kind < 2 ^ 16 → len < 2 ^ 16 → bytes ≡ header kind len ++ rest → Begin bytes
begin_header bytes rest kind len fit kind_fits length_fits parts =
    elim (cases_lt (length rest) len) [
      | inl short ↦
          AFault 0 2 (inr (inl (refl, record { kind = kind; len = len; rest = rest; kind_fits = kind_fits; length_fits = length_fits; parts = parts; short = short; offset_is = refl })))
      | inr long ↦
          begin_value bytes (take len rest) (drop len rest) kind len fit kind_fits length_fits (length-take-le len rest long)
          (parts ∙ ap (λ (z : List ℕ). header kind len ++ z) (sym (take-append-drop len rest)))
    ]

begins : (bytes : List ℕ) → AreOctets bytes → Begin bytes
begins [] fit = Nothing refl
begins (a ∷ []) fit = AFault 0 1 (inl (refl, record { not_empty = omega arith; too_short = omega arith; offset_is = refl }))
begins (a ∷ b ∷ []) fit = AFault 0 1 (inl (refl, record { not_empty = omega arith; too_short = omega arith; offset_is = refl }))
begins (a ∷ b ∷ c ∷ []) fit = AFault 0 1 (inl (refl, record { not_empty = omega arith; too_short = omega arith; offset_is = refl }))
begins (a ∷ b ∷ c ∷ d ∷ rest) fit =
    let kind : ℕ = from_be_bytes w16 (a ∷ b ∷ []) in
    let len : ℕ = from_be_bytes w16 (c ∷ d ∷ []) in
    let parts : a ∷ b ∷ c ∷ d ∷ rest ≡ header kind len ++ rest =
    ap (λ (z : List ℕ). z ++ c ∷ d ∷ rest) (sym (two_bytes a b (fit 0) (fit 1))) ∙ ap (λ (z : List ℕ). (to_be_bytes w16 kind ++ z) ++ rest) (sym (two_bytes c d (fit 2) (fit 3))) in
    begin_header (a ∷ b ∷ c ∷ d ∷ rest) rest kind len fit (two_small a b (fit 0) (fit 1)) (two_small c d (fit 2) (fit 3)) parts

-- ---- the whole

abbrev IsCovered : List ℕ → Type 0
IsCovered bytes = HasTlvs bytes ⊎ ((place why : ℕ) × FirstFault bytes place why)

-- a TLV before bytes that are covered
covered_after : (bytes : List ℕ) (tlv : PlainTlv) (after : ℕ) → IsTlvAt bytes 0 tlv after → IsCovered (drop after bytes) → IsCovered bytes
covered_after bytes tlv after here (inl (tlvs, list)) = inl (tlv ∷ tlvs, (drop after bytes, here.valid, here.spelled, list))
covered_after bytes tlv after here (inr (place, why, f)) =
    inr (
      length (spelling tlv) + place,
      why,
      record {
        tlvs = tlv ∷ f.tlvs;
        front = spelling tlv ++ f.front;
        rest = f.rest;
        offset = f.offset;
        before = (f.front, here.valid, refl, f.before);
        parts = here.spelled ∙ ap (λ (z : List ℕ). spelling tlv ++ z) f.parts ∙ sym (append_assoc (spelling tlv) f.front f.rest);
        fault = f.fault;
        place_is = omega (arith, f.place_is, length-append (spelling tlv) f.front);
      },
    )

covered_within : (fuel : ℕ) (bytes : List ℕ) → length bytes ≤ fuel → AreOctets bytes → IsCovered bytes
covered_within zero [] few fit = inl ([], refl)
covered_within zero (b ∷ bytes) few fit = absurd (omega arith)
covered_within (suc fuel) bytes few fit =
    elim (begins bytes fit) [
      | Nothing none ↦ inl ([], none)
      | ATlv tlv after here ↦
          let less : length (drop after bytes) ≤ fuel = omega (arith, here.ends, length-drop after bytes) in
          covered_after bytes tlv after here (covered_within fuel (drop after bytes) less (λ i. rw (get_or-drop after bytes i 0) (fit (after + i))))
      | AFault offset why fault ↦
          inr (offset, why, record { tlvs = []; front = []; rest = bytes; offset = offset; before = refl; parts = refl; fault = fault; place_is = omega arith })
    ]

pub covered : (bytes : List ℕ) → All IsByte bytes → IsCovered bytes
covered bytes all = covered_within (length bytes) bytes (omega arith) (octets bytes (recursion_from_All IsByte bytes all))
