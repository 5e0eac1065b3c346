-- What a text is whose first TLV was taken apart.
use Rattle.hn_base.proofs.Names.{◌≡◌, ℕ, ◌+◌, ◌^◌, ◌<◌, List, [], ◌∷◌, ◌++◌, length, get_or, drop, replicate, sym, ap, subst, ◌∙◌, append_assoc, arith, inl, inr, get_or_default, get_or_append_left}
use Rattle.hn_base.proofs.Names.{get_or-append-add}
use Rattle.hn_tlv.proofs.Names.{PlainTlv, IsTlv, padding, tlv_size, header, unpadded, spelling, IsTlvAt, IsFault, IsPaddingFault, AreOctets}
use Rattle.hn_tlv.proofs.TlvAtPlace.{read_again}

-- type, length and value, as they were read, are those of a TLV
pub record IsSplit (bytes : List ℕ) (tlv : PlainTlv) (rest : List ℕ) : Type 0 where
  pub valid : IsTlv tlv
  pub parts : bytes ≡ unpadded tlv ++ rest

value_byte : (bytes value rest : List ℕ) (kind len : ℕ) → AreOctets bytes → bytes ≡ header kind len ++ (value ++ rest) → (k : ℕ) → k < length value → get_or value k 0 < 2 ^ 8
value_byte bytes value rest kind len fit parts k lt =
    let front : List ℕ = header kind len in
    let in_bytes : get_or bytes (length front + k) 0 ≡ get_or value k 0 =
    ap (λ (z : List ℕ). get_or z (length front + k) 0) parts ∙ get_or-append-add front (value ++ rest) k 0 ∙ get_or_append_left value rest 0 k lt in
    omega (arith, in_bytes, fit (length front + k))

pub is_split : (bytes value rest : List ℕ) (kind len : ℕ) → AreOctets bytes → kind < 2 ^ 16 → len < 2 ^ 16 → length value ≡ len
    → bytes ≡ header kind len ++ (value ++ rest) → IsSplit bytes (record { kind = kind; value = value }) rest
is_split bytes value rest kind len fit kind_fits length_fits value_len parts = record {
  valid = record {
    kind_fits = kind_fits;
    length_fits = omega arith;
    bytes = λ k d lt. rw (get_or_default value k d 0 lt) (value_byte bytes value rest kind len fit parts k lt);
  };
  parts = parts ∙ ap (λ n. header kind n ++ (value ++ rest)) (sym value_len);
}

pub faulty_padding : (bytes : List ℕ) (tlv : PlainTlv) (rest : List ℕ) (offset why : ℕ) → IsSplit bytes tlv rest
    → IsPaddingFault (padding (length tlv.value)) rest offset why → IsFault bytes (4 + length tlv.value + offset) why
faulty_padding bytes tlv rest offset why split (few, inl f) = inr (inr (inl (
  f.0,
  record {
    tlv = tlv;
    zeros = offset;
    valid = split.valid;
    within_padding = few;
    parts = split.parts ∙ ap (λ (z : List ℕ). unpadded tlv ++ z) f.1;
    offset_is = omega arith;
  },
)))
faulty_padding bytes tlv rest offset why split (few, inr f) = inr (inr (inr (
  f.0,
  record {
    tlv = tlv;
    zeros = offset;
    byte = f.1.byte;
    rest = f.1.rest;
    valid = split.valid;
    within_padding = few;
    parts = split.parts ∙ ap (λ (z : List ℕ). unpadded tlv ++ z) f.1.parts ∙ sym (append_assoc (unpadded tlv) (replicate offset 0) (f.1.byte ∷ f.1.rest));
    not_zero = f.1.not_zero;
    offset_is = omega arith;
  },
)))

pub whole_tlv : (bytes : List ℕ) (tlv : PlainTlv) (rest : List ℕ) (after : ℕ) → IsSplit bytes tlv rest → after ≡ tlv_size (length tlv.value)
    → rest ≡ replicate (padding (length tlv.value)) 0 ++ drop (padding (length tlv.value)) rest → IsTlvAt bytes 0 tlv after
whole_tlv bytes tlv rest after split ends zeros =
    let x : List ℕ = drop (padding (length tlv.value)) rest in
    let spelled : bytes ≡ spelling tlv ++ x = split.parts ∙ ap (λ (z : List ℕ). unpadded tlv ++ z) zeros ∙ sym (append_assoc (unpadded tlv) (replicate (padding (length tlv.value)) 0) x) in
    let same : 0 + tlv_size (length tlv.value) ≡ after = omega arith in
    subst (λ (a : ℕ). IsTlvAt bytes 0 tlv a) same (subst (λ (b : List ℕ). IsTlvAt b 0 tlv (0 + tlv_size (length tlv.value))) (sym spelled) (read_again tlv [] x split.valid))
