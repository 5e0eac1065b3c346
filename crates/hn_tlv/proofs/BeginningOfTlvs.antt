-- The one thing that stands at the beginning of some bytes, as a function: nothing, a TLV and what follows it, or a
-- fault. Each relation of the grammar agrees with it, so no two of them hold of the same bytes.
use Rattle.hn_base.proofs.Names.{◌≡◌, ◌≢◌, ℕ, zero, suc, ◌+◌, ◌/◌, ◌%◌, ◌^◌, ◌<◌, cond, ltb, false, true, List, [], ◌∷◌, ◌++◌, length, take, drop, replicate, refl, ap, ◌∙◌, append_assoc, arith, inl}
use Rattle.hn_base.proofs.Names.{inr, w16, from_be_bytes, le-ltb, lt-ltb, take_at, drop_at, from_be_bytes-to_be_bytes_2}
use Rattle.hn_tlv.proofs.Names.{length-append, PlainTlv, IsTlv, padding, header, unpadded, spelling, IsFault}
use Rattle.hn_base.proofs.BeginningOfBytes.{Outcome, Ends, Begins, Faults, IsTold}

-- so many pad bytes have to come, the first of them at this offset
pads : PlainTlv → ℕ → ℕ → List ℕ → Outcome PlainTlv
pads tlv offset zero bytes = Begins tlv bytes
pads tlv offset (suc n) [] = Faults offset 3
pads tlv offset (suc n) (zero ∷ bytes) = pads tlv (suc offset) n bytes
pads tlv offset (suc n) (suc b ∷ bytes) = Faults offset 4

-- a value of this length has to come, and its padding
body : ℕ → ℕ → List ℕ → Outcome PlainTlv
body kind len rest = cond (ltb (length rest) len) (Faults 0 2) (pads (record { kind = kind; value = take len rest }) (4 + len) (padding len) (drop len rest))

pub outcome : List ℕ → Outcome PlainTlv
outcome [] = Ends
outcome (a ∷ []) = Faults 0 1
outcome (a ∷ b ∷ []) = Faults 0 1
outcome (a ∷ b ∷ c ∷ []) = Faults 0 1
outcome (a ∷ b ∷ c ∷ d ∷ rest) = body (from_be_bytes w16 (a ∷ b ∷ [])) (from_be_bytes w16 (c ∷ d ∷ [])) rest

-- ---- padding

pads_zeros : (tlv : PlainTlv) (offset n : ℕ) (rest : List ℕ) → pads tlv offset n (replicate n 0 ++ rest) ≡ Begins tlv rest
unfolding pads
pads_zeros tlv offset zero rest = refl
pads_zeros tlv offset (suc n) rest = pads_zeros tlv (suc offset) n rest

pads_cut : (tlv : PlainTlv) (offset n k : ℕ) → k < n → pads tlv offset n (replicate k 0) ≡ Faults (offset + k) 3
unfolding pads
pads_cut tlv offset zero k lt = absurd (omega arith)
pads_cut tlv offset (suc n) zero lt = ap (λ o. Faults o 3) (omega arith)
pads_cut tlv offset (suc n) (suc k) lt =
    let less : k < n = omega arith in
    let moved : suc offset + k ≡ offset + suc k = omega arith in
    pads_cut tlv (suc offset) n k less ∙ ap (λ o. Faults o 3) moved

pads_not_zero : (tlv : PlainTlv) (offset n k b : ℕ) (rest : List ℕ) → k < n → b ≢ 0 → pads tlv offset n (replicate k 0 ++ b ∷ rest) ≡ Faults (offset + k) 4
unfolding pads
pads_not_zero tlv offset zero k b rest lt ne = absurd (omega arith)
pads_not_zero tlv offset (suc n) zero zero rest lt ne = absurd (ne refl)
pads_not_zero tlv offset (suc n) zero (suc b) rest lt ne = ap (λ o. Faults o 4) (omega arith)
pads_not_zero tlv offset (suc n) (suc k) b rest lt ne =
    let less : k < n = omega arith in
    let moved : suc offset + k ≡ offset + suc k = omega arith in
    pads_not_zero tlv (suc offset) n k b rest less ne ∙ ap (λ o. Faults o 4) moved

-- ---- type, length and value

outcome_header : (kind len : ℕ) (rest : List ℕ) → kind < 2 ^ 16 → len < 2 ^ 16 → outcome (header kind len ++ rest) ≡ body kind len rest
unfolding outcome
outcome_header kind len rest kind_fits length_fits =
    ap (λ k. body k (from_be_bytes w16 (len / 256 % 256 ∷ len % 256 ∷ [])) rest) (from_be_bytes-to_be_bytes_2 kind kind_fits)
    ∙ ap (λ l. body kind l rest) (from_be_bytes-to_be_bytes_2 len length_fits)

body_value : (tlv : PlainTlv) (rest : List ℕ) → body tlv.kind (length tlv.value) (tlv.value ++ rest) ≡ pads tlv (4 + length tlv.value) (padding (length tlv.value)) rest
unfolding body
body_value tlv rest =
    let long : ltb (length (tlv.value ++ rest)) (length tlv.value) ≡ false = le-ltb _ _ (omega (arith, length-append tlv.value rest)) in
    rw (long, take_at tlv.value rest (length tlv.value) refl, drop_at tlv.value rest (length tlv.value) refl) refl

outcome_unpadded : (tlv : PlainTlv) (rest : List ℕ) → IsTlv tlv → outcome (unpadded tlv ++ rest) ≡ pads tlv (4 + length tlv.value) (padding (length tlv.value)) rest
outcome_unpadded tlv rest valid = outcome_header tlv.kind (length tlv.value) (tlv.value ++ rest) valid.kind_fits valid.length_fits ∙ body_value tlv rest

-- ---- the three things

outcome_nothing : outcome [] ≡ Ends
unfolding outcome
outcome_nothing = refl

outcome_spelling : (tlv : PlainTlv) (rest : List ℕ) → IsTlv tlv → outcome (spelling tlv ++ rest) ≡ Begins tlv rest
outcome_spelling tlv rest valid =
    ap outcome (append_assoc (unpadded tlv) (replicate (padding (length tlv.value)) 0) rest)
    ∙ outcome_unpadded tlv (replicate (padding (length tlv.value)) 0 ++ rest) valid
    ∙ pads_zeros tlv (4 + length tlv.value) (padding (length tlv.value)) rest

outcome_short : (bytes : List ℕ) → 0 < length bytes → length bytes < 4 → outcome bytes ≡ Faults 0 1
unfolding outcome
outcome_short [] some few = absurd (omega arith)
outcome_short (a ∷ []) some few = refl
outcome_short (a ∷ b ∷ []) some few = refl
outcome_short (a ∷ b ∷ c ∷ []) some few = refl
outcome_short (a ∷ b ∷ c ∷ d ∷ rest) some few = absurd (omega arith)

body_short : (kind len : ℕ) (rest : List ℕ) → length rest < len → body kind len rest ≡ Faults 0 2
unfolding body
body_short kind len rest short = let yes : ltb (length rest) len ≡ true = lt-ltb _ _ short in rw yes refl

at_offset : (bytes : List ℕ) (o p why : ℕ) → outcome bytes ≡ Faults o why → p ≡ o → outcome bytes ≡ Faults p why
at_offset bytes o p why e same = rw same e

outcome_fault : (bytes : List ℕ) (offset why : ℕ) → IsFault bytes offset why → outcome bytes ≡ Faults offset why
outcome_fault bytes offset why (inl f) = rw (f.0, f.1.offset_is) (outcome_short bytes f.1.not_empty f.1.too_short)
outcome_fault bytes offset why (inr (inl f)) =
    let h = f.1 in
    rw (f.0, h.offset_is) (ap outcome h.parts ∙ outcome_header h.kind h.len h.rest h.kind_fits h.length_fits ∙ body_short h.kind h.len h.rest h.short)
outcome_fault bytes offset why (inr (inr (inl f))) =
    let h = f.1 in
    let len : length (unpadded h.tlv) ≡ 4 + length h.tlv.value = omega arith in
    rw (f.0, h.offset_is, len) (ap outcome h.parts ∙ outcome_unpadded h.tlv (replicate h.zeros 0) h.valid
    ∙ pads_cut h.tlv (4 + length h.tlv.value) (padding (length h.tlv.value)) h.zeros h.within_padding)
outcome_fault bytes offset why (inr (inr (inr f))) =
    let h = f.1 in
    let len : length (unpadded h.tlv) ≡ 4 + length h.tlv.value = omega arith in
    let parts : bytes ≡ unpadded h.tlv ++ (replicate h.zeros 0 ++ h.byte ∷ h.rest) = h.parts ∙ append_assoc (unpadded h.tlv) (replicate h.zeros 0) (h.byte ∷ h.rest) in
    rw (f.0, h.offset_is, len) (ap outcome parts ∙ outcome_unpadded h.tlv (replicate h.zeros 0 ++ h.byte ∷ h.rest) h.valid
    ∙ pads_not_zero h.tlv (4 + length h.tlv.value) (padding (length h.tlv.value)) h.zeros h.byte h.rest h.within_padding h.not_zero)

pub tlv_told : IsTold spelling IsTlv IsFault outcome
tlv_told = record { nothing = outcome_nothing; begins = outcome_spelling; faults = outcome_fault }
