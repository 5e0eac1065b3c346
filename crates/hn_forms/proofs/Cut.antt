-- What was written of a datagram's text before it was cut.
use Rattle.hn_base.proofs.Names.{◌≡◌, ◌∙◌, ◌<◌, arith, Result, Ok, Err, ℕ, List, [], ◌∷◌, ◌++◌, Option, length, ap, sym, refl, subst, append_assoc, lit<, zero, suc, ◌⊎◌, ⊎_elim, inl, inr, IfErr}
use Rattle.hn_base.proofs.Names.{Appends}
use Rattle.hn_forms.proofs.Names.{Contains, IoFault, Failed, NoMemory, tlvs_line, IsTextTo, PiecesAppend, AppendsCut, written_status}
use Rattle.std.proofs.Common.{OnOk}
use Rattle.hn_tlv.specs.Grammar.{PlainTlv, IsTlvList}
use Rattle.hn_decode.specs.Nested.{IsDecodeText}
use Rattle.hn_decode.specs.Laws.{LinesGoOn}
use Rattle.hn_forms.proofs.Streams.{AppendsCut-more}
use Rattle.std.proofs.KnownBytes.{Appends-nil}

-- the bytes are a list of so many TLVs
abbrev pub AreSoMany : List ℕ → ℕ → Type 0
AreSoMany bytes count = (tlvs : List PlainTlv) × IsTlvList tlvs bytes × (length tlvs ≡ count)

goes_on : LinesGoOn → (bytes lines : List ℕ) (at count : ℕ) → AreSoMany bytes count → IsTextTo bytes at lines → (rest : List ℕ) × IsDecodeText bytes (tlvs_line count ++ (lines ++ rest))
goes_on law bytes lines at count many so_far =
    let told = law bytes lines at many.0 many.1 so_far in
    let Told : ℕ → Type 0 = λ n. IsDecodeText bytes (tlvs_line n ++ (lines ++ told.0)) in
    (told.0, subst Told many.2 told.1)

-- the writing was cut in the lines of the next TLV
pub cut_among_lines : PiecesAppend → LinesGoOn → (bytes lines : List ℕ) (at count : ℕ) → AreSoMany bytes count → IsTextTo bytes at lines
    → (fault : IoFault) (a b c : Option (List ℕ)) → Appends a b (tlvs_line count ++ lines)
    → (after : ℕ) × (more : List ℕ) × ((lines : List ℕ) → IsTextTo bytes at lines → IsTextTo bytes after (lines ++ more)) × AppendsCut fault b c more
    → (text : List ℕ) × IsDecodeText bytes text × AppendsCut fault a c text
cut_among_lines append law bytes lines at count many so_far fault a b c written cut =
    let front = tlvs_line count in
    let more = cut.1 in
    let told = goes_on law bytes (lines ++ more) cut.0 count many (cut.2 lines so_far) in
    let rest = told.0 in
    let parts : front ++ ((lines ++ more) ++ rest) ≡ (front ++ lines) ++ (more ++ rest) =
    ap (λ xs. front ++ xs) (append_assoc lines more rest) ∙ sym (append_assoc front lines (more ++ rest)) in
    (front ++ ((lines ++ more) ++ rest), told.1, AppendsCut-more append fault a b c (front ++ lines) more rest _ written cut.3 parts)

-- the writing was cut in the first line
pub cut_in_first_line : PiecesAppend → LinesGoOn → (bytes : List ℕ) (count : ℕ) → AreSoMany bytes count → IsTextTo bytes 0 []
    → (fault : IoFault) (a b : Option (List ℕ)) → AppendsCut fault a b (tlvs_line count)
    → (text : List ℕ) × IsDecodeText bytes text × AppendsCut fault a b text
cut_in_first_line append law bytes count many begins fault a b cut =
    let told = goes_on law bytes [] 0 count many begins in
    (tlvs_line count ++ told.0, told.1, AppendsCut-more append fault a a b [] (tlvs_line count) told.0 _ (Appends-nil a) cut refl)

-- what holds after a fault holds with its status
pub broken_of_written : (written : Result (Unit {0}) IoFault) (whole : ℕ) (P : IoFault → Type 0) → whole < 3 → IfErr written P → written_status written whole ≡ 4 → P Failed
broken_of_written (Ok _) whole P small cut status = absurd (omega arith)
broken_of_written (Err Failed) whole P small cut status = cut
broken_of_written (Err NoMemory) whole P small cut status = absurd (omega arith)

pub starved_of_written : (written : Result (Unit {0}) IoFault) (whole : ℕ) (P : IoFault → Type 0) → whole < 3 → IfErr written P → written_status written whole ≡ 6 → P NoMemory
starved_of_written (Ok _) whole P small cut status = absurd (omega arith)
starved_of_written (Err Failed) whole P small cut status = absurd (omega arith)
starved_of_written (Err NoMemory) whole P small cut status = cut

-- the statuses of a text that is refused
pub written_statuses : (written : Result (Unit {0}) IoFault) → Contains (0 ∷ 2 ∷ 4 ∷ 6 ∷ []) (written_status written 2)
written_statuses (Ok _) = (1, lit< tt, refl)
written_statuses (Err Failed) = (2, lit< tt, refl)
written_statuses (Err NoMemory) = (3, lit< tt, refl)

-- a text of which no fault came was written whole
pub written_whole : (written : Result (Unit {0}) IoFault) (whole : ℕ) (P : Type 0) → OnOk written P → (written_status written whole ≡ 0)
    ⊎ (written_status written whole ≡ 2) → (written_status written whole ≡ whole) × P
written_whole (Ok _) whole P holds status = (refl, holds)
written_whole (Err Failed) whole P holds status = absurd (⊎_elim (λ zero. omega arith) (λ two. omega arith) status)
written_whole (Err NoMemory) whole P holds status = absurd (⊎_elim (λ zero. omega arith) (λ two. omega arith) status)

-- of these statuses 0 or 2 is 0
pub done_of : (status : ℕ) → Contains (0 ∷ 4 ∷ 6 ∷ []) status → (status ≡ 0) ⊎ (status ≡ 2) → status ≡ 0
done_of status among (inl done) = done
done_of status (zero, within, is) (inr two) = sym is
done_of status (suc zero, within, is) (inr two) = absurd (omega arith)
done_of status (suc (suc zero), within, is) (inr two) = absurd (omega arith)
done_of status (suc (suc (suc k)), within, is) (inr two) = absurd (omega arith)
