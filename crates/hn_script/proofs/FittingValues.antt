-- The values of the lines of a script fit.
use Rattle.hn_base.proofs.Names.{◌≡◌, ◌+◌, ◌<◌, ◌^◌, ℕ, List, [], ◌∷◌, ◌∙◌, get_or, Option, Some, None, sym, subst, arith, All, AllZip, AllByRecursion, All-nil, same_Some, slice_get-get_or, IsByte}
use Rattle.hn_base.proofs.Names.{IsIdText}
use Rattle.hn_script.proofs.Names.{IsBytes, decode_of-ok, Version, IsEntry, numbered, IsField, IsHexWord, Length, Gives, line_spelling, of_version, words_of, Line, Router, Attach, External, Private}
use Rattle.hn_script.proofs.Names.{Inject}
use Rattle.hn_base.proofs.Elements.{all_of}
use Rattle.hn_base.proofs.NumeralLemmas.{digits_below}
use Rattle.hn_script.specs.Laws.{HasFittingValues, IsPrivateLink, ValuesFit}

-- ---- a value

-- eight hexadecimal digits write a number of 32 bits
id_fits : (word : List ℕ) (id : ℕ) → IsIdText word id → id < 2 ^ 32
id_fits word id text = subst (λ (n : ℕ). n < 2 ^ 32) text.numeral.value (digits_below 16 word 8 (omega arith) text.numeral.short text.numeral.digits.1)

-- two of them write a byte
each_is_byte : (bytes : List ℕ) → IsBytes bytes → All IsByte bytes
each_is_byte bytes are = all_of IsByte bytes (λ x there.
    let same : get_or bytes there.0 x ≡ get_or bytes there.0 0 =
    same_Some (get_or bytes there.0 x) (get_or bytes there.0 0) (sym (slice_get-get_or bytes there.0 x there.1) ∙ slice_get-get_or bytes there.0 0 there.1) in
    subst IsByte (sym same ∙ there.2) (are there.0))

bytes_fit : (bytes word : List ℕ) → IsHexWord bytes word → All IsByte bytes
bytes_fit [] word writes = All-nil IsByte
bytes_fit (byte ∷ bytes) word writes = each_is_byte (byte ∷ bytes) (decode_of-ok word (byte ∷ bytes) writes).3

length_fits : (bits : Option ℕ) (word : List ℕ) → IsField (Length bits) word → IsPrivateLink bits
length_fits None word writes = tt
length_fits (Some bits) word writes = (writes.low, writes.high)

-- ---- a line

fitting_fields : (line : Line) (words : List (List ℕ)) → AllZip IsField (line_spelling line).fields words → HasFittingValues line
fitting_fields (Router name id) [] zip = absurd zip
fitting_fields (Router name id) (a ∷ []) zip = absurd zip.1
fitting_fields (Router name id) (a ∷ b ∷ words) zip = id_fits b id.0 zip.1.0
fitting_fields (Attach name e link) [] zip = absurd zip
fitting_fields (Attach name e link) (a ∷ []) zip = absurd zip.1
fitting_fields (Attach name e link) (a ∷ b ∷ words) zip = let high = zip.1.0.high in omega (arith, high)
fitting_fields (External name prefix valid preferred) [] zip = absurd zip
fitting_fields (External name prefix valid preferred) (a ∷ []) zip = absurd zip.1
fitting_fields (External name prefix valid preferred) (a ∷ b ∷ []) zip = absurd zip.1.1
fitting_fields (External name prefix valid preferred) (a ∷ b ∷ c ∷ []) zip = absurd zip.1.1.1
fitting_fields (External name prefix valid preferred) (a ∷ b ∷ c ∷ d ∷ words) zip =
    let most = zip.1.1.0.high in
    let less = zip.1.1.1.0.high in
    (zip.1.0.prefix, omega (arith, most), omega (arith, most, less))
fitting_fields (Private name bits) [] zip = absurd zip
fitting_fields (Private name bits) (a ∷ []) zip = absurd zip.1
fitting_fields (Private name bits) (a ∷ b ∷ words) zip = length_fits bits b zip.1.0
fitting_fields (Inject name e how bytes) [] zip = absurd zip
fitting_fields (Inject name e how bytes) (a ∷ []) zip = absurd zip.1
fitting_fields (Inject name e how bytes) (a ∷ b ∷ []) zip = absurd zip.1.1
fitting_fields (Inject name e how bytes) (a ∷ b ∷ c ∷ []) zip = absurd zip.1.1.1
fitting_fields (Inject name e how bytes) (a ∷ b ∷ c ∷ d ∷ words) zip = bytes_fit bytes d zip.1.1.1.0
fitting_fields _ words zip = tt

spelled_fits : (version : Version) (line : Line) (words : List (List ℕ)) → Gives (of_version version) (Some line) words → HasFittingValues line
spelled_fits version line [] gives = absurd gives.0
spelled_fits version line (word ∷ words) gives = fitting_fields line words gives.0.2

-- ---- each line of a script

each_fits : (version : Version) (n : ℕ) (entries : List (Option Line)) (texts : List (List ℕ)) → AllZip (IsEntry (of_version version)) entries texts
    → AllByRecursion (λ line. HasFittingValues line.1) (numbered n entries)
each_fits version n [] texts zip = tt
each_fits version n (None ∷ entries) [] zip = absurd zip
each_fits version n (Some line ∷ entries) [] zip = absurd zip
each_fits version n (None ∷ entries) (text ∷ texts) zip = each_fits version (n + 1) entries texts zip.1
each_fits version n (Some line ∷ entries) (text ∷ texts) zip =
    (spelled_fits version line (words_of text) zip.0.gives, each_fits version (n + 1) entries texts zip.1)

pub fitting_values : ValuesFit
fitting_values bytes script h =
    subst (λ lines. AllByRecursion (λ line. HasFittingValues line.1) lines) (sym h.lines.2) (each_fits script.version 2 h.lines.0 h.texts h.lines.1)
