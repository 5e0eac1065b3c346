-- What is printed in hexadecimal is read again.
use Rattle.hn_base.proofs.Names.{◌≡◌, ℕ, suc, ◌+◌, ◌*◌, ◌/◌, ◌%◌, ◌^◌, ◌<◌, ◌≤◌, List, [], ◌∷◌, slice_index, Some, refl, ap, ◌∙◌, arith, nat_tests, from_be_bytes-to_be_bytes_4, digit_value, w32}
use Rattle.hn_base.proofs.Names.{to_be_bytes, from_be_bytes, byte_at, AllDigits, digits_value, digits_value_after, IsIdText, id_text}
use Rattle.hn_script.proofs.Names.{IsBytes, lower_digits}
use Rattle.hex.specs.Hex.{encode_lower, encode_with, hex_digit_value}
use Rattle.hex.proofs.HexLemmas.{IsDigits-lower_digits}
use Rattle.hn_base.proofs.BigEndian.{byte_small, octets, high_bytes}
use Rattle.hn_script.proofs.WordBytes.{IsWordByte, IsWord}

digit_from_hex : (c d : ℕ) → hex_digit_value c ≡ Some d → digit_value c ≡ d
digit_from_hex c d h = grind (arith, nat_tests)

hex_digit : (d : ℕ) → d < 16 → digit_value (slice_index lower_digits d) ≡ d
hex_digit d lt = digit_from_hex (slice_index lower_digits d) d (IsDigits-lower_digits d lt)

-- one byte more
next_byte : (n b : ℕ) (rest : List ℕ) → b < 256
    → digits_value_after 16 n (encode_lower (b ∷ rest)) ≡ digits_value_after 16 (n * 256 + b) (encode_lower rest)
unfolding encode_with
next_byte n b rest lt =
    let high = hex_digit (b / 16) (omega arith) in
    let low = hex_digit (b % 16) (omega arith) in
    let value : (n * 16 + digit_value (slice_index lower_digits (b / 16))) * 16 + digit_value (slice_index lower_digits (b % 16)) ≡ n * 256 + b = omega (arith, high, low) in
    ap (λ m. digits_value_after 16 m (encode_lower rest)) value

no_bytes : (n : ℕ) → digits_value_after 16 n (encode_lower []) ≡ n
unfolding encode_with
no_bytes n = refl

four_bytes : (a b c d : ℕ) → a < 256 → b < 256 → c < 256 → d < 256
    → digits_value 16 (encode_lower (a ∷ b ∷ c ∷ d ∷ [])) ≡ from_be_bytes w32 (a ∷ b ∷ c ∷ d ∷ [])
four_bytes a b c d ha hb hc hd =
    next_byte 0 a (b ∷ c ∷ d ∷ []) ha ∙ next_byte _ b (c ∷ d ∷ []) hb ∙ next_byte _ c (d ∷ []) hc ∙ next_byte _ d [] hd ∙ no_bytes _ ∙ omega arith

hex_digits : (bytes : List ℕ) → IsBytes bytes → AllDigits 16 (encode_lower bytes)
unfolding encode_with
hex_digits [] h = tt
hex_digits (b ∷ bytes) h =
    let fits : b < 256 = h 0 in
    let high = hex_digit (b / 16) (omega arith) in
    let low = hex_digit (b % 16) (omega arith) in
    (rw high (omega arith), (rw low (omega arith), hex_digits bytes (λ i. h (suc i))))

pub printed_id : (id : ℕ) → id < 2 ^ 32 → IsIdText (id_text id) id
unfolding encode_with
printed_id id fits =
    let value = four_bytes (byte_at 3 id) (byte_at 2 id) (byte_at 1 id) (byte_at 0 id)
    (byte_small 3 id) (byte_small 2 id) (byte_small 1 id) (byte_small 0 id) in record {
      eight = refl;
      numeral = record {
        digits = (omega arith, hex_digits (to_be_bytes w32 id) (octets (to_be_bytes w32 id) (high_bytes 4 id)));
        short = omega arith;
        value = value ∙ from_be_bytes-to_be_bytes_4 id fits;
      };
    }

above_digit : (base c : ℕ) → base ≤ 16 → digit_value c < base → IsWordByte c
above_digit base c small h = grind (arith, nat_tests)

pub IsWord-digits : (base : ℕ) (text : List ℕ) → base ≤ 16 → AllDigits base text → IsWord text
IsWord-digits base [] small h = tt
IsWord-digits base (c ∷ text) small h = (above_digit base c small h.0, IsWord-digits base text small h.1)

pub IsWord-hex : (bytes : List ℕ) → IsBytes bytes → IsWord (encode_lower bytes)
IsWord-hex bytes h = IsWord-digits 16 (encode_lower bytes) (omega arith) (hex_digits bytes h)
