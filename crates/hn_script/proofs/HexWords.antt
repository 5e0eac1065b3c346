-- Words in hexadecimal.
use Rattle.hn_base.proofs.Names.{◌≡◌, ◌≢◌, ℕ, ◌%◌, ◌<◌, Bool, true, false, List, [], ◌∷◌, length, codes, Ok, MatchBool, refl, sym, ap, ◌∙◌, arith, and_parts, false≢true, nat_tests, All-cons, All-head}
use Rattle.hn_base.proofs.Names.{All-nil, All-tail, list_all}
use Rattle.hn_script.proofs.Names.{decode_of, decode_of-ok, IsHexWord}
use Rattle.std.specs.Char.{is_ascii_hexdigit}
use Rattle.std.specs.List.{AllPass}
use Rattle.hex.specs.Hex.{is_hex_digit}
use Rattle.hex.proofs.HexLemmas.{decode_of-digits}

same_digit : (c : ℕ) → is_ascii_hexdigit c ≡ is_hex_digit c
same_digit c = grind (arith, nat_tests)

abbrev IsDigit : ℕ → Type 0
IsDigit c = is_hex_digit c ≡ true

all_pass : (word : List ℕ) → list_all is_ascii_hexdigit word ≡ true → AllPass is_hex_digit word
all_pass [] h = All-nil IsDigit
all_pass (c ∷ word) h =
    let parts = and_parts (is_ascii_hexdigit c) (list_all is_ascii_hexdigit word) h in
    All-cons IsDigit c word (sym (same_digit c) ∙ parts.0) (all_pass word parts.1)

all_digits : (word : List ℕ) → AllPass is_hex_digit word → list_all is_ascii_hexdigit word ≡ true
all_digits [] h = refl
all_digits (c ∷ word) h =
    rw (same_digit c ∙ All-head IsDigit c word h) (all_digits word (All-tail IsDigit c word h))

-- digits of an even count write bytes
digits_decode : (word : List ℕ) → length word % 2 ≡ 0 → list_all is_ascii_hexdigit word ≡ true → (bytes : List ℕ) × (decode_of word ≡ Ok bytes)
digits_decode word even h = decode_of-digits word even (all_pass word h)

-- what decodes has an even count of digits
pub even_digits : (word bytes : List ℕ) → decode_of word ≡ Ok bytes → length word % 2 ≡ 0
even_digits word bytes h = (decode_of-ok word bytes h).0

all_digits_of : (word bytes : List ℕ) → decode_of word ≡ Ok bytes → list_all is_ascii_hexdigit word ≡ true
all_digits_of word bytes h = all_digits word (decode_of-ok word bytes h).1

-- some digits write some bytes
pub some_hex_word : (bytes word : List ℕ) → 0 < length word → decode_of word ≡ Ok bytes → IsHexWord bytes word
some_hex_word [] word some h = let long = (decode_of-ok word [] h).2 in absurd (omega (arith, long))
some_hex_word (byte ∷ bytes) word some h = h

-- a word that is not `-` and does not decode writes no bytes
pub no_hex_word : (bytes word : List ℕ) → word ≢ codes "-" → ((found : List ℕ) → decode_of word ≢ Ok found) → ¬ IsHexWord bytes word
no_hex_word [] word other none h = other h
no_hex_word (byte ∷ bytes) word other none h = none (byte ∷ bytes) h

-- whether digits of an even count are all hexadecimal is whether they decode
pub hex_cases : (b : Bool) (word : List ℕ) → length word % 2 ≡ 0 → b ≡ list_all is_ascii_hexdigit word
    → MatchBool b ((bytes : List ℕ) × (decode_of word ≡ Ok bytes)) ((bytes : List ℕ) → decode_of word ≢ Ok bytes)
hex_cases true word even h = digits_decode word even (sym h)
hex_cases false word even h = λ bytes found. false≢true (h ∙ all_digits_of word bytes found)

-- no bytes write no bytes: those that write them are `-`
pub no_empty_hex_word : (bytes word : List ℕ) → length word ≡ 0 → ¬ IsHexWord bytes word
no_empty_hex_word [] word empty h = let one : length word ≡ 1 = ap length h in omega arith
no_empty_hex_word (byte ∷ bytes) word empty h = omega (arith, (decode_of-ok word (byte ∷ bytes) h).2)
