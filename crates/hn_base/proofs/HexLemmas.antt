-- Bytes in hexadecimal, one after the other.
use Rattle.hn_base.proofs.Names.{◌≡◌, ℕ, ◌/◌, ◌%◌, ◌<◌, List, [], ◌∷◌, ◌++◌, length, refl, sym, ap, subst, ◌∙◌, arith, HasWritten, IsPlainFormatter, IsUtf8, has_written_append, IsUtf8-from_ascii}
use Rattle.hn_base.proofs.Names.{hex_text}
use Rattle.hn_base.proofs.Names.{encode_lower}
use Rattle.std.specs.Prelude.{slice_index}
use Rattle.std.specs.declared.fmt.Formatter.{Formatter}
use Rattle.std.proofs.Output.{writes_in_calls_nil}
use Rattle.hex.specs.Hex.{encode_with, lower_digits}
use Rattle.hex.proofs.HexLemmas.{IsAscii-encode_with}
use Rattle.hn_base.proofs.NameBytes.{IsAscii-from_name_bytes}

pub encode_lower-append : (xs ys : List ℕ) → encode_lower (xs ++ ys) ≡ encode_lower xs ++ encode_lower ys
unfolding encode_with
encode_lower-append [] ys = refl
encode_lower-append (x ∷ xs) ys = ap (λ t. slice_index lower_digits (x / 16) ∷ slice_index lower_digits (x % 16) ∷ t) (encode_lower-append xs ys)

-- some bytes, not none
pub hex_text-some : (bytes : List ℕ) → 0 < length bytes → hex_text bytes ≡ encode_lower bytes
hex_text-some [] some = absurd (omega arith)
hex_text-some (b ∷ bytes) some = refl

-- digits are text
pub IsUtf8-encode_lower : (bytes : List ℕ) → IsUtf8 (encode_lower bytes)
IsUtf8-encode_lower bytes = IsUtf8-from_ascii (encode_lower bytes) (IsAscii-encode_with lower_digits bytes (IsAscii-from_name_bytes lower_digits refl))

-- ---- digits that are written in several calls

encode_lower-nil : encode_lower [] ≡ []
unfolding encode_with
encode_lower-nil = refl

module _ {W : Type 0} (took : W → List ℕ → W → Type 0) where
  pub digits_none : (f : Formatter W) → IsPlainFormatter f → HasWritten took f (encode_lower []) f
  digits_none f plain = subst (λ t. HasWritten took f t f) (sym encode_lower-nil) (record { wrote = writes_in_calls_nil took f.writer; plain = plain })

  pub digits_more : (f g h : Formatter W) (front more all : List ℕ) → all ≡ front ++ more → HasWritten took f (encode_lower front) g
      → HasWritten took g (encode_lower more) h → HasWritten took f (encode_lower all) h
  digits_more f g h front more all parts written then =
      subst (λ t. HasWritten took f t h) (sym (ap encode_lower parts ∙ encode_lower-append front more)) (has_written_append took f (encode_lower front) g (encode_lower more) h written then)
