-- Hexadecimal text, between whose digits blanks stand.
use Rattle.std.specs.Prelude.{◌≡◌, ℕ, Bool, true, false, not, ◌==◌, ◌||◌, List, Ok, IsErr, filter}
use Rattle.hex.specs.Hex.{decode_of}
use Rattle.hex.specs.declared.error.FromHexError.{FromHexError}
use Rattle.hex.specs.declared.error.FromHexError.TheVariants.{OutOfMemory}

-- a space or LF
abbrev pub is_blank : ℕ → Bool
is_blank byte = byte == 32 || byte == 10

-- a text without its blanks
abbrev pub unblanked : List ℕ → List ℕ
unblanked text = filter (λ byte. not (is_blank byte)) text

-- hexadecimal digits of either case, between which blanks stand anywhere, that write these octets
abbrev pub IsHexText : List ℕ → List ℕ → Type 0
IsHexText text octets = decode_of (unblanked text) ≡ Ok octets

-- another byte, or an odd number of digits
abbrev pub IsNoHexText : List ℕ → Type 0
IsNoHexText text = IsErr (decode_of (unblanked text))

-- memory ended before the text was decoded
abbrev pub is_out_of_memory : FromHexError → Bool
is_out_of_memory OutOfMemory = true
is_out_of_memory _ = false
