use Rattle.std.specs.Prelude.{◌≡◌, ℕ, ◌-◌, ◌<◌, ◌≤◌, Bool, ◌||◌, ◌==◌, List, length, take, drop, slice_index, IsTrue, replicate}
use Rattle.std.specs.List.{list_all}
use Rattle.std.specs.Char.{is_ascii_alphabetic, is_ascii_alphanumeric}

-- a letter, a digit, `_` or `-`
abbrev pub is_name_byte : ℕ → Bool
is_name_byte c = is_ascii_alphanumeric c || c == 95 || c == 45

-- the text of a name: 1 to 16 such bytes, the first of them a letter
pub record IsNameText (text : List ℕ) : Type 0 where
  pub not_empty : 0 < length text
  pub short : length text ≤ 16
  pub letter_first : IsTrue (is_ascii_alphabetic (slice_index text 0))
  pub name_bytes : IsTrue (list_all is_name_byte text)

-- the text that a name keeps at the start of its bytes
abbrev pub first_bytes : ℕ → List ℕ → List ℕ
first_bytes len bytes = take len bytes

-- nothing but zeros after the text
abbrev pub IsPadded : ℕ → List ℕ → Type 0
IsPadded len bytes = drop len bytes ≡ replicate (16 - len) 0
