-- A script in lines, and a line in words.
use Rattle.std.specs.Prelude.{ℕ, ◌==◌, Bool, true, false, List, [], ◌∷◌, filter}
use Rattle.std.specs.List.{slice_split}

-- what stands between two words
abbrev pub space : ℕ
space = 32

-- what ends a line
abbrev pub line_feed : ℕ
line_feed = 10

-- the pieces of a text between the bytes of a kind: one more than the text has of these bytes
abbrev pub pieces : ℕ → List ℕ → List (List ℕ)
pieces byte text = slice_split (λ c. c == byte) text

-- whether a text has a byte
abbrev pub is_some_text : List ℕ → Bool
is_some_text [] = false
is_some_text (c ∷ text) = true

-- the words of a line: its pieces between spaces that are not empty
unfoldable pub words_of : List ℕ → List (List ℕ)
words_of text = filter is_some_text (pieces space text)

-- these pieces, without the last if it is empty
abbrev pub without_empty_end : List (List ℕ) → List (List ℕ)
without_empty_end [] = []
without_empty_end ([] ∷ []) = []
without_empty_end (piece ∷ pieces) = piece ∷ without_empty_end pieces

-- the lines of a script, each without its LF; nothing after the last LF is no line
unfoldable pub lines_of : List ℕ → List (List ℕ)
lines_of bytes = without_empty_end (pieces line_feed bytes)
