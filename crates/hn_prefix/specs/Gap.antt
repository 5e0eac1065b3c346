-- A text in two parts, at its first `::`.
use Rattle.std.specs.Prelude.{◌≡◌, ◌≢◌, ℕ, List, [], ◌∷◌, ◌++◌, codes}

-- no two colons stand side by side; a colon is 58
abbrev pub HasNoGap : List ℕ → Type 0
HasNoGap [] = Unit {0}
HasNoGap (c ∷ []) = Unit {0}
HasNoGap (c ∷ d ∷ text) = (c ≡ 58 → d ≢ 58) × HasNoGap (d ∷ text)

-- the first `::` of the text stands between front and back
pub record SplitsAtGap (text front back : List ℕ) : Type 0 where
  pub parts : text ≡ front ++ codes "::" ++ back
  pub first : HasNoGap (front ++ codes ":")
