use Rattle.std.specs.Prelude.{◌≡◌, ℕ, List, Option, None, Some, ⊤}

-- the bytes are all that a source has left, where it tells them
abbrev pub IsWhole : Option (List ℕ) → List ℕ → Type 0
IsWhole None bytes = ⊤
IsWhole (Some left) bytes = left ≡ bytes
