use Rattle.std.specs.Prelude.{ℕ, ◌^◌, ◌<◌}

-- a byte
abbrev pub IsByte : ℕ → Type 0
IsByte byte = byte < 2 ^ 8
