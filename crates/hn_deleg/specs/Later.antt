-- Usable prefixes while time passes.
use Rattle.std.specs.Prelude.{ℕ, ◌-◌, ◌^◌, ◌==◌, if◌then◌else◌}
use Rattle.hn_deleg.specs.declared.delegated.Delegated.{Delegated}

-- what is left of a remaining lifetime in ms when a time has passed; one that never ends stays
abbrev pub left_after : ℕ → ℕ → ℕ
left_after time ms = if ms == 2 ^ 64 - 1 then 2 ^ 64 - 1 else ms - time

-- a delegated prefix when a time has passed
abbrev pub aged_delegated : ℕ → Delegated → Delegated
aged_delegated time u = record { prefix = u.prefix; valid = left_after time u.valid; preferred = left_after time u.preferred }
