-- What was read of a source, and the bytes that the source has.
use Rattle.hn_base.proofs.Names.{◌<◌, ◌≤◌, ◌^◌, ℕ, List, Option, None, Some, length, inl, inr, subst, sym, ap, arith, length-append, Consumes, cases_lt, IsWhole}
use Rattle.std.specs.Prelude.{IfSome}

length_front : (whole : List ℕ) (after : Option (List ℕ)) (read : List ℕ) → Consumes (Some whole) after read → length read ≤ length whole
length_front whole None read c = absurd c
length_front whole (Some rest) read c = omega (arith, ap length c, length-append read rest)

-- what holds of the bytes that were read holds of the whole source, where it does not depend on those past 2^24
pub of_source : (R : List ℕ → Type 0) → ((whole read : List ℕ) → 2 ^ 24 < length read → length read ≤ length whole → R read → R whole)
    → (left after : Option (List ℕ)) (read : List ℕ) → Consumes left after read → (length read ≤ 2 ^ 24 → IsWhole left read) → R read → IfSome left R
of_source R longer None after read c all holds = tt
of_source R longer (Some whole) after read c all holds =
    elim (cases_lt (2 ^ 24) (length read)) [
      | inl long ↦ longer whole read long (length_front whole after read c) holds
      | inr short ↦ subst R (sym (all short)) holds
    ]
