-- What of a text a sink holds.
use Rattle.std.specs.Prelude.{◌≡◌, ◌<◌, ℕ, List, ◌++◌, Option, length}
use Rattle.std.specs.Io.KnownBytes.{Appends}
use Rattle.hn_io.specs.declared.fault.IoFault.{IoFault}
use Rattle.hn_io.specs.declared.fault.IoFault.TheVariants.{Failed, NoMemory}

-- a proper front
pub record IsPart (part whole : List ℕ) : Type 0 where
  pub missing : List ℕ
  pub some : 0 < length missing
  pub whole_is : whole ≡ part ++ missing

-- a front
abbrev pub IsFrontOf : List ℕ → List ℕ → Type 0
IsFrontOf front whole = (back : List ℕ) × (whole ≡ front ++ back)

-- a sink grew by a front of this text
abbrev pub AppendsFront : Option (List ℕ) → Option (List ℕ) → List ℕ → Type 0
AppendsFront before after text = (front : List ℕ) × IsFrontOf front text × Appends before after front

-- a sink grew by a proper front of this piece
abbrev pub AppendsPart : Option (List ℕ) → Option (List ℕ) → List ℕ → Type 0
AppendsPart before after piece = (part : List ℕ) × IsPart part piece × Appends before after part

-- how far a sink grew by a text that was cut: after a failure by a proper front of it, and out of memory by a front
abbrev pub AppendsCut : IoFault → Option (List ℕ) → Option (List ℕ) → List ℕ → Type 0
AppendsCut Failed before after text = AppendsPart before after text
AppendsCut NoMemory before after text = AppendsFront before after text
