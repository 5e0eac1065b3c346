-- A line whose bytes are still digits.
use Rattle.std.specs.Prelude.{◌≡◌, ℕ, List}
use Rattle.hn_script.specs.Field.{IsHexWord}
use Rattle.hn_script.specs.declared.draft.Draft.{Draft}
use Rattle.hn_script.specs.declared.draft.Draft.TheVariants.{Whole, Injected}
use Rattle.hn_script.specs.declared.line.Line.{Line}
use Rattle.hn_script.specs.declared.line.Line.TheVariants.{Inject}

-- the draft is of the line
abbrev pub IsDraftOf : Draft → Line → Type 0
IsDraftOf (Whole line) drafted = drafted ≡ line
IsDraftOf (Injected name e how digits) drafted = (bytes : List ℕ) × IsHexWord bytes digits.now × (drafted ≡ Inject name e how bytes)
