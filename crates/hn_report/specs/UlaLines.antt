-- The line on a delegated prefix of a router's own making. docs/FORMATS.md has the table.
use Rattle.std.specs.Prelude.{ℕ, List, [], ◌∷◌, ◌++◌, codes}
use Rattle.hn_base.specs.Name.{name_text}
use Rattle.hn_base.specs.declared.name.Name.{Name}
use Rattle.hn_prefix.specs.PrefixText.{prefix_text_of}
use Rattle.hn_ula.specs.declared.decision.Ula.{Ula}
use Rattle.hn_ula.specs.declared.decision.Ula.TheVariants as ula

-- what a router decided
abbrev pub ula_text : Ula → List ℕ
ula_text ula.Keep = codes "keep"
ula_text (ula.Announce prefix) = codes "announce=" ++ prefix_text_of prefix
ula_text (ula.Withdraw prefix) = codes "withdraw=" ++ prefix_text_of prefix

abbrev pub ula_line : Name → Ula → List ℕ
ula_line name decided = codes "ula " ++ name_text name ++ codes " " ++ ula_text decided ++ 10 ∷ []
