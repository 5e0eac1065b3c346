use Rattle.std.specs.Prelude.{ℕ, List}
use Rattle.hn_base.specs.NameText.{first_bytes}
use Rattle.hn_base.specs.declared.name.Name.{Name}

-- the text of a name
abbrev pub name_text : Name → List ℕ
name_text name = first_bytes name.len name.bytes
