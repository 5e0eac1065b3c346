-- Lines that are made for the script of a soak, and their texts.
use Rattle.std.specs.Prelude.{◌≡◌, ℕ, List, ◌++◌}
use Rattle.std.specs.List.{AllZip}
use Rattle.hn_script.specs.Laws.{IsPrintable}
use Rattle.hn_base.specs.declared.version.Version.TheVariants.{One}
use Rattle.hn_script.specs.Line.{IsOfVersion, line_text}
use Rattle.hn_script.specs.declared.line.Line.{Line}

-- the line is of version 1, and can be printed as this text
pub record IsLineOf (line : Line) (text : List ℕ) : Type 0 where
  pub of_one : IsOfVersion One line
  pub printable : IsPrintable line
  pub text_is : line_text line ≡ text

-- lines of these texts are added
pub record AddsLines (texts : List (List ℕ)) (before after : List Line) : Type 0 where
  pub more : List Line
  pub added : after ≡ before ++ more
  pub lines : AllZip IsLineOf more texts
