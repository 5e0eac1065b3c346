-- The play of a script.
use Rattle.std.specs.Prelude.{◌≡◌, ◌⊎◌, ℕ, List, [], ◌∷◌, ◌++◌, None, Some}
use Rattle.hn_io.specs.declared.fault.IoFault.{IoFault}
use Rattle.hn_io.specs.declared.fault.IoFault.TheVariants.{Failed}
use Rattle.hn_script.specs.declared.line.Line.{Line}
use Rattle.hn_play.specs.declared.end.End.{End}
use Rattle.hn_play.specs.declared.end.End.TheVariants as end
use Rattle.hn_play.specs.declared.end.Stop.{Stop}
use Rattle.hn_play.specs.declared.end.Stop.TheVariants.{Refused, WireFailed, Cut}
use Rattle.hn_lab.specs.Line.{LineEnds}
use Rattle.hn_play.specs.Process.{Process}
use Rattle.hn_streams.specs.Refusal.{refused_line}
use Rattle.hn_play.specs.Stage.{Stage, telling}
use Rattle.hn_play.specs.Tells.{TellsLines}
use Rattle.hn_play.specs.Told.{Told, told}

-- a line of this number ends; where it is refused, the line of text that says so comes up
abbrev pub LineSaid : ℕ → Line → Process
LineSaid number line None before after = LineEnds line None before after
LineSaid number line (Some (Refused code)) before after =
    (refused : Stage) × LineEnds line (Some (Refused code)) before refused × (after ≡ telling (refused_line number code ∷ []) refused)
LineSaid number line (Some WireFailed) before after = LineEnds line (Some WireFailed) before after
LineSaid number line (Some (Cut fault)) before after =
    LineEnds line (Some (Cut fault)) before after
    ⊎ ((code : ℕ) × (refused : Stage) × LineEnds line (Some (Refused code)) before refused
    × TellsLines (refused_line number code ∷ []) (Some (Cut fault)) refused after)

-- lines are done, one after another; each comes with its number
abbrev pub LinesDone : List (ℕ × Line) → Stage → Stage → Type 0
LinesDone [] before after = after ≡ before
LinesDone (line ∷ lines) before after = (between : Stage) × LineSaid line.0 line.1 None before between × LinesDone lines between after

-- lines are done up to one of this number, and that is stopped
pub record StopsAt (number : ℕ) (stop : Stop) (lines : List (ℕ × Line)) (before after : Stage) : Type 0 where
  pub front : List (ℕ × Line)
  pub line : Line
  pub rest : List (ℕ × Line)
  pub between : Stage
  pub lines_are : lines ≡ front ++ (number, line) ∷ rest
  pub done : LinesDone front before between
  pub said : LineSaid number line (Some stop) between after

-- a play of lines, with its end
abbrev pub IsPlay : List (ℕ × Line) → End → Stage → Stage → Type 0
IsPlay lines end.Done before after = LinesDone lines before after
IsPlay lines (end.Refused number code) before after = StopsAt number (Refused code) lines before after
IsPlay lines end.WireFailed before after = (number : ℕ) × StopsAt number WireFailed lines before after

-- a play that is cut somewhere
abbrev pub IsCut : IoFault → List (ℕ × Line) → Stage → Stage → Type 0
IsCut fault lines before after = (number : ℕ) × StopsAt number (Cut fault) lines before after

-- a play that a failed sink cut: right after a line of text came up
pub record IsCutPlay (lines : List (ℕ × Line)) (before after : Stage) : Type 0 where
  pub cut : IsCut Failed lines before after
  pub so_far : List Told
  pub line : List ℕ
  pub text_is : after.text ≡ so_far ++ told after.world (line ∷ [])
