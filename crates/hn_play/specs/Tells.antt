-- Lines of text that come up in a play.
use Rattle.std.specs.Prelude.{◌≡◌, ℕ, List, [], ◌∷◌, ◌++◌, map, Option, None, Some}
use Rattle.std.specs.Option.{option_map_or}
use Rattle.hn_base.specs.declared.name.Name.{Name}
use Rattle.hn_rules.specs.declared.done.Note.{Note}
use Rattle.hn_play.specs.declared.end.Stop.TheVariants.{Refused, WireFailed, Cut}
use Rattle.hn_play.specs.Notes.{note_line}
use Rattle.hn_play.specs.Stage.{telling}
use Rattle.hn_play.specs.Process.{Process, Unless, ThenProcess}

-- these lines come up, one after another; all may be cut right after one of them
abbrev pub TellsLines : List (List ℕ) → Process
TellsLines lines None before after = after ≡ telling lines before
TellsLines lines (Some (Refused code)) before after = ⊥
TellsLines lines (Some WireFailed) before after = ⊥
TellsLines lines (Some (Cut fault)) before after =
    (front : List (List ℕ)) × (line : List ℕ) × (back : List (List ℕ))
    × (lines ≡ front ++ line ∷ back) × (after ≡ telling (front ++ line ∷ []) before)

-- lines of which this is told
abbrev pub TellsSome : (List (List ℕ) → Type 0) → Process
TellsSome AreReport stop before after = (lines : List (List ℕ)) × AreReport lines × TellsLines lines stop before after

-- the lines of a report, unless it is refused
abbrev pub Reports : Option ℕ → (List (List ℕ) → Type 0) → Process
Reports unless AreReport stop before after = ThenProcess (Unless unless) (TellsSome AreReport) stop before after

-- one line
abbrev pub IsOneLine : (List ℕ → Type 0) → List (List ℕ) → Type 0
IsOneLine IsReport lines = (line : List ℕ) × IsReport line × (lines ≡ line ∷ [])

-- a line for each note of the router of a name, if there is one
abbrev pub note_lines : Option Name → List Note → List (List ℕ)
note_lines name notes = option_map_or (λ n. map (note_line n) notes) name []
