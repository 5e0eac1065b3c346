-- What `hnlook log` writes of a world: its trace, event by event.
use Rattle.std.specs.Prelude.{◌≡◌, ℕ, List, [], ◌∷◌, ◌++◌, length}
use Rattle.hn_rules.specs.declared.done.Note.{Note}
use Rattle.hn_world.specs.declared.event.Traced.{Traced}
use Rattle.hn_world.specs.declared.parts.Parts.{Parts}
use Rattle.hn_world.specs.Replay.{empty_world}
use Rattle.hn_world.specs.Step.{Step}
use Rattle.hn_look.specs.Steps.{step_text}

-- an event of a trace is a step from one world to the next, and this is told of it
pub record IsStepText (t : Traced) (before after : Parts) (text : List ℕ) : Type 0 where
  pub notes : List Note
  pub step : Step t notes before after
  pub text_is : text ≡ step_text t.event notes (length before.copies) (length before.published) after

-- the text of events one after another, from this world on
abbrev pub IsLogFrom : Parts → List Traced → List ℕ → Type 0
IsLogFrom before [] text = text ≡ []
IsLogFrom before (t ∷ ts) text =
    (after : Parts) × (first : List ℕ) × (rest : List ℕ) × IsStepText t before after first × IsLogFrom after ts rest × (text ≡ first ++ rest)

-- the log of a world: of its trace, from the empty world of its version
abbrev pub IsLog : Parts → List ℕ → Type 0
IsLog w text = IsLogFrom (empty_world w.version) w.trace text

-- A world has at most one log.
abbrev pub AtMostOneLog : Type 0
AtMostOneLog = (w : Parts) (a b : List ℕ) → IsLog w a → IsLog w b → a ≡ b
