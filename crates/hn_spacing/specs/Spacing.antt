-- The Router Advertisements of a sender are apart: at least 3,000 ms from each to the next (RFC 4861, sections 6.2.4 and
-- 6.2.6, MIN_DELAY_BETWEEN_RAS).
use Rattle.std.specs.Prelude.{◌≡◌, ℕ, ◌+◌, ◌^◌, ◌<◌, ◌≤◌, List, ◌++◌}
use Rattle.std.specs.List.{All, AllPairs}
use Rattle.hn_base.specs.Name.{name_text}
use Rattle.hn_base.specs.declared.ids.EpId.{EpId}
use Rattle.hn_base.specs.declared.name.Name.{Name}
use Rattle.hn_base.specs.declared.version.Version.{Version}
use Rattle.hn_script.specs.declared.line.Line.{Line}
use Rattle.hn_script.specs.declared.line.Line.TheVariants as line
use Rattle.hn_play.specs.declared.end.Stop.{Stop}
use Rattle.hn_play.specs.Stage.{begun, Stage, Route}
use Rattle.hn_lab.specs.Play.{LinesDone, StopsAt}
use Rattle.hn_play.specs.Sending.{ra_line}
use Rattle.hn_play.specs.Told.{Told}

-- a line of text says that the endpoint sent a Router Advertisement at this moment
abbrev pub IsRaOf : Name → EpId → ℕ → Told → Type 0
IsRaOf name e moment t = (bytes : List ℕ) × (t.line ≡ ra_line name e moment bytes)

-- of two lines of text, one after the other: where each says so of a moment, the second moment is 3,000 ms after the first
-- or later
abbrev pub AreRasApart : Name → EpId → Told → Told → Type 0
AreRasApart name e t u =
    (first second : ℕ) → first < 2 ^ 64 → second < 2 ^ 64 → IsRaOf name e first t → IsRaOf name e second u
    → first + 3000 ≤ second

-- each two lines of a text
abbrev pub AreRasSpaced : Name → EpId → List Told → Type 0
AreRasSpaced name e text = AllPairs (AreRasApart name e) text

-- the same of the text that came up from one state of a play to another
abbrev pub AreRasSpacedSince : Name → EpId → Stage → Stage → Type 0
AreRasSpacedSince name e before after = (new : List Told) × (after.text ≡ before.text ++ new) × AreRasSpaced name e new

-- the line by which the endpoint begins to send, anew where it sends
abbrev pub BeginsSending : Name → EpId → Line → Type 0
BeginsSending name e (line.Radv other f) = (name_text other ≡ name_text name) × (f ≡ e)
BeginsSending name e _ = ⊥

-- none of these lines is one
abbrev pub NoneBeginsSending : Name → EpId → List (ℕ × Line) → Type 0
NoneBeginsSending name e lines = All (λ l. ¬ BeginsSending name e l.1) lines

-- From any state that a play comes to, over lines by none of which an endpoint begins to send anew: that endpoint sends no
-- two Router Advertisements within 3,000 ms, where the lines are done, and where one of them is stopped.
pub record RaLinesAreSpaced : Type 0 where
  pub done :
      (name : Name) (e : EpId) (route : Route) (version : Version) (front lines : List (ℕ × Line)) (before after : Stage)
      → e.0 < 2 ^ 32 → LinesDone front (begun route version) before → NoneBeginsSending name e lines
      → LinesDone lines before after → AreRasSpacedSince name e before after
  pub stopped :
      (name : Name) (e : EpId) (route : Route) (version : Version) (front lines : List (ℕ × Line)) (before after : Stage)
      (number : ℕ) (stop : Stop) → e.0 < 2 ^ 32 → LinesDone front (begun route version) before → NoneBeginsSending name e lines
      → StopsAt number stop lines before after → AreRasSpacedSince name e before after
