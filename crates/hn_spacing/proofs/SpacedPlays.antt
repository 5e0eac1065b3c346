-- In a play the `ra` lines of a sender are spaced.
use Rattle.hn_base.proofs.Names.{ℕ, ◌^◌, ◌<◌, List, [], ◌∷◌, ⊤, AllByRecursion, recursion_from_All}
use Rattle.hn_spacing.proofs.Names.{EpId, Name, Line, Stop, LinesDone, StopsAt, Stage, Told, BeginsSending}
use Rattle.hn_base.specs.declared.version.Version.{Version}
use Rattle.hn_play.specs.Stage.{begun, Route}
use Rattle.hn_spacing.specs.Spacing.{NoneBeginsSending, AreRasSpacedSince, RaLinesAreSpaced}
use Rattle.hn_spacing.proofs.InvariantsOfPlays.{IsInvariant}
use Rattle.hn_spacing.proofs.KeptByLines.{keeps_done, keeps_stopped}
use Rattle.hn_spacing.proofs.KeptBySenders.{Holds, invariant}
use Rattle.hn_spacing.proofs.SpacedSince.{SpacedSender, spaced_is_kept, SpacedLines, lines_are_kept, none_since}
use Rattle.hn_spacing.proofs.SenderOfEndpoint.{sender_at}

module _ (name : Name) (e : EpId) (small : e.0 < 2 ^ 32) where
  -- any line may be one by which it begins
  all_may : (lines : List (ℕ × Line)) → AllByRecursion (λ l. BeginsSending name e l.1 → ⊤) lines
  all_may [] = tt
  all_may (l ∷ lines) = (λ begins. tt, all_may lines)

  spaced_at : (route : Route) (version : Version) (front : List (ℕ × Line)) (p : Stage) → LinesDone front (begun route version) p → SpacedSender (sender_at name e p.senders) p.text
  spaced_at route version front p h =
      keeps_done (Holds name e ⊤ SpacedSender (spaced_is_kept name e)) (λ l. BeginsSending name e l → ⊤) (invariant name e ⊤ SpacedSender (spaced_is_kept name e) small)
      front (all_may front) (begun route version) p h tt

  none_begins : (lines : List (ℕ × Line)) → NoneBeginsSending name e lines → AllByRecursion (λ l. BeginsSending name e l.1 → ⊥) lines
  none_begins lines none = recursion_from_All (λ (l : ℕ × Line). BeginsSending name e l.1 → ⊥) lines none

  -- what is so since a stage with this text
  abbrev Since : List Told → Stage → Type 0
  Since base = Holds name e ⊥ (SpacedLines name e base) (lines_are_kept name e base)

  since_kept : (base : List Told) → IsInvariant (Since base) (λ l. BeginsSending name e l → ⊥)
  since_kept base = invariant name e ⊥ (SpacedLines name e base) (lines_are_kept name e base) small

  pub done_spaced : (route : Route) (version : Version) (front lines : List (ℕ × Line)) (p a : Stage) → LinesDone front (begun route version) p → NoneBeginsSending name e lines
      → LinesDone lines p a → AreRasSpacedSince name e p a
  done_spaced route version front lines p a begins none done =
      let first = none_since name e (sender_at name e p.senders) p.text (spaced_at route version front p begins) in
      let h = keeps_done (Since p.text) (λ l. BeginsSending name e l → ⊥) (since_kept p.text) lines (none_begins lines none) p a done first in
      (h.new, h.text_is, h.spaced)

  pub stopped_spaced : (route : Route) (version : Version) (front lines : List (ℕ × Line)) (p a : Stage) (number : ℕ) (stop : Stop) → LinesDone front (begun route version) p
      → NoneBeginsSending name e lines → StopsAt number stop lines p a → AreRasSpacedSince name e p a
  stopped_spaced route version front lines p a number stop begins none stopped =
      let first = none_since name e (sender_at name e p.senders) p.text (spaced_at route version front p begins) in
      let h = keeps_stopped (Since p.text) (λ l. BeginsSending name e l → ⊥) (since_kept p.text) number stop lines (none_begins lines none) p a stopped first in
      (h.new, h.text_is, h.spaced)

pub are_spaced : RaLinesAreSpaced
are_spaced = record {
  done = λ name e route version front lines p a small. done_spaced name e small route version front lines p a;
  stopped = λ name e route version front lines p a number stop small. stopped_spaced name e small route version front lines p a number stop;
}
