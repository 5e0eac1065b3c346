-- What holds at a stage of a play and stays so, whatever goes on.
use Rattle.hn_base.proofs.Names.{◌≡◌, ℕ, List}
use Rattle.hn_spacing.proofs.Names.{EpId, Name, Line, Turns, Solicits, starting, ended_sending, ending_all, Stage, TellsLines}
use Rattle.hn_script.specs.declared.line.Line.TheVariants as line
use Rattle.hn_spacing.proofs.KeptByProcesses.{Keeps}
use Rattle.hn_spacing.proofs.NoRaLines.{AreNoRaLines}

-- It speaks of the senders and the text alone. It is kept where lines come up that are no `ra` lines, by turns and
-- solicitations, where senders end, and where one begins by a line that may be.
pub record IsInvariant (Holds : Stage → Type 0) (MayBe : Line → Type 0) : Type 0 where
  pub stays : (p a : Stage) → a.senders ≡ p.senders → a.text ≡ p.text → Holds p → Holds a
  pub tells : (lines : List (List ℕ)) → AreNoRaLines lines → Keeps Holds (TellsLines lines)
  pub turns : (name : Name) → Keeps Holds (Turns name)
  pub solicits : (name : Name) (e : EpId) → Keeps Holds (Solicits name e)
  pub ended_sending : (name : Name) (e : EpId) (p : Stage) → Holds p → Holds (ended_sending name e p)
  pub ending_all : (name : Name) (p : Stage) → Holds p → Holds (ending_all name p)
  pub starting : (name : Name) (e : EpId) → MayBe (line.Radv name e) → (p : Stage) → Holds p → Holds (starting name e p)
