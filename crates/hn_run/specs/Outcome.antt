-- What `soak` comes to, and what `udp` leaves on its wire.
use Rattle.std.specs.Prelude.{◌≡◌, ◌⊎◌, ℕ, List, Option, Some}
use Rattle.std.specs.Io.KnownBytes.{Appends}
use Rattle.hn_base.specs.Input.{IsWhole}
use Rattle.hn_io.specs.declared.fault.IoFault.TheVariants.{NoMemory}
use Rattle.hn_lab.specs.Breaking.{CopyFails}
use Rattle.hn_lab.specs.Lab.{IsScriptPlay, IsUnread, StatusOfScript}
use Rattle.hn_play.specs.Stage.{begun, Stage, Mail, OverWire}
use Rattle.hn_lab.specs.Play.{IsCut}
use Rattle.hn_lab.specs.Transcripts.{IsOfTranscript}
use Rattle.hn_script.specs.Script.{IsScript}
use Rattle.hn_script.specs.Soak.{soak_text}
use Rattle.hn_script.specs.declared.script.Script.{Script}
use Rattle.hn_wire.specs.declared.datagram.Datagram.{Datagram}
use Rattle.hn_world.specs.declared.parts.Parts.{Parts}

-- What `udp` leaves where the wire failed, over a wire that tells what waits: the script of its source is played up to a copy, for
-- which the wire fails. What waited then is left, or that with the copy behind it, and the world is that before the copy.
pub record LeavesOnWire (base : ℕ) (waiting : List Datagram) (left : Option (List ℕ)) (world : Option Parts) (after : Option (List Datagram)) : Type 0 where
  pub bytes : List ℕ
  pub are_whole : IsWhole left bytes
  pub script : Script
  pub is_script : IsScript script bytes
  pub at : Stage
  pub played : IsCut NoMemory script.lines (begun (OverWire base (Some waiting)) script.version) at
  pub end : Stage
  pub fails : CopyFails at end
  pub world_is : world ≡ Some end.world
  pub left_is : end.route ≡ OverWire base after

-- What `soak` comes to: the play of its script by mail, or out of memory before it began. What is written is of the one
-- transcript of the script.
pub record IsSoakRun (n seed status : ℕ) (world : Option Parts) (before after : Option (List ℕ)) : Type 0 where
  pub written : List ℕ
  pub comes : IsScriptPlay Mail Mail (soak_text n seed) status world written ⊎ IsUnread Mail Mail status world written
  pub of_script : (script : Script) → IsScript script (soak_text n seed) → IsOfTranscript script status world written
  pub only : StatusOfScript Mail (soak_text n seed) status
  pub appends : Appends before after written
