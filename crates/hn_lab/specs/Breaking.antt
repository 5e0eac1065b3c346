-- Where the wire ends a play.
use Rattle.std.specs.Prelude.{◌≡◌, ◌⊎◌, ℕ, List, [], ◌∷◌, ◌++◌, Some}
use Rattle.hn_io.specs.declared.fault.IoFault.{IoFault}
use Rattle.hn_script.specs.declared.line.Line.{Line}
use Rattle.hn_wire.specs.declared.datagram.Datagram.{Datagram}
use Rattle.hn_world.specs.declared.copies.MailCopy.{MailCopy}
use Rattle.hn_world.specs.Refusal.{copy_at}
use Rattle.hn_play.specs.declared.end.End.TheVariants as end
use Rattle.hn_play.specs.Carrying.{sent_from}
use Rattle.hn_lab.specs.Laws.{IsKnownRoute}
use Rattle.hn_lab.specs.Play.{IsPlay, IsCut}
use Rattle.hn_play.specs.Stage.{Stage, OverWire}

-- A wire that tells what waits failed while a copy of the world was carried. What waited before is left, or that with the
-- copy behind it; all else is as before.
pub record CopyFails (before after : Stage) : Type 0 where
  pub base : ℕ
  pub waiting : List Datagram
  pub route_is : before.route ≡ OverWire base (Some waiting)
  pub copy : ℕ
  pub mail : MailCopy
  pub is_copy : copy_at before.world copy ≡ Some mail
  pub left : List Datagram
  pub left_is : (left ≡ waiting) ⊎ (left ≡ waiting ++ sent_from base mail.bytes ∷ [])
  pub after_is : after ≡ record before { route = OverWire base (Some left) }

-- Where such a wire ends a play, the play could as well have been cut right before a copy, and that copy failed.
abbrev pub WireFailsAtACopy : Type 0
WireFailsAtACopy =
    (fault : IoFault) (lines : List (ℕ × Line)) (before after : Stage) → IsKnownRoute before.route → IsPlay lines end.WireFailed before after
    → (at : Stage) × IsCut fault lines before at × CopyFails at after
