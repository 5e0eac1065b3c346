-- How the bytes of a copy are carried.
use Rattle.std.specs.Prelude.{◌≡◌, ◌≢◌, ◌⊎◌, ℕ, ◌+◌, ◌≤◌, ⊤, List, length, Option, None, Some, IfSome}
use Rattle.hn_wire.specs.declared.datagram.Datagram.{Datagram}
use Rattle.hn_wire.specs.Wires.{Arrived, Sends, TakesAt}
use Rattle.hn_play.specs.declared.carrying.Carried.{Carried}
use Rattle.hn_play.specs.declared.carrying.Carried.TheVariants.{Same, Lost, Other}
use Rattle.hn_world.specs.declared.copies.MailCopy.{MailCopy}
use Rattle.hn_world.specs.Refusal.{copy_at}
use Rattle.hn_play.specs.Stage.{Stage, Route, Mail, OverWire}

-- What came of bytes, by what was taken: they themselves, nothing, or others. The port that these came from does not
-- count.
abbrev pub IsCarried : List ℕ → Option Arrived → Carried → Type 0
IsCarried bytes None Lost = ⊤
IsCarried bytes (Some got) Same = got.bytes ≡ bytes
IsCarried bytes (Some got) (Other others) = (others ≡ got.bytes) × (got.bytes ≢ bytes)
IsCarried bytes _ _ = ⊥

-- bytes as they go from the base to the port after it
abbrev pub sent_from : ℕ → List ℕ → Datagram
sent_from base bytes = record { from = base; to = base + 1; bytes = bytes }

-- bytes are sent from the base to the port after it, and one datagram is taken there
pub record CarriesOver (base : ℕ) (bytes : List ℕ) (carried : Carried) (before after : Option (List Datagram)) : Type 0 where
  pub between : Option (List Datagram)
  pub sends : Sends (sent_from base bytes) before between
  pub got : Option Arrived
  pub short : IfSome got (λ g. length g.bytes ≤ 65507)
  pub takes : TakesAt (base + 1) got between after
  pub is_carried : IsCarried bytes got carried

-- bytes are carried: by mail they stay the same
abbrev pub Carries : List ℕ → Carried → Route → Route → Type 0
Carries bytes carried Mail after = (carried ≡ Same) × (after ≡ Mail)
Carries bytes carried (OverWire base waiting) after =
    (waiting_after : Option (List Datagram)) × CarriesOver base bytes carried waiting waiting_after × (after ≡ OverWire base waiting_after)

-- the sending fails: what waits is as before
abbrev pub FailsSending : Option (List Datagram) → Option (List Datagram) → Type 0
FailsSending before after = after ≡ before

-- bytes are sent and the taking fails: they wait behind what waited before
abbrev pub FailsTaking : ℕ → List ℕ → Option (List Datagram) → Option (List Datagram) → Type 0
FailsTaking base bytes before after = Sends (sent_from base bytes) before after

-- the wire fails while bytes are carried, in one of its two calls
abbrev pub FailsCarrying : ℕ → List ℕ → Option (List Datagram) → Option (List Datagram) → Type 0
FailsCarrying base bytes before after = FailsSending before after ⊎ FailsTaking base bytes before after

-- the wire fails, and mail never does
abbrev pub Breaks : List ℕ → Route → Route → Type 0
Breaks bytes Mail after = ⊥
Breaks bytes (OverWire base waiting) after =
    (waiting_after : Option (List Datagram)) × FailsCarrying base bytes waiting waiting_after × (after ≡ OverWire base waiting_after)

-- Memory ends while bytes are carried. What waits is as before; or as where the wire fails, so that the bytes may wait behind it; or
-- the bytes were carried to something.
abbrev pub Starves : List ℕ → Route → Route → Type 0
Starves bytes before after = (after ≡ before) ⊎ (Breaks bytes before after ⊎ ((carried : Carried) × Carries bytes carried before after))

-- Memory ended at a stage, and then this is how copies go. What waits is as at the stage, or as where memory ends while a copy of
-- its world is carried.
abbrev pub IsLeftAt : Stage → Route → Type 0
IsLeftAt at route =
    (route ≡ at.route) ⊎ ((copy : ℕ) × (mail : MailCopy) × (copy_at at.world copy ≡ Some mail) × Starves mail.bytes at.route route)
