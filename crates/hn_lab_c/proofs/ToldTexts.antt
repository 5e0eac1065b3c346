-- A text that is told, and the room for it.
use Rattle.hn_base.proofs.Names.{◌≡◌, List, ℕ, subst}
use Rattle.hn_slot.specs.Room.{FillsRoom, OverflowsRoom}
use Rattle.hn_lab_c.specs.Looks.{WritesText, HasNoRoomForText}

pub writes : (IsText : List ℕ → Type 0) (text given : List ℕ) (count : ℕ) (room after : List ℕ) → given ≡ text → IsText text → FillsRoom given count room after
    → WritesText IsText count room after
writes IsText text given count room after same is written =
    record { text = text; is = is; written = subst (λ (t : List ℕ). FillsRoom t count room after) same written }

pub lacks_room : (IsText : List ℕ → Type 0) (text given : List ℕ) (count : ℕ) (room : List ℕ) → given ≡ text → IsText text → OverflowsRoom given count room
    → HasNoRoomForText IsText count room
lacks_room IsText text given count room same is exceeds =
    record { text = text; is = is; no_room = subst (λ (t : List ℕ). OverflowsRoom t count room) same exceeds }
