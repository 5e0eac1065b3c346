-- What is told of a home.
use Rattle.std.specs.Prelude.{◌≡◌, ◌↔◌, ◌⊎◌, ℕ, Bool, true, false, IsTrue, List, Some}
use Rattle.std.specs.List.{slice_get}
use Rattle.hn_audit.specs.Quiet.{IsQuietByRules}
use Rattle.hn_audit.specs.Settled.{IsSettledByRules}
use Rattle.hn_audit.specs.Sound.{IsSoundByRules}
use Rattle.hn_forms.specs.Decode.{IsContentsOf}
use Rattle.hn_forms.specs.Watch.{IsWatchOf}
use Rattle.hn_slot.specs.Room.{FillsRoom, OverflowsRoom}
use Rattle.hn_table.specs.Table.{IsTableText}
use Rattle.hn_world.specs.Leaves.{info_of_copy}
use Rattle.hn_world.specs.Names.{member_named}
use Rattle.hn_world.specs.Refusal.{copy_at}
use Rattle.hn_world.specs.declared.copies.MailCopy as mail
use Rattle.hn_world.specs.declared.member.Member.{Member}
use Rattle.hn_world.specs.declared.parts.Parts.{Parts}
use Rattle.hn_lab_c.specs.Kinds.{state_out, copy_out}
use Rattle.hn_lab_c.specs.declared.kinds.MailCopy.{MailCopy}
use Rattle.hn_lab_c.specs.declared.kinds.State.{State}

-- whether a running router is settled, and quiet; where it is both it is sound
pub record AreAudited (w : Parts) (r : Member) (settled quiet : Bool) : Type 0 where
  pub settled_is : IsTrue settled ↔ IsSettledByRules w r
  pub quiet_is : IsTrue quiet ↔ IsQuietByRules w r
  pub sound : IsTrue settled → IsTrue quiet → IsSoundByRules w r

-- a router that is stopped counts as neither
abbrev pub AreAuditedOf : Bool → Parts → Member → Bool → Bool → Type 0
AreAuditedOf true w r settled quiet = AreAudited w r settled quiet
AreAuditedOf false w r settled quiet = (settled ≡ false) × (quiet ≡ false)

-- the router of a name
pub record IsStateOut (name : List ℕ) (w : Parts) (out : State) : Type 0 where
  pub router : Member
  pub is : member_named name w ≡ Some router
  pub settled : Bool
  pub quiet : Bool
  pub audited : AreAuditedOf router.running w router settled quiet
  pub out_is : out ≡ state_out router settled quiet

-- the copy of a number and the router that it is for, as C sees them, and so it is of its bytes
pub record IsCopyOut (w : Parts) (number : ℕ) (OfBytes : List ℕ → Type 0) (out : MailCopy) : Type 0 where
  pub copy : mail.MailCopy
  pub at : copy_at w number ≡ Some copy
  pub receiver : Member
  pub for_router : slice_get w.members copy.to.place ≡ Some receiver
  pub out_is : out ≡ copy_out w (info_of_copy copy receiver)
  pub of_bytes : OfBytes copy.bytes

-- what the router of a name holds
abbrev pub IsTableOf : List ℕ → Parts → List ℕ → Type 0
IsTableOf name w text = (m : Member) × (member_named name w ≡ Some m) × IsTableText name m text

-- a text of this kind is written; or there is no room for it
pub record WritesText (IsText : List ℕ → Type 0) (count : ℕ) (room room_after : List ℕ) : Type 0 where
  pub text : List ℕ
  pub is : IsText text
  pub written : FillsRoom text count room room_after

pub record HasNoRoomForText (IsText : List ℕ → Type 0) (count : ℕ) (room : List ℕ) : Type 0 where
  pub text : List ℕ
  pub is : IsText text
  pub no_room : OverflowsRoom text count room

-- there is nothing to tell, and nothing is counted; or there is no room for the text
abbrev pub TellsNothing : Bool → (List ℕ → Type 0) → ℕ → List ℕ → Type 0
TellsNothing there IsText count room = ((there ≡ false) × (count ≡ 0)) ⊎ HasNoRoomForText IsText count room

-- what `hncp decode` writes of a datagram, and `hncp watch` of a capture, with whatever status
abbrev pub IsDecoding : List ℕ → List ℕ → Type 0
IsDecoding datagram text = (status : ℕ) × IsContentsOf datagram status text

abbrev pub IsWatching : List ℕ → List ℕ → Type 0
IsWatching capture text = (status : ℕ) × IsWatchOf capture status text
