-- An event that a world accepts has a result, and two routers of a world agree in some way.
use Rattle.std.specs.Prelude.{◌≡◌, ℕ, List, All, Contains, Option, None, Some}
use Rattle.hn_base.specs.Byte.{IsByte}
use Rattle.hn_base.specs.Exists.{Some! }
use Rattle.hn_base.specs.Name.{name_text}
use Rattle.hn_base.specs.Words.{Begins}
use Rattle.hn_base.specs.declared.name.Name.{Name}
use Rattle.hn_hash.specs.declared.leaf.Leaf.{Leaf}
use Rattle.hn_hash.specs.Network.{AreNumbered}
use Rattle.hn_rules.specs.Nodes.{leaves_of}
use Rattle.hn_rules.specs.declared.done.Note.{Note}
use Rattle.hn_router.specs.Act.{PlainEvent, IsOfBytes}
use Rattle.hn_world.specs.declared.copies.MailCopy.{MailCopy}
use Rattle.hn_world.specs.declared.event.WEvent.{WEvent}
use Rattle.hn_world.specs.declared.event.WEvent.TheVariants as event
use Rattle.hn_world.specs.declared.member.Member.{Member}
use Rattle.hn_world.specs.declared.parts.Parts.{Parts}
use Rattle.hn_world.specs.Leaves.{Agrees}
use Rattle.hn_world.specs.Names.{member_named}
use Rattle.hn_world.specs.Refusal.{copy_at, refusal}
use Rattle.hn_world.specs.Replay.{IsReplayed, IsSoundWorld}
use Rattle.hn_world.specs.Routed.{routed}
use Rattle.hn_world.specs.Step.{FitsAt, IsWorldEventInRange, Step}

-- what arrives at its router, if it happens at one by its name, is of bytes
abbrev pub IsOfBytesAt : Option (Name × PlainEvent) → Type 0
IsOfBytesAt None = Unit {0}
IsOfBytesAt (Some own) = IsOfBytes own.1

-- a copy, if it is there, is of bytes
abbrev pub IsCopyOfBytes : ℕ → Parts → Type 0
IsCopyOfBytes copy w = (mail : MailCopy) → copy_at w copy ≡ Some mail → All IsByte mail.bytes

-- the copy that is delivered is of bytes
abbrev pub IsMailOfBytes : WEvent → Parts → Type 0
IsMailOfBytes (event.Deliver copy) w = IsCopyOfBytes copy w
IsMailOfBytes _ w = Unit {0}

-- The numbers of an event fit, and what arrives by it is of bytes. By its type each event of the code is so.
pub record IsGiven (event : WEvent) (w : Parts) : Type 0 where
  pub in_range : IsWorldEventInRange event
  pub fits : FitsAt (routed event)
  pub injected : IsOfBytesAt (routed event)
  pub mail : IsMailOfBytes event w

-- what comes of an event: the words that it takes, what routers note, and the world after it
pub record Outcome : Type 0 where
  pub words : List ℕ
  pub notes : List Note
  pub world : Parts

-- over each stream of words an event has a result: it cannot be that there is none
unfoldable pub HasAStep : WEvent → Parts → Type 0
HasAStep event w =
    (stream : ℕ → ℕ) → Some! (λ (o : Outcome). Step (record { event = event; words = o.words }) o.notes w o.world × Begins o.words stream)

-- An event that a world accepts has a result.
abbrev pub StepExists : Type 0
StepExists = (event : WEvent) (w : Parts) → IsSoundWorld w → refusal w event ≡ None → IsGiven event w → HasAStep event w

-- In a replayed world each copy is of bytes, so that nothing is asked of the one that is delivered.
abbrev pub ReplayedStepExists : Type 0
ReplayedStepExists =
    (event : WEvent) (w : Parts) → IsReplayed w → refusal w event ≡ None
    → IsWorldEventInRange event → FitsAt (routed event) → IsOfBytesAt (routed event) → HasAStep event w

-- Two lists of leaves whose sequence numbers have 32 bits agree in some way.
abbrev pub AgreementExists : Type 0
AgreementExists = (a b : List Leaf) → AreNumbered a → AreNumbered b → Some! (Agrees a b)

-- So do two routers of a replayed world.
abbrev pub RoutersAgreeSomehow : Type 0
RoutersAgreeSomehow =
    (w : Parts) (a b : Member) → IsReplayed w → Contains w.members a → Contains w.members b
    → Some! (Agrees (leaves_of a.router) (leaves_of b.router))

-- the routers of two names agree in some way: it cannot be that they do not
unfoldable pub AgreeSomehow : Name → Name → Parts → Type 0
AgreeSomehow a b w =
    (m n : Member) → member_named (name_text a) w ≡ Some m → member_named (name_text b) w ≡ Some n
    → Some! (Agrees (leaves_of m.router) (leaves_of n.router))
