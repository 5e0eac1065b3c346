-- One exchange: a router asks another one for the network state, and each datagram of this is delivered at once.
use Rattle.std.specs.Prelude.{◌≡◌, ℕ, zero, suc, ◌+◌, true, false, nat_le, is_none, if◌then◌else◌, List, [], ◌∷◌, length, Option, None, Some}
use Rattle.std.specs.Option.{option_or}
use Rattle.hn_base.specs.Exists.{Some! }
use Rattle.hn_base.specs.Name.{name_text}
use Rattle.hn_base.specs.Words.{Took}
use Rattle.hn_base.specs.declared.ids.EpId.{EpId}
use Rattle.hn_base.specs.declared.name.Name.{Name}
use Rattle.hn_dncp.specs.Packing.{datagram_of}
use Rattle.hn_tlv.specs.Grammar.{spelling}
use Rattle.hn_typed.specs.Item.{RequestNetwork}
use Rattle.hn_typed.specs.Written.{tlv_of}
use Rattle.hn_world.specs.declared.event.Traced.{Traced}
use Rattle.hn_world.specs.declared.event.WEvent.{WEvent}
use Rattle.hn_world.specs.declared.event.WEvent.TheVariants as event
use Rattle.hn_world.specs.declared.member.Member.{Member}
use Rattle.hn_world.specs.declared.parts.Parts.{Parts}
use Rattle.hn_world.specs.Mail.{address_of_target}
use Rattle.hn_world.specs.Names.{member_named, router_place}
use Rattle.hn_world.specs.Asked.{code_if, of_router, unless_both_run}
use Rattle.hn_world.specs.Refusal.{refusal}
use Rattle.hn_world.specs.Replay.{Goes, words_of_trace}
use Rattle.hn_sync.specs.Joined.{AreLeast, joint_of}

-- ---- the question

-- a Request Network State, as TLVs are packed (RFC 7787, sections 4.2 and 7.1.1)
abbrev pub request : List ℕ
request = spelling (tlv_of (RequestNetwork []))

-- B asks A for the network state: the datagram arrives at the least endpoint of A that is joined with one of B, by unicast,
-- from the address of the least one of B for it.
pub record IsQuestion (a b : Name) (w : Parts) (question : WEvent) : Type 0 where
  pub one : Member
  pub two : Member
  pub place : ℕ
  pub is_one : member_named (name_text a) w ≡ Some one
  pub is_two : member_named (name_text b) w ≡ Some two
  pub is_place : router_place (name_text b) w ≡ Some place
  pub one_runs : one.running ≡ true
  pub two_runs : two.running ≡ true
  pub e : EpId
  pub f : EpId
  pub least : AreLeast one e two f
  pub gives : question ≡ event.Inject a e (address_of_target (record { place = place; endpoint = f })) false (datagram_of two.router.id f (request ∷ []))

-- ---- the events

-- the events deliver the copies from a number on, in ascending order
abbrev pub AreDeliveries : ℕ → List Traced → Type 0
AreDeliveries copy [] = Unit {0}
AreDeliveries copy (t ∷ ts) = (t.event ≡ event.Deliver copy) × AreDeliveries (suc copy) ts

-- first the question, and then deliveries of the copies that were made since; so many copies were there before
abbrev pub AreOfExchange : WEvent → ℕ → List Traced → Type 0
AreOfExchange question copies [] = Unit {0}
AreOfExchange question copies (t ∷ ts) = (t.event ≡ question) × AreDeliveries (suc copies) ts

-- the copy of that number is delivered, if there is one
abbrev pub delivery : ℕ → Parts → Option WEvent
delivery copy w = if nat_le copy (length w.copies) then Some (event.Deliver copy) else None

-- what comes after so many events of an exchange
abbrev pub next_event : WEvent → ℕ → ℕ → Parts → Option WEvent
next_event question copies zero w = Some question
next_event question copies (suc count) w = delivery (copies + suc count) w

-- The copies from a number on were delivered, as far as this has come, and the event that comes next.
pub record CopiesAreDelivered (copy : ℕ) (ts : List Traced) (next : Option WEvent) (before after : Parts) : Type 0 where
  pub goes : Goes before ts after
  pub events : AreDeliveries copy ts
  pub is_next : next ≡ delivery (copy + length ts) after

-- An exchange as far as it has come: what happened, one after another, and the event that comes next. There is none where
-- each copy that was made since was delivered.
pub record IsBegunExchange (a b : Name) (ts : List Traced) (next : Option WEvent) (before after : Parts) : Type 0 where
  pub question : WEvent
  pub asks : IsQuestion a b before question
  pub goes : Goes before ts after
  pub events : AreOfExchange question (length before.copies) ts
  pub is_next : next ≡ next_event question (length before.copies) (length ts) after

-- a whole exchange
abbrev pub IsExchange : Name → Name → List Traced → Parts → Parts → Type 0
IsExchange a b ts before after = IsBegunExchange a b ts None before after

-- ---- with the words that it takes

-- an exchange has come so far, and took the words of its events, and no others
pub record ExchangesSoFar (a b : Name) (next : Option WEvent) (told told_after : Option (ℕ → ℕ)) (before after : Parts) : Type 0 where
  pub ts : List Traced
  pub begun : IsBegunExchange a b ts next before after
  pub drew : Took told (words_of_trace ts) told_after

-- it stops at an event that is refused with this code
pub record ExchangeStopsAt (a b : Name) (code : ℕ) (told told_after : Option (ℕ → ℕ)) (before after : Parts) : Type 0 where
  pub next : WEvent
  pub comes : ExchangesSoFar a b (Some next) told told_after before after
  pub refused : refusal after next ≡ Some code

-- how it ends: it is whole, or it stops at an event that is refused
abbrev pub ExchangeEnds : Name → Name → Option ℕ → Option (ℕ → ℕ) → Option (ℕ → ℕ) → Parts → Parts → Type 0
ExchangeEnds a b None told told_after before after = ExchangesSoFar a b None told told_after before after
ExchangeEnds a b (Some code) told told_after before after = ExchangeStopsAt a b code told told_after before after

-- the code at which it stopped, if it did, what a draw tells then, and the world
pub record EndOfExchange : Type 0 where
  pub code : Option ℕ
  pub rest : ℕ → ℕ
  pub world : Parts

-- over each stream of words an exchange ends: it cannot be that it does not
unfoldable pub HasAnEnd : Name → Name → Parts → Type 0
HasAnEnd a b w = (stream : ℕ → ℕ) → Some! (λ (e : EndOfExchange). ExchangeEnds a b e.code (Some stream) (Some e.rest) w e.world)

-- or it is cut off before some event
pub record IsCutOff (a b : Name) (before after : Parts) : Type 0 where
  pub ts : List Traced
  pub next : WEvent
  pub begun : IsBegunExchange a b ts (Some next) before after

-- ---- refusals

-- 18: no endpoints of the two are joined
abbrev pub unless_joined : Member → Member → Option ℕ
unless_joined one two = code_if 18 (is_none (joint_of one two))

-- the code with which an exchange is refused before anything happens: 7 for both names, 12 for either router, and 18
abbrev pub unless_exchange : Name → Name → Parts → Option ℕ
unless_exchange a b w =
    option_or (unless_both_run a b w)
    (of_router (λ one. of_router (unless_joined one) (member_named (name_text b) w)) (member_named (name_text a) w))
