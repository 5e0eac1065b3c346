-- What an event does to a world that accepts it.
use Rattle.std.specs.Prelude.{◌≡◌, ℕ, ◌-◌, ◌^◌, ◌<◌, ◌≤◌, not, true, false, List, [], ◌∷◌, ◌++◌, filter, Option, None, Some}
use Rattle.std.specs.List.{slice_get, slice_set}
use Rattle.std.specs.Option.{option_map_or}
use Rattle.hn_base.specs.Name.{name_text}
use Rattle.hn_base.specs.declared.name.Name.{Name}
use Rattle.hn_base.specs.declared.ids.NodeId.{NodeId}
use Rattle.hn_base.specs.declared.ids.EpId.{EpId}
use Rattle.hn_base.specs.Words.{Took}
use Rattle.hn_rules.specs.declared.done.Done.{Done}
use Rattle.hn_rules.specs.declared.done.Note.{Note}
use Rattle.hn_rules.specs.declared.state.State.{State}
use Rattle.hn_router.specs.Act.{PlainEvent, Arrive, IsEventInRange, Happened}
use Rattle.hn_router.specs.New.{IsNew}
use Rattle.hn_world.specs.declared.copies.MailCopy.{MailCopy}
use Rattle.hn_world.specs.declared.event.WEvent.{WEvent}
use Rattle.hn_world.specs.declared.event.WEvent.TheVariants as event
use Rattle.hn_world.specs.declared.event.Traced.{Traced}
use Rattle.hn_world.specs.declared.member.Member.{Member}
use Rattle.hn_world.specs.declared.parts.Parts.{Parts}
use Rattle.hn_world.specs.Limits.{table_limit}
use Rattle.hn_world.specs.Names.{router_place, link_place, is_of}
use Rattle.hn_world.specs.Mail.{copies_of}
use Rattle.hn_world.specs.Refusal.{refusal}
use Rattle.hn_world.specs.Routed.{routed}

-- a router of the world is changed
abbrev pub with_member : ℕ → Member → Parts → Parts
with_member place m w = record w { members = slice_set w.members place m }

-- what came of an event at the router of a place: its next state and what changes beside it, the copies of what it sent,
-- and what it published
abbrev pub acted : (Member → Member) → ℕ → Member → State → Done → Parts → Parts
acted change place m next done w = record w {
  members = slice_set w.members place (change (record m { router = next }));
  copies = w.copies ++ copies_of w.members place m done.sends;
  published = w.published ++ done.published;
}

-- an event happens to the router at a place, and this changes beside it
pub record ActsAt (change : Member → Member) (place : ℕ) (event : PlainEvent) (words : List ℕ) (notes : List Note) (before after : Parts) : Type 0 where
  pub member : Member
  pub is_member : slice_get before.members place ≡ Some member
  pub next : State
  pub done : Done
  pub happened : Happened before.moment event member.router next done
  pub took : words ≡ done.words
  pub noted : notes ≡ done.notes
  pub gives : after ≡ acted change place member next done before

-- and so to the router of a name
pub record RouterActs (change : Member → Member) (name : Name) (event : PlainEvent) (words : List ℕ) (notes : List Note) (before after : Parts) : Type 0 where
  pub place : ℕ
  pub is_place : router_place (name_text name) before ≡ Some place
  pub acts : ActsAt change place event words notes before after

-- with no word taken and nothing noted
pub record Quietly (given : Parts) (words : List ℕ) (notes : List Note) (after : Parts) : Type 0 where
  pub took : words ≡ []
  pub noted : notes ≡ []
  pub gives : after ≡ given

-- a new running router, which holds as many other nodes as the version says; what it publishes first is a publication
pub record RouterBegins (name : Name) (id : NodeId) (words : List ℕ) (notes : List Note) (before after : Parts) : Type 0 where
  pub router : State
  pub is_new : IsNew id (table_limit before.version) before.moment router
  pub quietly : Quietly (record before {
    members = before.members ++ record { name = name; running = true; router = router; attachments = [] } ∷ [];
    published = before.published ++ record { id = id; number = 1; body = router.own.body } ∷ [];
  }) words notes after

-- an endpoint is attached to a link, and detached from its link
abbrev pub attached_to : ℕ → EpId → Member → Member
attached_to link endpoint m = record m { attachments = m.attachments ++ record { endpoint = endpoint; link = link } ∷ [] }

abbrev pub detached_from : EpId → Member → Member
detached_from endpoint m = record m { attachments = filter (λ a. not (is_of endpoint a)) m.attachments }

-- a router starts, and it stops
abbrev pub started : Member → Member
started m = record m { running = true }

abbrev pub stopped : Member → Member
stopped m = record m { running = false }

-- what an event at a router changes beside it: its endpoints' links, and whether it runs
abbrev pub beside : WEvent → Parts → Member → Member
beside (event.Attach name endpoint link) w m = option_map_or (λ at. attached_to at endpoint m) (link_place (name_text link) w) m
beside (event.Detach name endpoint) w m = detached_from endpoint m
beside (event.Start name) w m = started m
beside _ w m = m

-- a router stops
pub record Stops (name : Name) (words : List ℕ) (notes : List Note) (before after : Parts) : Type 0 where
  pub place : ℕ
  pub member : Member
  pub is_place : router_place (name_text name) before ≡ Some place
  pub is_member : slice_get before.members place ≡ Some member
  pub quietly : Quietly (with_member place (stopped member) before) words notes after

-- a copy waits no longer
abbrev pub taken : ℕ → MailCopy → Parts → Parts
taken copy c w = record w { copies = slice_set w.copies (copy - 1) (record c { waiting = false }) }

-- a copy is delivered to its endpoint
pub record DeliversCopy (copy : ℕ) (words : List ℕ) (notes : List Note) (before after : Parts) : Type 0 where
  pub mail : MailCopy
  pub is_copy : slice_get before.copies (copy - 1) ≡ Some mail
  pub between : Parts
  pub acts : ActsAt (λ m. m) mail.to.place (Arrive (record { endpoint = mail.to.endpoint; from = mail.from; multicast = mail.multicast }) mail.bytes) words notes before between
  pub gives : after ≡ taken copy mail between

-- a copy is dropped
pub record Drops (copy : ℕ) (words : List ℕ) (notes : List Note) (before after : Parts) : Type 0 where
  pub mail : MailCopy
  pub is_copy : slice_get before.copies (copy - 1) ≡ Some mail
  pub quietly : Quietly (taken copy mail before) words notes after

-- what an event does that happens at no router by its name
abbrev pub DoesElse : WEvent → List ℕ → List Note → Parts → Parts → Type 0
DoesElse (event.Router name id) words notes before after = RouterBegins name id words notes before after
DoesElse (event.Link name) words notes before after = Quietly (record before { links = before.links ++ name ∷ [] }) words notes after
DoesElse (event.Stop name) words notes before after = Stops name words notes before after
DoesElse (event.Time moment) words notes before after = Quietly (record before { moment = moment }) words notes after
DoesElse (event.Deliver copy) words notes before after = DeliversCopy copy words notes before after
DoesElse (event.Drop copy) words notes before after = Drops copy words notes before after
DoesElse _ words notes before after = ⊥

-- what an event does: what happens at its router, with what changes beside it, or else
abbrev pub DoesAt : WEvent → Option (Name × PlainEvent) → List ℕ → List Note → Parts → Parts → Type 0
DoesAt event (Some own) words notes before after = RouterActs (beside event before) own.0 own.1 words notes before after
DoesAt event None words notes before after = DoesElse event words notes before after

abbrev pub Does : WEvent → List ℕ → List Note → Parts → Parts → Type 0
Does event words notes before after = DoesAt event (routed event) words notes before after

-- with an event in its trace
abbrev pub entered : Traced → Parts → Parts
entered t w = record w { trace = w.trace ++ t ∷ [] }

-- the numbers of an event are in range: identifiers and endpoints have 32 bits, no endpoint has number 0, and a moment is
-- at most 2^48
abbrev pub IsWorldEventInRange : WEvent → Type 0
IsWorldEventInRange (event.Router name id) = id.0 < 2 ^ 32
IsWorldEventInRange (event.Attach name endpoint link) = (0 < endpoint.0) × (endpoint.0 < 2 ^ 32)
IsWorldEventInRange (event.Time moment) = moment ≤ 2 ^ 48
IsWorldEventInRange _ = Unit {0}

-- what an event gives its router, if it happens at one by its name, fits
abbrev pub FitsAt : Option (Name × PlainEvent) → Type 0
FitsAt None = Unit {0}
FitsAt (Some own) = IsEventInRange own.1

-- a world accepts an event, which takes these words
pub record Step (t : Traced) (notes : List Note) (before after : Parts) : Type 0 where
  pub accepted : refusal before t.event ≡ None
  pub in_range : IsWorldEventInRange t.event
  pub fits : FitsAt (routed t.event)
  pub between : Parts
  pub does : Does t.event t.words notes before between
  pub gives : after ≡ entered t between

-- an event happens in a world, and a draw moves by exactly the words that it took
pub record IsStep (event : WEvent) (notes : List Note) (told told_after : Option (ℕ → ℕ)) (before after : Parts) : Type 0 where
  pub words : List ℕ
  pub step : Step (record { event = event; words = words }) notes before after
  pub drew : Took told words told_after
