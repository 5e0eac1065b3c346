-- Which rules an event runs, and in which order.
use Rattle.std.specs.Prelude.{◌≡◌, ℕ, ◌^◌, ◌<◌, ◌==◌, ◌||◌, IsTrue, false, Bool, not, ◌⊎◌, nat_lt, length, List, Option, All}
use Rattle.hn_base.specs.declared.ids.EpId.{EpId}
use Rattle.hn_base.specs.declared.caps.Caps.{Caps}
use Rattle.hn_base.specs.Addr.{IsLinkLocal}
use Rattle.hn_base.specs.Byte.{IsByte}
use Rattle.hn_base.specs.Exists.{Some! }
use Rattle.hn_base.specs.Prefix.{PlainPrefix}
use Rattle.hn_tlv.specs.Grammar.{PlainTlv, IsTlvList, FirstFault}
use Rattle.hn_router.specs.declared.event.Event.{Event}
use Rattle.hn_router.specs.declared.event.Event.TheVariants as event
use Rattle.hn_rules.specs.declared.state.State.{State}
use Rattle.hn_rules.specs.declared.running.Running.{Running}
use Rattle.hn_rules.specs.declared.running.Origin.{Origin}
use Rattle.hn_rules.specs.declared.done.Done.{Done}
use Rattle.hn_rules.specs.declared.done.Note.TheVariants as note
use Rattle.hn_own.specs.Addresses.{OwnAddress, may_address}
use Rattle.hn_own.specs.Ports.{is_attached}
use Rattle.hn_own.specs.Ranges.{IsRangedAddress}
use Rattle.hn_own.specs.OwnPrefixes.{may_delegate}
use Rattle.hn_base.specs.Rules.{Then}
use Rattle.hn_base.specs.Words.{Begins}
use Rattle.hn_rules.specs.Rules.{Rule, Ran, begun_at, noted}
use Rattle.hn_rules.specs.Refresh.{IsRefresh}
use Rattle.hn_rules.specs.Arrival.{IsArrival}
use Rattle.hn_rules.specs.Ticks.{IsTick}
use Rattle.hn_rules.specs.Delegating.{delegating, withdrawing}
use Rattle.hn_rules.specs.Given.{IsRangedDelegation, IsPrivateLength}
use Rattle.hn_rules.specs.Done.{nothing}
use Rattle.hn_rules.specs.Due.{IsNextDue}
use Rattle.hn_rules.specs.Events.{IsAttaching, detaching, setting_caps, setting_private, setting_addresses, IsRestarting}

-- What may happen to a router, without where a datagram or a list lies in memory.
pub data PlainEvent : Type 0 where
  Arrive : (from : Origin) (bytes : List ℕ) → PlainEvent
  Tick : PlainEvent
  Attach : (at : EpId) → PlainEvent
  Detach : (at : EpId) → PlainEvent
  External : (prefix : PlainPrefix) (valid preferred : ℕ) → PlainEvent
  Withdraw : (prefix : PlainPrefix) → PlainEvent
  SetCaps : (caps : Caps) → PlainEvent
  Private : (length : Option ℕ) → PlainEvent
  Addresses : (list : List OwnAddress) → PlainEvent
  Restart : PlainEvent

abbrev pub plain_event : Event → PlainEvent
plain_event (event.Arrive endpoint from multicast bytes) = Arrive (record { endpoint = endpoint; from = from; multicast = multicast }) bytes.now
plain_event event.Tick = Tick
plain_event (event.Attach endpoint) = Attach endpoint
plain_event (event.Detach endpoint) = Detach endpoint
plain_event (event.External prefix valid preferred) = External prefix valid preferred
plain_event (event.Withdraw prefix) = Withdraw prefix
plain_event (event.Caps caps) = SetCaps caps
plain_event (event.Private length) = Private length
plain_event (event.Addresses list) = Addresses list.now
plain_event event.Restart = Restart

-- What an event gives a router fits: the number of an endpoint that is attached has 32 bits, a delegated prefix is one and
-- has lifetimes of 32 bits, the prefixes of a private link have from 1 to 64 bits, and own addresses have 128 bits.
abbrev pub IsEventInRange : PlainEvent → Type 0
IsEventInRange (Attach at) = at.0 < 2 ^ 32
IsEventInRange (External prefix valid preferred) = IsRangedDelegation prefix valid preferred
IsEventInRange (Private length) = IsPrivateLength length
IsEventInRange (Addresses list) = All IsRangedAddress list
IsEventInRange _ = Unit {0}

-- a datagram that arrives is of bytes
abbrev pub IsOfBytes : PlainEvent → Type 0
IsOfBytes (Arrive from bytes) = All IsByte bytes
IsOfBytes _ = Unit {0}

-- a datagram from a source that is not link-local, one of bytes that are no list of TLVs, and a list of TLVs
pub record IsFar (from : Origin) (before after : Running) : Type 0 where
  pub far : ¬ (IsLinkLocal from.from.ip)
  pub gives : after ≡ noted note.Far before

pub record IsMalformed (from : Origin) (bytes : List ℕ) (before after : Running) : Type 0 where
  pub near : IsLinkLocal from.from.ip
  pub place : ℕ
  pub why : ℕ
  pub fault : FirstFault bytes place why
  pub gives : after ≡ noted (note.Malformed place why) before

pub record IsRead (from : Origin) (bytes : List ℕ) (before after : Running) : Type 0 where
  pub near : IsLinkLocal from.from.ip
  pub tlvs : List PlainTlv
  pub list : IsTlvList tlvs bytes
  pub arrives : IsArrival from tlvs before after

-- whether the event is refused: an arrival or a detachment at an endpoint that is not attached; an attachment of
-- endpoint 0, of an attached one, or of a seventeenth; a ninth delegated prefix; a list that may not be the own addresses
abbrev pub is_refused : PlainEvent → State → Bool
is_refused (Arrive from bytes) s = not (is_attached from.endpoint s.ports)
is_refused Tick s = false
is_refused (Attach at) s = at.0 == 0 || (is_attached at s.ports || not (nat_lt (length s.ports) 16))
is_refused (Detach at) s = not (is_attached at s.ports)
is_refused (External prefix valid preferred) s = not (may_delegate prefix s.delegated)
is_refused (Withdraw prefix) s = false
is_refused (SetCaps caps) s = false
is_refused (Private length) s = false
is_refused (Addresses list) s = not (may_address list s.ports)
is_refused Restart s = false

-- what an event edits before a refresh; an arrival and a tick edit nothing
abbrev pub IsEdit : PlainEvent → Rule
IsEdit (Attach at) before after = IsAttaching at before after
IsEdit (Detach at) before after = after ≡ detaching at before
IsEdit (External prefix valid preferred) before after = after ≡ delegating prefix valid preferred before
IsEdit (Withdraw prefix) before after = after ≡ withdrawing prefix before
IsEdit (SetCaps caps) before after = after ≡ setting_caps caps before
IsEdit (Private length) before after = after ≡ setting_private length before
IsEdit (Addresses list) before after = after ≡ setting_addresses list before
IsEdit Restart before after = IsRestarting before after
IsEdit _ before after = after ≡ before

-- which rules an event runs that is not refused: those of an arrival or a tick, or its edit and then a refresh
abbrev pub IsEventRule : PlainEvent → Rule
IsEventRule (Arrive from bytes) before after = IsFar from before after ⊎ (IsMalformed from bytes before after ⊎ IsRead from bytes before after)
IsEventRule Tick before after = IsTick before after
IsEventRule event before after = Then (IsEdit event) IsRefresh before after

-- an event: a refused one is noted, and nothing but the moment changes
abbrev pub IsEvent : PlainEvent → Rule
IsEvent event before after =
    (IsTrue (is_refused event before.state) × (after ≡ noted note.Refused before))
    ⊎ ((is_refused event before.state ≡ false) × IsEventRule event before after)

-- a tick that did nothing: nothing came of it, and but for the moment the router is as it was
abbrev pub DidNothing : PlainEvent → Running → Running → Type 0
DidNothing event begun after = (event ≡ Tick) × (after.state ≡ begun.state) × (after.done ≡ nothing)

-- The moment that a router keeps after an event: after a tick that did nothing the one at which something is next due, and
-- else 0.
abbrev pub IsDueAfter : PlainEvent → Running → Running → ℕ → Type 0
IsDueAfter event begun after due =
    (DidNothing event begun after × IsNextDue after.state due) ⊎ (¬ (DidNothing event begun after) × (due ≡ 0))

-- an event happens to a router at a moment: its next state, with the moment that it keeps, and what came of the event
unfoldable pub Happened : ℕ → PlainEvent → State → State → Done → Type 0
Happened now event s next done =
    (after : Running) × IsEvent event (begun_at now s) after × ((due : ℕ) × IsDueAfter event (begun_at now s) after due
    × (next ≡ record after.state { due = due })) × (done ≡ after.done)

-- over each stream of words an event has a result: it cannot be that there is none
unfoldable pub HasResults : ℕ → PlainEvent → State → Type 0
HasResults now event s =
    (stream : ℕ → ℕ) → Some! (λ (result : State × Done). Happened now event s result.0 result.1 × Begins result.1.words stream)

-- an event ran, and a draw moved by exactly the words that it took
unfoldable pub HasRun : PlainEvent → Option (ℕ → ℕ) → Option (ℕ → ℕ) → Running → Running → Type 0
HasRun event told told_after before after = Ran (IsEvent event) told told_after before after
