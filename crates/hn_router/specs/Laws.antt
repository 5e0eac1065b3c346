-- Laws of the router.
use Rattle.std.specs.Prelude.{◌≡◌, ℕ, ◌^◌, ◌<◌, ◌≤◌, ◌⊎◌, ◌==◌, nat_lt, not, if◌then◌else◌, IsTrue, List, ◌∷◌, ◌++◌, filter, length, All}
use Rattle.hn_base.specs.declared.ids.EpId.{EpId}
use Rattle.hn_base.specs.declared.ids.NodeId.{NodeId}
use Rattle.hn_base.specs.Addr.{IsLinkLocal}
use Rattle.hn_base.specs.Exists.{Some! }
use Rattle.hn_base.specs.Words.{Begins}
use Rattle.hn_base.specs.declared.letter.Letter.{Letter}
use Rattle.hn_advert.specs.Advert.{IsInRange}
use Rattle.hn_advert.specs.declared.advert.Advert.{Advert}
use Rattle.hn_tlv.specs.Grammar.{FirstFault}
use Rattle.hn_rules.specs.declared.state.State.{State}
use Rattle.hn_rules.specs.declared.done.Done.{Done}
use Rattle.hn_rules.specs.declared.done.Publication.{Publication}
use Rattle.hn_rules.specs.declared.running.Origin.{Origin}
use Rattle.hn_rules.specs.declared.running.Running.{Running}
use Rattle.hn_router.specs.Advertising.{IsAdvertAt, IsAdvertBytes}
use Rattle.hn_router.specs.New.{IsNew}
use Rattle.hn_own.specs.Ports.{endpoints_of}
use Rattle.hn_router.specs.Act.{PlainEvent, Arrive, Tick, Attach, Detach, is_refused, IsEventInRange, IsOfBytes, IsEvent, Happened, HasResults}
use Rattle.hn_rules.specs.Genuine.{IsGenuine, TextsCollide, BytesSayPublished}
use Rattle.hn_router.specs.Sends.{IsShortSend, IsSendOfBytes}
use Rattle.hn_rules.specs.Router.{IsRouter}
use Rattle.hn_rules.specs.Seen.{IsElectedAt}
use Rattle.hn_rules.specs.Assigning.{IsRunAssigned}
use Rattle.hn_rules.specs.KeptAtRest.{IsKeptAtRest}
use Rattle.hn_rules.specs.Undue.{at_moment, IsKeptUndue}
use Rattle.hn_assign.specs.Fixed.{AreAssignmentsUnchanged}
use Rattle.hn_assign.specs.declared.ran.Ran.{Ran}

-- From one state, with one event, moment and stream of words, there is at most one result.
abbrev pub OneResult : Type 0
OneResult =
    (now : ℕ) (event : PlainEvent) (s a b : State) (done_a done_b : Done) (stream : ℕ → ℕ)
    → Happened now event s a done_a → Happened now event s b done_b
    → Begins done_a.words stream → Begins done_b.words stream → (a ≡ b) × (done_a ≡ done_b)

-- ---- a result

-- An event that a router may meet has a result.
abbrev pub EventHasAResult : Type 0
EventHasAResult =
    (now : ℕ) (event : PlainEvent) (s : State) → IsRouter s → s.moment ≤ now → IsEventInRange event → IsOfBytes event → HasResults now event s

-- There is a new router of an identifier and a limit at a moment.
abbrev pub NewExists : Type 0
NewExists = (id : NodeId) (limit now : ℕ) → (s : State) × IsNew id limit now s

-- There is at most one.
abbrev pub NewIsUnique : Type 0
NewIsUnique = (id : NodeId) (limit now : ℕ) (a b : State) → IsNew id limit now a → IsNew id limit now b → a ≡ b

-- A new router whose identifier has 32 bits, and that may hold 256 or 1,024 nodes, is one; and what an event leaves of a
-- router is one.
abbrev pub NewIsRouter : Type 0
NewIsRouter =
    (id : NodeId) (limit now : ℕ) (s : State) → id.0 < 2 ^ 32 → (limit ≡ 256) ⊎ (limit ≡ 1024) → IsNew id limit now s → IsRouter s

abbrev pub RouterStays : Type 0
RouterStays =
    (now : ℕ) (event : PlainEvent) (s next : State) (done : Done)
    → IsRouter s → s.moment ≤ now → IsEventInRange event → Happened now event s next done → IsRouter next

-- No event changes the moment at which it happens.
abbrev pub MomentStays : Type 0
MomentStays = (event : PlainEvent) (before after : Running) → IsEvent event before after → after.state.moment ≡ before.state.moment

-- After an event a router's moment is that of the event.
abbrev pub MomentIsNow : Type 0
MomentIsNow = (now : ℕ) (event : PlainEvent) (s next : State) (done : Done) → Happened now event s next done → next.moment ≡ now

-- the endpoints after an event that is not refused
abbrev pub endpoints_by : PlainEvent → List EpId → List EpId
endpoints_by (Attach at) ends = filter (λ e. nat_lt e.0 at.0) ends ++ at ∷ filter (λ e. nat_lt at.0 e.0) ends
endpoints_by (Detach at) ends = filter (λ e. not (e.0 == at.0)) ends
endpoints_by _ ends = ends

-- A router's endpoints change where one is attached or detached, and by no other event.
abbrev pub EndpointsFollow : Type 0
EndpointsFollow =
    (now : ℕ) (event : PlainEvent) (s next : State) (done : Done)
    → Happened now event s next done
    → endpoints_of next.ports ≡ (if is_refused event s then endpoints_of s.ports else endpoints_by event (endpoints_of s.ports))

-- A router has at most one advertisement on an endpoint at its moment.
abbrev pub RouterHasOneAdvert : Type 0
RouterHasOneAdvert = (s : State) (e : EpId) (a b : List ℕ) → IsAdvertBytes s e a → IsAdvertBytes s e b → a ≡ b

-- It cannot be that there is no answer of who is elected, nor that nothing is advertised. The numbers of what is advertised
-- fit their fields.
abbrev pub ElectedExists : Type 0
ElectedExists = (s : State) (e : EpId) (letter : Letter) → IsRouter s → Some! (IsElectedAt s e letter)

abbrev pub AdvertExists : Type 0
AdvertExists = (s : State) (e : EpId) → IsRouter s → Some! (λ (a : Advert). IsAdvertAt s e a × IsInRange a)

-- ---- limits

-- What a router sends fits a datagram.
abbrev pub SendsAreShort : Type 0
SendsAreShort =
    (now : ℕ) (event : PlainEvent) (s next : State) (done : Done)
    → IsRouter s → s.moment ≤ now → IsEventInRange event → Happened now event s next done → All IsShortSend done.sends

-- What a router sends is a list of bytes.
abbrev pub SendsAreBytes : Type 0
SendsAreBytes =
    (now : ℕ) (event : PlainEvent) (s next : State) (done : Done)
    → IsRouter s → s.moment ≤ now → IsEventInRange event → Happened now event s next done → All IsSendOfBytes done.sends

-- No event changes how many nodes a table may hold.
abbrev pub LimitStays : Type 0
LimitStays =
    (now : ℕ) (event : PlainEvent) (s next : State) (done : Done) → Happened now event s next done → next.table.limit ≡ s.table.limit

-- After refused input a router is as it was but for the moment, and it keeps no moment at which something is next due: after
-- an event that is refused, a datagram from an address that is not link-local, and one that is no list of TLVs.
pub record RefusedInputStays : Type 0 where
  pub refused : (now : ℕ) (event : PlainEvent) (s next : State) (done : Done) → Happened now event s next done
      → IsTrue (is_refused event s) → next ≡ record s { moment = now; due = 0 }
  pub far : (now : ℕ) (from : Origin) (bytes : List ℕ) (s next : State) (done : Done) → Happened now (Arrive from bytes) s next done
      → ¬ (IsLinkLocal from.from.ip) → next ≡ record s { moment = now; due = 0 }
  pub malformed : (now : ℕ) (from : Origin) (bytes : List ℕ) (place why : ℕ) (s next : State) (done : Done) → Happened now (Arrive from bytes) s next done
      → FirstFault bytes place why → next ≡ record s { moment = now; due = 0 }

-- Where nothing that a router keeps has come to its moment, and the assignment subroutine would change nothing, a tick
-- changes neither what others see of the router nor its assignments, marks of application aside.
abbrev pub CalmTickStays : Type 0
CalmTickStays =
    (now : ℕ) (s next : State) (done : Done) → IsRouter s → s.moment ≤ now → IsKeptUndue now s
    → ((ran : Ran) → IsRunAssigned (at_moment now s) ran → AreAssignmentsUnchanged s.held.assigned ran.held.assigned)
    → Happened now Tick s next done → IsKeptAtRest s next

-- ---- what was published

-- a datagram that arrives says what was published; other events carry none
abbrev pub IsTrusted : List Publication → PlainEvent → Type 0
IsTrusted past (Arrive from bytes) = BytesSayPublished past bytes
IsTrusted past _ = Unit {0}

-- A router's own and held node data stay published, and so does what it sends, or texts that were published collide.
abbrev pub GenuineStays : Type 0
GenuineStays =
    (past : List Publication) (now : ℕ) (event : PlainEvent) (s next : State) (done : Done)
    → IsRouter s → s.moment ≤ now → IsEventInRange event → IsGenuine past s → IsTrusted past event → Happened now event s next done
    → (IsGenuine (past ++ done.published) next × All (λ o. BytesSayPublished (past ++ done.published) o.bytes) done.sends)
    ⊎ TextsCollide (past ++ done.published)
