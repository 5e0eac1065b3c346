-- A quiet home stays: a settled and quiet router stays so, with the same assignments, over time that passes, ticks that nothing
-- disturbs, and deliveries of what its own routers say (RFC 7787, sections 4.3, 4.4 and 7.2.2).
use Rattle.std.specs.Prelude.{◌≡◌, ◌↔◌, ◌-◌, ℕ, List, Some}
use Rattle.std.specs.List.{slice_get}
use Rattle.hn_base.specs.Name.{name_text}
use Rattle.hn_assign.specs.Fixed.{AreAssignmentsUnchanged}
use Rattle.hn_rules.specs.declared.done.Note.{Note}
use Rattle.hn_rules.specs.declared.running.Origin.{Origin}
use Rattle.hn_rules.specs.declared.state.State.{State}
use Rattle.hn_rules.specs.Undue.{IsKeptUndue}
use Rattle.hn_rules.specs.Updates.{IsPeersUpdate, AreAgesUndue}
use Rattle.hn_world.specs.declared.copies.MailCopy.{MailCopy}
use Rattle.hn_world.specs.declared.event.Traced.{Traced}
use Rattle.hn_world.specs.declared.event.WEvent.{WEvent}
use Rattle.hn_world.specs.declared.event.WEvent.TheVariants as event
use Rattle.hn_world.specs.declared.member.Member.{Member}
use Rattle.hn_world.specs.declared.parts.Parts.{Parts}
use Rattle.hn_world.specs.Names.{router_place}
use Rattle.hn_world.specs.Replay.{IsReplayed, Throughout}
use Rattle.hn_world.specs.Step.{Step}
use Rattle.hn_audit.specs.Reached.{IsRunning, IsReached}
use Rattle.hn_audit.specs.Settled.{IsSettledByRules, UseSame}
use Rattle.hn_audit.specs.Quiet.{IsQuietByRules}

-- the router of a place before and after
pub record IsMemberAt (place : ℕ) (before after : Parts) (m next : Member) : Type 0 where
  pub was : slice_get before.members place ≡ Some m
  pub is : slice_get after.members place ≡ Some next

-- A router's tick at that moment has no cause to change what it says or reaches, and it uses and wants afterwards what it
-- did before.
pub record IsCalmTick (now : ℕ) (before after : State) : Type 0 where
  pub undue : IsKeptUndue now before
  pub used : UseSame before after

-- ---- a delivery

-- how a copy arrives
abbrev pub origin_of : MailCopy → Origin
origin_of mail = record { endpoint = mail.to.endpoint; from = mail.from; multicast = mail.multicast }

-- A copy is current for its router: a status update by multicast with the router's own network state hash, from a peer of
-- the endpoint that it goes to.
abbrev pub IsCurrent : MailCopy → State → Type 0
IsCurrent mail s = IsPeersUpdate (origin_of mail) mail.bytes s

-- a current copy arrives while the node data are young, and its router uses and wants afterwards what it did before
pub record IsCalmArrival (now : ℕ) (mail : MailCopy) (before after : State) : Type 0 where
  pub current : IsCurrent mail before
  pub young : AreAgesUndue now before
  pub used : UseSame before after

-- The router to which a copy goes keeps its identifier, and if it is one of the set of r, the arrival is calm.
abbrev pub IsCalmDelivery : ℕ → Parts → Parts → Member → Type 0
IsCalmDelivery copy before after r =
    (mail : MailCopy) (x next : Member) → slice_get before.copies (copy - 1) ≡ Some mail → IsMemberAt mail.to.place before after x next
    → (next.router.id ≡ x.router.id) × (IsReached before r x → IsCalmArrival before.moment mail x.router next.router)

-- ---- an event

-- Time passes, a router ticks, or a copy is delivered; if the router is one of the set of r, the tick is calm, and the delivery
-- is calm.
abbrev pub IsCalm : WEvent → Parts → Parts → Member → Type 0
IsCalm (event.Time moment) before after r = Unit {0}
IsCalm (event.Tick name) before after r =
    (place : ℕ) (x next : Member) → router_place (name_text name) before ≡ Some place → IsMemberAt place before after x next
    → IsReached before r x → IsCalmTick before.moment x.router next.router
IsCalm (event.Deliver copy) before after r = IsCalmDelivery copy before after r
IsCalm _ before after r = ⊥

-- the set is the same, and each of it holds the same assignments, marks of application aside
abbrev pub KeepAssignments : Parts → Parts → Member → Member → Type 0
KeepAssignments before after r next =
    (place : ℕ) (s then : Member) → IsMemberAt place before after s then
    → (IsReached before r s ↔ IsReached after next then)
    × (IsReached before r s → AreAssignmentsUnchanged s.router.held.assigned then.router.held.assigned)

-- a settled and quiet router stays so
abbrev pub QuietStays : WEvent → Parts → Parts → Type 0
QuietStays event before after =
    (place : ℕ) (r next : Member) → IsMemberAt place before after r next
    → IsRunning before r → IsSettledByRules before r → IsQuietByRules before r → IsCalm event before after r
    → IsSettledByRules after next × IsQuietByRules after next × KeepAssignments before after r next

-- So it is over each event that a replayed world accepts.
abbrev pub QuietHomesStay : Type 0
QuietHomesStay = (t : Traced) (notes : List Note) (before after : Parts) → IsReplayed before → Step t notes before after → QuietStays t.event before after

-- And so it was over each event of its trace.
abbrev pub QuietHomesAlwaysStay : Type 0
QuietHomesAlwaysStay = (w : Parts) → IsReplayed w → Throughout QuietStays w
