-- What witnesses say of a world: why a router is not settled, and why it is not quiet.
use Rattle.std.specs.Prelude.{◌≡◌, ◌≢◌, ℕ, ◌<◌, IsTrue, List, Option, Some, None, count_by, Contains}
use Rattle.hn_base.specs.declared.ids.NodeId.{NodeId}
use Rattle.hn_base.specs.declared.ids.EpId.{EpId}
use Rattle.hn_base.specs.declared.name.Name.{Name}
use Rattle.hn_base.specs.Ascending.{HasAt}
use Rattle.hn_base.specs.Prefix.{PlainPrefix}
use Rattle.hn_assign.specs.declared.advertised.Advertised.{Advertised}
use Rattle.hn_pair.specs.declared.assigned.Assigned.{Assigned}
use Rattle.hn_pair.specs.declared.assigned.Wish.{Wish}
use Rattle.hn_assign.specs.Best.{IsBest, HasNoBest, HasNoFree}
use Rattle.hn_assign.specs.Gathered.{AreAdvertised}
use Rattle.hn_pair.specs.Pair.{IsWished, assigned_pair, wish_pair}
use Rattle.hn_assign.specs.Rest.{IsAtRest}
use Rattle.hn_deleg.specs.declared.delegated.Delegated.{Delegated}
use Rattle.hn_deleg.specs.Used.{AreUsable}
use Rattle.hn_store.specs.Nodes.{held}
use Rattle.hn_store.specs.declared.stored.Stored.{Stored}
use Rattle.hn_rules.specs.Assigning.{AreAsked}
use Rattle.hn_rules.specs.Seen.{seen_by}
use Rattle.hn_rules.specs.declared.state.State.{State}
use Rattle.hn_world.specs.declared.member.Member.{Member}
use Rattle.hn_world.specs.declared.parts.Parts.{Parts}
use Rattle.hn_audit.specs.declared.witness.Unquiet.{Unquiet}
use Rattle.hn_audit.specs.declared.witness.Unquiet.TheVariants as act
use Rattle.hn_audit.specs.declared.witness.Unsettled.{Unsettled}
use Rattle.hn_audit.specs.declared.witness.Unsettled.TheVariants as cause
use Rattle.hn_audit.specs.Reached.{runs_as, IsRunning, IsReached, IsOnLink, AreOnOneLink}
use Rattle.hn_audit.specs.Settled.{AreLinkedByRules, IsSameEndpoint, UseSame}
use Rattle.hn_audit.specs.Sound.{HasAssignment}

-- one of the set of r, which has the name
pub record IsOfSet (w : Parts) (r : Member) (name : Name) (s : Member) : Type 0 where
  pub reached : IsReached w r s
  pub named : s.name ≡ name

-- ---- why a router is not settled

-- r reaches an identifier that no running router has
pub record IsUnknownId (w : Parts) (r : Member) (id : NodeId) : Type 0 where
  pub reached : Contains r.router.reach id
  pub nobody : count_by (runs_as id) w.members ≡ 0

-- r reaches an identifier that more than one running router has
pub record IsShared (w : Parts) (r : Member) (id : NodeId) : Type 0 where
  pub reached : Contains r.router.reach id
  pub several : 1 < count_by (runs_as id) w.members

-- one of the set reaches other nodes than r
pub record ReachesOthers (w : Parts) (r : Member) (router : Name) : Type 0 where
  pub one : Member
  pub of_set : IsOfSet w r router one
  pub others : one.router.reach ≢ r.router.reach

-- one of the set holds nothing of another one, which has that identifier
pub record HoldsNothing (w : Parts) (r : Member) (router : Name) (node : NodeId) : Type 0 where
  pub one : Member
  pub of_set : IsOfSet w r router one
  pub other : Member
  pub reached : IsReached w r other
  pub id : other.router.id ≡ node
  pub another : one.router.id ≢ node
  pub nothing : held one.router.table.entries node.0 ≡ None

-- one of the set holds of another one, which has that identifier, another number than its current one, or other data
pub record HoldsOld (w : Parts) (r : Member) (router : Name) (node : NodeId) (holds current : ℕ) : Type 0 where
  pub one : Member
  pub of_set : IsOfSet w r router one
  pub other : Member
  pub reached : IsReached w r other
  pub id : other.router.id ≡ node
  pub another : one.router.id ≢ node
  pub stored : Stored
  pub is_held : held one.router.table.entries node.0 ≡ Some stored
  pub held_number : stored.number ≡ holds
  pub number : other.router.number ≡ current
  pub old : holds ≡ current → stored.body ≢ other.router.own.body

-- two of the set do not use the same delegated prefixes, or do not want the same of these
pub record UseOthers (w : Parts) (r : Member) (router other : Name) : Type 0 where
  pub one : Member
  pub of_set : IsOfSet w r router one
  pub another : Member
  pub of_set_too : IsOfSet w r other another
  pub others : ¬ UseSame one.router another.router

-- a running router that r does not reach has that endpoint on the link, on which one of the set has an endpoint
pub record IsStranger (w : Parts) (r : Member) (router : Name) (endpoint : EpId) (link : ℕ) : Type 0 where
  pub one : Member
  pub runs : IsRunning w one
  pub named : one.name ≡ router
  pub unreached : ¬ Contains r.router.reach one.router.id
  pub on_link : IsOnLink link one endpoint
  pub near : Member
  pub reached : IsReached w r near
  pub near_endpoint : EpId
  pub near_on_link : IsOnLink link near near_endpoint

-- two endpoints of the set, e and f
pub record AreTwo (w : Parts) (r : Member) (router : Name) (e : EpId) (other : Name) (f : EpId) : Type 0 where
  pub one : Member
  pub of_set : IsOfSet w r router one
  pub another : Member
  pub of_set_too : IsOfSet w r other another
  pub apart : ¬ IsSameEndpoint one.router e another.router f

-- they are on one link, and not linked
pub record AreUnlinked (w : Parts) (r : Member) (router : Name) (e : EpId) (other : Name) (f : EpId) : Type 0 where
  pub two : AreTwo w r router e other f
  pub on_one_link : AreOnOneLink two.one e two.another f
  pub unlinked : ¬ AreLinkedByRules two.one.router e two.another.router f

-- they are linked, and not on one link
pub record AreElsewhere (w : Parts) (r : Member) (router : Name) (e : EpId) (other : Name) (f : EpId) : Type 0 where
  pub two : AreTwo w r router e other f
  pub linked : AreLinkedByRules two.one.router e two.another.router f
  pub on_no_link : ¬ AreOnOneLink two.one e two.another f

-- what a witness says, by which r is not settled
abbrev pub Refutes : Parts → Member → Unsettled → Type 0
Refutes w r (cause.Unknown id) = IsUnknownId w r id
Refutes w r (cause.Shared id) = IsShared w r id
Refutes w r (cause.OtherReach router) = ReachesOthers w r router
Refutes w r (cause.NotHeld router node) = HoldsNothing w r router node
Refutes w r (cause.OldData router node holds current) = HoldsOld w r router node holds current
Refutes w r (cause.OtherPrefixes router other) = UseOthers w r router other
Refutes w r (cause.Stranger router endpoint link) = IsStranger w r router endpoint link
Refutes w r (cause.NotLinked router e other f) = AreUnlinked w r router e other f
Refutes w r (cause.NotOnOneLink router e other f) = AreElsewhere w r router e other f

-- ---- why a router is not quiet

-- what a router asks for, and what it knows to be advertised, at its moment
pub record Outlook (s : State) : Type 0 where
  pub usable : List Delegated
  pub are_usable : AreUsable (seen_by s) usable
  pub wishes : List Wish
  pub are_asked : AreAsked s usable wishes
  pub advertised : List Advertised
  pub are_advertised : AreAdvertised (seen_by s) s.held.assigned advertised

-- one of the set has an assignment for a pair that it does not ask for
pub record HasUnasked (w : Parts) (r : Member) (router : Name) (endpoint : EpId) (delegated prefix : PlainPrefix) : Type 0 where
  pub one : Member
  pub of_set : IsOfSet w r router one
  pub outlook : Outlook one.router
  pub assignment : Assigned
  pub has : HasAssignment one.router endpoint delegated assignment
  pub of_prefix : assignment.prefix ≡ prefix
  pub unasked : ¬ IsWished outlook.wishes (assigned_pair assignment)

-- one of the set asks for the pair of that endpoint and delegated prefix, and has that assignment for it, or none
pub record AsksFor (w : Parts) (r : Member) (router : Name) (endpoint : EpId) (delegated : PlainPrefix) (assignment : Option Assigned) : Type 0 where
  pub one : Member
  pub of_set : IsOfSet w r router one
  pub outlook : Outlook one.router
  pub wish : Wish
  pub asked : Contains outlook.wishes wish
  pub of_endpoint : wish.endpoint ≡ endpoint
  pub of_delegated : wish.delegated ≡ delegated
  pub has : HasAt assigned_pair (wish_pair wish) assignment one.router.held.assigned

-- it has none, and knows of no best prefix; one is wanted, and it is not so that none is free
pub record WouldMake (w : Parts) (r : Member) (router : Name) (endpoint : EpId) (delegated : PlainPrefix) : Type 0 where
  pub pair : AsksFor w r router endpoint delegated None
  pub no_best : HasNoBest pair.outlook.advertised pair.one.router.id.0 pair.wish.common pair.wish.delegated
  pub wanted : IsTrue pair.wish.wanted
  pub some_free : ¬ HasNoFree pair.outlook.advertised pair.wish.delegated pair.wish.length

-- it has none, and this is the best prefix
pub record WouldTake (w : Parts) (r : Member) (router : Name) (endpoint : EpId) (delegated best : PlainPrefix) : Type 0 where
  pub pair : AsksFor w r router endpoint delegated None
  pub advertised : Advertised
  pub is_best : IsBest pair.outlook.advertised pair.one.router.id.0 pair.wish.common pair.wish.delegated advertised
  pub of_best : advertised.prefix ≡ best

-- it has one, and knows of no best prefix, and the pair is not at rest
pub record WouldDrop (w : Parts) (r : Member) (router : Name) (endpoint : EpId) (delegated prefix : PlainPrefix) : Type 0 where
  pub assignment : Assigned
  pub of_prefix : assignment.prefix ≡ prefix
  pub pair : AsksFor w r router endpoint delegated (Some assignment)
  pub no_best : HasNoBest pair.outlook.advertised pair.one.router.id.0 pair.wish.common pair.wish.delegated
  pub not_at_rest : ¬ IsAtRest pair.outlook.advertised pair.one.router.id.0 pair.wish (Some assignment)

-- it has one, this is the best prefix, and the pair is not at rest
pub record WouldChange (w : Parts) (r : Member) (router : Name) (endpoint : EpId) (delegated prefix best : PlainPrefix) : Type 0 where
  pub assignment : Assigned
  pub of_prefix : assignment.prefix ≡ prefix
  pub pair : AsksFor w r router endpoint delegated (Some assignment)
  pub advertised : Advertised
  pub is_best : IsBest pair.outlook.advertised pair.one.router.id.0 pair.wish.common pair.wish.delegated advertised
  pub of_best : advertised.prefix ≡ best
  pub not_at_rest : ¬ IsAtRest pair.outlook.advertised pair.one.router.id.0 pair.wish (Some assignment)

-- what a witness says, by which r is not quiet
abbrev pub Disturbs : Parts → Member → Unquiet → Type 0
Disturbs w r (act.Unasked router endpoint delegated prefix) = HasUnasked w r router endpoint delegated prefix
Disturbs w r (act.Makes router endpoint delegated) = WouldMake w r router endpoint delegated
Disturbs w r (act.Takes router endpoint delegated best) = WouldTake w r router endpoint delegated best
Disturbs w r (act.Drops router endpoint delegated prefix) = WouldDrop w r router endpoint delegated prefix
Disturbs w r (act.Changes router endpoint delegated prefix best) = WouldChange w r router endpoint delegated prefix best
