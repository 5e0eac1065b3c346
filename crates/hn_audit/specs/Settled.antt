-- A settled router: its set know each other as they are, and nobody else is on their links. A private link needs no fact
-- of its own: it is no link of the world, and no router has a Peer of endpoint 0.
use Rattle.std.specs.Prelude.{◌≡◌, ◌≢◌, ◌↔◌, ℕ, List, Some, All}
use Rattle.hn_base.specs.declared.ids.EpId.{EpId}
use Rattle.hn_data.specs.Peers.{IsLinked}
use Rattle.hn_deleg.specs.declared.delegated.Delegated.{Delegated}
use Rattle.hn_deleg.specs.Used.{AreUsable, IsUnwanted, prefixes_of}
use Rattle.hn_store.specs.Nodes.{held}
use Rattle.hn_store.specs.declared.stored.Stored.{Stored}
use Rattle.hn_rules.specs.declared.state.State.{State}
use Rattle.hn_rules.specs.Seen.{seen_by}
use Rattle.hn_world.specs.declared.member.Member.{Member}
use Rattle.hn_world.specs.declared.parts.Parts.{Parts}
use Rattle.hn_audit.specs.Reached.{IsRunning, IsOfOne, IsReached, AreOnOneLink}

-- a router holds of another exactly its sequence number and its node data
pub record HoldsState (s u : State) : Type 0 where
  pub stored : Stored
  pub is_held : held s.table.entries u.id.0 ≡ Some stored
  pub number : stored.number ≡ u.number
  pub body : stored.body ≡ u.own.body

-- the delegated prefixes are the same, and those that are wanted too
pub record AreSame (a b : List Delegated) : Type 0 where
  pub prefixes : prefixes_of a ≡ prefixes_of b
  pub wanted : (place : ℕ) → IsUnwanted a place ↔ IsUnwanted b place

-- two routers use the same delegated prefixes, each at its own moment, and want the same of these
pub record UseSame (s u : State) : Type 0 where
  pub one : List Delegated
  pub is_one : AreUsable (seen_by s) one
  pub other : List Delegated
  pub is_other : AreUsable (seen_by u) other
  pub same : AreSame one other

-- endpoints of two routers are linked, as their node data say
abbrev pub AreLinkedByRules : State → EpId → State → EpId → Type 0
AreLinkedByRules s e u f = IsLinked s.own.body s.id.0 e.0 u.own.body u.id.0 f.0

-- the same endpoint of the same node
abbrev pub IsSameEndpoint : State → EpId → State → EpId → Type 0
IsSameEndpoint s e u f = (s.id ≡ u.id) × (e ≡ f)

pub record IsSettledByRules (w : Parts) (r : Member) : Type 0 where
  -- each identifier that r reaches is that of exactly one running router
  pub known : All (IsOfOne w) r.router.reach
  -- each of the set reaches the same
  pub same_reach : (s : Member) → IsReached w r s → s.router.reach ≡ r.router.reach
  -- each of the set holds of each other exactly its sequence number and its node data
  pub held :
      (s u : Member) → IsReached w r s → IsReached w r u → s.router.id ≢ u.router.id → HoldsState s.router u.router
  -- all of the set use the same delegated prefixes, and want the same of these
  pub used : (s u : Member) → IsReached w r s → IsReached w r u → UseSame s.router u.router
  -- a running router with an endpoint on a link of one of the set is of the set
  pub no_strangers :
      (m s : Member) (e f : EpId) → IsRunning w m → IsReached w r s → AreOnOneLink m e s f → IsReached w r m
  -- two endpoints of the set are linked if and only if both are attached to one link
  pub linked :
      (s u : Member) (e f : EpId) → IsReached w r s → IsReached w r u → ¬ IsSameEndpoint s.router e u.router f
      → AreLinkedByRules s.router e u.router f ↔ AreOnOneLink s e u f
