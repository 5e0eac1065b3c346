-- What a router finds out before it decides.
use Rattle.std.specs.Prelude.{◌≡◌, ◌≢◌, ◌↔◌, ◌⊎◌, ◌<◌, IsTrue, List, Contains, Option, MatchOption}
use Rattle.std.specs.declared.cmp.Ordering.TheVariants.{Less}
use Rattle.hn_base.specs.Prefix.{PlainPrefix, prefix_cmp}
use Rattle.hn_base.specs.declared.ids.NodeId.{NodeId}
use Rattle.hn_deleg.specs.declared.delegated.Delegated.{Delegated}
use Rattle.hn_rules.specs.declared.state.State.{State}
use Rattle.hn_ula.specs.Ula.{IsLocal, IsOwnOf, IsGreatestOwn, MustGo, HasTwo, IsToAnnounce}
use Rattle.hn_ula.specs.declared.found.Found.{Found}
use Rattle.hn_ula.specs.declared.generated.Generated.{Generated}

-- the list has the prefix for the node
abbrev pub HasOf : List Generated → NodeId → PlainPrefix → Type 0
HasOf list node p = Contains list (record { node = node; prefix = p })

-- and has no greater one for it
pub record IsGreatestOf (list : List Generated) (node : NodeId) (p : PlainPrefix) : Type 0 where
  pub has : HasOf list node p
  pub greatest : (q : PlainPrefix) → HasOf list node q → prefix_cmp p q ≢ Less

-- the greater of two
pub record IsGreater (p q greater : PlainPrefix) : Type 0 where
  pub one : (greater ≡ p) ⊎ (greater ≡ q)
  pub not_below_first : prefix_cmp greater p ≢ Less
  pub not_below_second : prefix_cmp greater q ≢ Less

-- the list has none for the node
abbrev pub HasNoneOf : List Generated → NodeId → Type 0
HasNoneOf list node = (p : PlainPrefix) → ¬ HasOf list node p

-- the greatest of a node, if it has one
abbrev pub IsGreatestFound : List Generated → NodeId → Option PlainPrefix → Type 0
IsGreatestFound list node found = MatchOption found (HasNoneOf list node) (IsGreatestOf list node)

-- the list has another one for the node
pub record HasOtherOf (list : List Generated) (node : NodeId) (p : PlainPrefix) : Type 0 where
  pub one : Generated
  pub among : Contains list one
  pub node_is : one.node ≡ node
  pub other : one.prefix ≢ p

-- the list has one for a greater node
pub record HasPrefixAbove (list : List Generated) (node : NodeId) : Type 0 where
  pub one : Generated
  pub among : Contains list one
  pub above : node.0 < one.node.0

-- a delegated prefix that is not inside fd00::/8 is still preferred
pub record IsForeignOne (d : Delegated) : Type 0 where
  pub preferred : 0 < d.preferred
  pub outside : ¬ IsLocal d.prefix

-- one of them
pub record HasForeign (used : List Delegated) : Type 0 where
  pub one : Delegated
  pub among : Contains used one
  pub foreign : IsForeignOne one

-- a greater identifier is among these
pub record HasGreater (reach : List NodeId) (own : NodeId) : Type 0 where
  pub one : NodeId
  pub among : Contains reach one
  pub greater : own.0 < one.0

-- the greatest of its own, if it has one
abbrev pub IsOwnFound : State → Option PlainPrefix → Type 0
IsOwnFound s found = MatchOption found ((p : PlainPrefix) → ¬ IsOwnOf s p) (IsGreatestOwn s)

-- what was found is so
pub record IsFound (s : State) (f : Found) : Type 0 where
  pub own : IsOwnFound s f.own
  pub must_go : IsTrue f.must_go ↔ MustGo s
  pub has_two : IsTrue f.has_two ↔ HasTwo s
  pub is_to_announce : IsTrue f.is_to_announce ↔ IsToAnnounce s
