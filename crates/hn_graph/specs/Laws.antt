-- Laws of reachability.
use Rattle.std.specs.Prelude.{◌≡◌, ℕ, ◌<◌, List, Contains, ◌↔◌}
use Rattle.hn_data.specs.declared.view.Entry.{Entry}
use Rattle.hn_data.specs.View.{PlainView, ids_of, IsNetwork}
use Rattle.hn_data.specs.Later.{IsLater}
use Rattle.hn_graph.specs.Path.{IsLeadingOn, IsReachable}
use Rattle.hn_graph.specs.Later.{IsAgeLimit}

-- The own node is reachable.
abbrev pub OwnIsReachable : Type 0
OwnIsReachable = (own : ℕ) (nodes : List Entry) → IsNetwork own nodes → IsReachable own nodes own

-- What is reachable is one of the nodes.
abbrev pub ReachableIsANode : Type 0
ReachableIsANode = (own : ℕ) (nodes : List Entry) (y : ℕ) → IsReachable own nodes y → Contains (ids_of nodes) y

-- the other node has the same identifier and node data, and it is recent if this one is
pub record IsLike (node other : Entry) : Type 0 where
  pub id : other.id.0 ≡ node.id.0
  pub body : other.body ≡ node.body
  pub recent : IsLeadingOn node → IsLeadingOn other

-- each reachable node is still there, as recent as it was, and each node was there and was as recent as it is
pub record KeepsReach (own : ℕ) (before after : List Entry) : Type 0 where
  pub kept : (x : Entry) → Contains before x → IsReachable own before x.id.0 → (y : Entry) × Contains after y × IsLike x y
  pub known : (y : Entry) → Contains after y → (x : Entry) × Contains before x × IsLike y x

-- Where each reachable node is still there and no node is new, the same nodes are reachable.
abbrev pub ReachabilityStays : Type 0
ReachabilityStays =
    (own : ℕ) (before after : List Entry) → KeepsReach own before after
    → (y : ℕ) → IsReachable own before y ↔ IsReachable own after y

-- While time passes and no age comes to its limit, the same nodes are reachable.
abbrev pub ReachabilityOfLater : Type 0
ReachabilityOfLater =
    (before after : PlainView) → IsLater before after
    → ((m : ℕ) → IsAgeLimit before.nodes before.now m → before.now < m → after.now < m)
    → (y : ℕ) → IsReachable before.own before.nodes y ↔ IsReachable after.own after.nodes y
