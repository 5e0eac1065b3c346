-- What is seen of the nodes that were shown.
use Rattle.std.specs.Prelude.{◌≡◌, ◌≢◌, ◌↔◌, ℕ, ◌+◌, ◌-◌, ◌%◌, ◌^◌, Bool, List, Option, Some, None, map, fold, length, All, Contains, ◌==◌, ◌&&◌, nat_le, if◌then◌else◌}
use Rattle.std.specs.Ordering.{nat_cmp}
use Rattle.std.specs.List.Sorted.{IsStrictlySortedBy}
use Rattle.hn_base.specs.declared.ids.NodeId.{NodeId}
use Rattle.hn_base.specs.NodeIds.{node_cmp}
use Rattle.hn_watch.specs.declared.shown.Shown.{Shown}
use Rattle.hn_watch.specs.declared.seen.Seen.{Seen}

-- whether a sequence number is older than another: `IsOlder` of hn_base/specs/Order.antt as a test
abbrev pub is_older : ℕ → ℕ → Bool
is_older a b = nat_le (2 ^ 31) ((a + 2 ^ 32 - b) % 2 ^ 32)

-- What is kept of a node: the first one shown of it, and then each than whose number the kept one's is older. An equal
-- number replaces nothing; of two numbers exactly 2^31 apart each is older than the other.
abbrev pub keeping : NodeId → Option Shown → Shown → Option Shown
keeping node None one = if one.node.0 == node.0 then Some one else None
keeping node (Some kept) one = if one.node.0 == node.0 && is_older kept.number one.number then Some one else Some kept

abbrev pub latest_of : NodeId → List Shown → Option Shown
latest_of node shown = fold (keeping node) None shown

-- the node is shown with the sequence number and two hashes
pub record IsConflict (shown : List Shown) (node : NodeId) (number : ℕ) : Type 0 where
  pub one : List ℕ
  pub other : List ℕ
  pub shows_one : Contains shown (record { node = node; number = number; hash = one })
  pub shows_other : Contains shown (record { node = node; number = number; hash = other })
  pub differ : one ≢ other

-- how many sequence numbers of a node these are
pub record AreConflicts (shown : List Shown) (node : NodeId) (count : ℕ) : Type 0 where
  pub numbers : List ℕ
  pub ascending : IsStrictlySortedBy nat_cmp numbers
  pub exactly : (number : ℕ) → Contains numbers number ↔ IsConflict shown node number
  pub as_many : count ≡ length numbers

-- what is seen of a node: what is kept of it, and its conflicts
pub record IsSeen (shown : List Shown) (seen : Seen) : Type 0 where
  pub latest : latest_of seen.node shown ≡ Some (record { node = seen.node; number = seen.number; hash = seen.hash })
  pub conflicts : AreConflicts shown seen.node seen.conflicts

-- one for each node that is shown, in ascending order
pub record AreSeen (shown : List Shown) (seen : List Seen) : Type 0 where
  pub ascending : IsStrictlySortedBy node_cmp (map (λ s. s.node) seen)
  pub nodes : (node : NodeId) → Contains (map (λ s. s.node) seen) node ↔ Contains (map (λ s. s.node) shown) node
  pub each : All (IsSeen shown) seen
