-- What is remembered of a node and a sequence number.
use Rattle.std.specs.Prelude.{◌≡◌, ◌≢◌, ◌↔◌, ℕ, ◌==◌, ◌&&◌, List, [], ◌∷◌, Option, Some, None, Any, map, filter, IsTrue}
use Rattle.std.specs.declared.cmp.Ordering.{Ordering}
use Rattle.std.specs.Ordering.{on, then_cmp, nat_cmp}
use Rattle.hn_base.specs.declared.ids.NodeId.{NodeId}
use Rattle.hn_watch.specs.declared.shown.Shown.{Shown}
use Rattle.hn_watch.specs.declared.claim.NodeNumber.{NodeNumber}
use Rattle.hn_watch.specs.declared.claim.Claim.{Claim}

-- sequence numbers of nodes in order: by node, then number
abbrev pub number_cmp : NodeNumber → NodeNumber → Ordering
number_cmp = then_cmp (on (λ n. n.node.0) nat_cmp) (on (λ n. n.number) nat_cmp)

-- the node and the sequence number that are shown
abbrev pub number_of : Shown → NodeNumber
number_of one = record { node = one.node; number = one.number }

-- the hashes that are shown with a node and a sequence number, in their order
abbrev pub hashes_of : NodeId → ℕ → List Shown → List (List ℕ)
hashes_of node number shown = map (λ s. s.hash) (filter (λ s. s.node.0 == node.0 && s.number == number) shown)

-- a claim is of these hashes: the first, and whether there is another
abbrev pub IsClaimOf : List (List ℕ) → Option Claim → Type 0
IsClaimOf [] None = Unit {0}
IsClaimOf (hash ∷ more) (Some claim) = (claim.hash ≡ hash) × (IsTrue claim.differs ↔ Any (λ other. other ≢ hash) more)
IsClaimOf _ _ = ⊥
