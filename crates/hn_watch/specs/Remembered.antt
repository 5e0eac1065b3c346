-- What is remembered, and the places for it.
use Rattle.std.specs.Prelude.{◌≡◌, ◌≢◌, ℕ, ◌-◌, ◌^◌, Bool, false, List, [], ◌∷◌, ◌++◌, Option, Some, None, count_by}
use Rattle.std.specs.declared.ops.Bound.TheVariants.{Included}
use Rattle.std.specs.BTreeMap.Range.{entries_between}
use Rattle.hn_base.specs.declared.ids.NodeId.{NodeId}
use Rattle.hn_base.specs.NodeIds.{node_cmp}
use Rattle.hn_watch.specs.declared.shown.Shown.{Shown}
use Rattle.hn_watch.specs.declared.seen.Seen.{Seen}
use Rattle.hn_watch.specs.declared.claim.Claim.{Claim}
use Rattle.hn_watch.specs.declared.claim.NodeNumber.{NodeNumber}
use Rattle.hn_watch.specs.declared.remembered.Remembered.{Remembered}
use Rattle.hn_watch.specs.Claim.{number_cmp, number_of, IsClaimOf}
use Rattle.hn_watch.specs.Places.{held, HasPlace}
use Rattle.hn_watch.specs.Seen.{keeping}
use Rattle.hn_watch.specs.Held.{AreHeld}

-- the claim of a node and a sequence number
abbrev pub claim_of : Remembered → NodeId → ℕ → Option Claim
claim_of r node number = held number_cmp r.claims (record { node = node; number = number })

-- what is kept of a node
abbrev pub kept_of : Remembered → NodeId → Option Shown
kept_of r node = held node_cmp r.kept node

-- this is remembered of what was shown
abbrev pub Remembers : List Shown → Remembered → Type 0
Remembers shown r = AreHeld shown (claim_of r) (kept_of r)

-- the same is remembered
pub record RemembersSame (old new : Remembered) : Type 0 where
  pub claims : (node : NodeId) (number : ℕ) → claim_of new node number ≡ claim_of old node number
  pub kept : (node : NodeId) → kept_of new node ≡ kept_of old node

-- there is a place for what is noted of one
pub record HasRoom (r : Remembered) (one : Shown) : Type 0 where
  pub claim : HasPlace number_cmp r.claims (number_of one)
  pub kept : HasPlace node_cmp r.kept one.node

-- where there was a place, there is one
abbrev pub KeepsRoom : Remembered → Remembered → Type 0
KeepsRoom old new = (one : Shown) → HasRoom old one → HasRoom new one

-- one that is shown was noted, and nothing else
pub record IsNoted (one : Shown) (old new : Remembered) : Type 0 where
  pub claim : (hashes : List (List ℕ)) → IsClaimOf hashes (claim_of old one.node one.number) → IsClaimOf (hashes ++ one.hash ∷ []) (claim_of new one.node one.number)
  pub other_claims : (node : NodeId) (number : ℕ) → record { node = node; number = number } ≢ number_of one → claim_of new node number ≡ claim_of old node number
  pub kept : (node : NodeId) → kept_of new node ≡ keeping node (kept_of old node) one

-- ---- what is seen

abbrev pub is_differing : Option Claim → Bool
is_differing None = false
is_differing (Some claim) = claim.differs

-- the places of a node's sequence numbers
abbrev pub places_of_node : NodeId → List (NodeNumber × Option Claim) → List (NodeNumber × Option Claim)
places_of_node node places = entries_between number_cmp (Included (record { node = node; number = 0 })) (Included (record { node = node; number = 2 ^ 32 - 1 })) places

-- how many sequence numbers of a node have claims that differ
abbrev pub conflicts_in : List (NodeNumber × Option Claim) → NodeId → ℕ
conflicts_in places node = count_by (λ p. is_differing p.1) (places_of_node node places)

-- what is seen of a node, of which this is kept
abbrev pub seen_of : List (NodeNumber × Option Claim) → Shown → Seen
seen_of places one = record { node = one.node; number = one.number; hash = one.hash; conflicts = conflicts_in places one.node }
