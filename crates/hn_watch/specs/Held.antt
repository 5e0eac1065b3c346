-- What is remembered of what was shown.
use Rattle.std.specs.Prelude.{◌≡◌, ℕ, List, Option}
use Rattle.hn_base.specs.declared.ids.NodeId.{NodeId}
use Rattle.hn_watch.specs.declared.shown.Shown.{Shown}
use Rattle.hn_watch.specs.declared.claim.Claim.{Claim}
use Rattle.hn_watch.specs.Seen.{latest_of}
use Rattle.hn_watch.specs.Claim.{hashes_of, IsClaimOf}

-- of each node and sequence number the claim of its hashes, and of each node what is kept
pub record AreHeld (shown : List Shown) (claim_of : NodeId → ℕ → Option Claim) (kept_of : NodeId → Option Shown) : Type 0 where
  pub claims : (node : NodeId) (number : ℕ) → IsClaimOf (hashes_of node number shown) (claim_of node number)
  pub latest : (node : NodeId) → kept_of node ≡ latest_of node shown
