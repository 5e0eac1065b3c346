-- Who is elected on a Common Link (RFC 7788, sections 4 and 6.1; the order among equal priorities is this project's own).
use Rattle.std.specs.Prelude.{◌≡◌, ℕ, ◌+◌, ◌*◌, ◌<◌, List, Option, Some, Contains, MatchOption}
use Rattle.std.specs.Ordering.{on, then_cmp, nat_cmp}
use Rattle.std.specs.declared.cmp.Ordering.{Ordering}
use Rattle.std.specs.declared.cmp.Ordering.TheVariants.{Less}
use Rattle.hn_base.specs.declared.ids.NodeId.{NodeId}
use Rattle.hn_base.specs.declared.ids.EpId.{EpId}
use Rattle.hn_base.specs.declared.letter.Letter.{Letter}
use Rattle.hn_base.specs.declared.letter.Letter.TheVariants.{M, P, H, L}
use Rattle.hn_typed.specs.Item.{PlainCaps}
use Rattle.hn_data.specs.Items.{HasItems}
use Rattle.hn_data.specs.Said.{version_of}
use Rattle.hn_data.specs.View.{PlainView}
use Rattle.hn_data.specs.declared.view.Entry.{Entry}
use Rattle.hn_link.specs.declared.rank.Rank.{Rank}

-- the priority for a capability
abbrev pub priority_of : Letter → PlainCaps → ℕ
priority_of M caps = caps.m
priority_of P caps = caps.p
priority_of H caps = caps.h
priority_of L caps = caps.l

-- what decides: the priority for the capability, then all four priorities as one number, then the identifier
abbrev pub rank_of : Letter → PlainCaps → NodeId → Rank
rank_of letter caps node = record { priority = priority_of letter caps; combined = 4096 * caps.m + 256 * caps.p + 16 * caps.h + caps.l; node = node }

-- ranks in order
abbrev pub rank_cmp : Rank → Rank → Ordering
rank_cmp = then_cmp (on (λ r. r.priority) nat_cmp) (then_cmp (on (λ r. r.combined) nat_cmp) (on (λ r. r.node.0) nat_cmp))

-- the node is in view, and its HNCP-Version has a priority other than 0 for the capability
pub record IsServing (view : PlainView) (letter : Letter) (id : NodeId) (caps : PlainCaps) : Type 0 where
  pub node : Entry
  pub there : Contains view.nodes node
  pub is_it : node.id ≡ id
  pub version : HasItems node.body (λ items. version_of items ≡ Some caps)
  pub offers : 0 < priority_of letter caps

-- the node serves, and has an endpoint on the link
pub record IsElectionCandidate (view : PlainView) (common : List (NodeId × EpId)) (letter : Letter) (id : NodeId) (caps : PlainCaps) : Type 0 where
  pub endpoint : EpId
  pub on_link : Contains common (id, endpoint)
  pub serves : IsServing view letter id caps

-- a candidate is elected where no other is greater
pub record IsElected (view : PlainView) (common : List (NodeId × EpId)) (letter : Letter) (id : NodeId) : Type 0 where
  pub caps : PlainCaps
  pub candidate : IsElectionCandidate view common letter id caps
  pub greatest : (other : NodeId) (others : PlainCaps) → IsElectionCandidate view common letter other others → ¬ (rank_cmp (rank_of letter caps id) (rank_of letter others other) ≡ Less)

-- nobody stands for election
abbrev pub HasNoCandidate : PlainView → List (NodeId × EpId) → Letter → Type 0
HasNoCandidate view common letter = (id : NodeId) (caps : PlainCaps) → ¬ (IsElectionCandidate view common letter id caps)

-- who is elected, or that nobody stands for election, has one answer over one view, Common Link and capability
abbrev pub HasOneAnswer : Type 0
HasOneAnswer =
    (view : PlainView) (common : List (NodeId × EpId)) (letter : Letter) (who other : Option NodeId)
    → MatchOption who (HasNoCandidate view common letter) (IsElected view common letter)
    → MatchOption other (HasNoCandidate view common letter) (IsElected view common letter) → who ≡ other
