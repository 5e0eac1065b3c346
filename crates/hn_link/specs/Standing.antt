-- How an election has come out so far.
use Rattle.std.specs.Prelude.{◌≡◌, Option, MatchOption}
use Rattle.std.specs.declared.cmp.Ordering.TheVariants.{Less}
use Rattle.hn_base.specs.declared.ids.NodeId.{NodeId}
use Rattle.hn_base.specs.declared.letter.Letter.{Letter}
use Rattle.hn_typed.specs.Item.{PlainCaps}
use Rattle.hn_data.specs.View.{PlainView}
use Rattle.hn_link.specs.declared.rank.Rank.{Rank}
use Rattle.hn_link.specs.Election.{IsServing, rank_of, rank_cmp}

-- the node serves with this rank
pub record HasRank (view : PlainView) (letter : Letter) (id : NodeId) (rank : Rank) : Type 0 where
  pub caps : PlainCaps
  pub serves : IsServing view letter id caps
  pub is_it : rank ≡ rank_of letter caps id

-- no rank of these is greater than this one, which is among them
pub record IsGreatestRank (ranks : Rank → Type 0) (rank : Rank) : Type 0 where
  pub among : ranks rank
  pub greatest : (other : Rank) → ranks other → ¬ (rank_cmp rank other ≡ Less)

-- the greatest of these ranks, if there is one
abbrev pub IsBestRank : (Rank → Type 0) → Option Rank → Type 0
IsBestRank ranks best = MatchOption best ((rank : Rank) → ¬ (ranks rank)) (IsGreatestRank ranks)
