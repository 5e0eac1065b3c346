-- What a router sees of the network, at its moment.
use Rattle.std.specs.Prelude.{List, Option, MatchOption}
use Rattle.hn_base.specs.declared.ids.NodeId.{NodeId}
use Rattle.hn_base.specs.declared.ids.EpId.{EpId}
use Rattle.hn_base.specs.declared.letter.Letter.{Letter}
use Rattle.hn_data.specs.View.{PlainView}
use Rattle.hn_link.specs.CommonLink.{IsCommonLink}
use Rattle.hn_link.specs.Election.{IsElected, HasNoCandidate}
use Rattle.hn_rules.specs.declared.state.State.{State}
use Rattle.hn_rules.specs.Nodes.{view_of}

-- the nodes that were reachable at the last refresh, as they are at the router's moment
abbrev pub seen_by : State → PlainView
seen_by s = record { own = s.id.0; now = s.moment; nodes = view_of s }

-- who is elected for a capability on the Common Link of an own endpoint, if somebody is
pub record IsElectedAt (s : State) (e : EpId) (letter : Letter) (who : Option NodeId) : Type 0 where
  pub common : List (NodeId × EpId)
  pub is_common : IsCommonLink (seen_by s) e.0 common
  pub is_elected : MatchOption who (HasNoCandidate (seen_by s) common letter) (IsElected (seen_by s) common letter)
