-- Paths among nodes that say as much of their peers.
use Rattle.hn_base.proofs.Names.{◌≡◌, ◌∙◌, ℕ, List, Contains, sym, subst}
use Rattle.hn_graph.proofs.Names.{HasPeer, peer_link, Entry, AreAdjacent, IsLeadingOn, IsReachable}
use Rattle.hn_graph.specs.Following.{SaysAsMuch, SayAsMuch, ReachabilityFollows}
use Rattle.hn_graph.proofs.Ways.{HasWay, way_to_own, way_further, path_from_way, along_path}

adjacent_too : (x y z w : Entry) → SaysAsMuch x z → SaysAsMuch y w → AreAdjacent x y → AreAdjacent z w
adjacent_too x y z w to_z to_w are = record {
  here = are.here;
  there = are.there;
  linked = record {
    there = subst (λ (id : ℕ). HasPeer z.body (peer_link id are.there are.here)) (sym to_w.id) (to_z.peers (peer_link y.id.0 are.there are.here) are.linked.there);
    back = subst (λ (id : ℕ). HasPeer w.body (peer_link id are.here are.there)) (sym to_z.id) (to_w.peers (peer_link x.id.0 are.here are.there) are.linked.back);
  };
}

module _ (own : ℕ) (before after : List Entry) (say : SayAsMuch before after) where
  -- a path leads to a node that says as much as this one
  record HasOtherWay (x : Entry) : Type 0 where
    pub node : Entry
    pub there : Contains after node
    pub way : HasWay own after node
    pub like : SaysAsMuch x node

  start : (x : Entry) → Contains before x → x.id.0 ≡ own → HasOtherWay x
  start x there is_own =
      let next = say x there in
      record { node = next.0; there = next.1; way = way_to_own own after next.0 next.1 (next.2.id ∙ is_own); like = next.2 }

  step : (x z : Entry) → HasOtherWay x → IsLeadingOn x → AreAdjacent x z → Contains before z → HasOtherWay z
  step x z was recent are there =
      let next = say z there in
      let further = way_further own after was.node next.0 was.way (was.like.recent recent) (adjacent_too x z was.node next.0 was.like next.2 are) next.1 in
      record { node = next.0; there = next.1; way = further; like = next.2 }

  follows : (id : ℕ) → IsReachable own before id → IsReachable own after id
  follows id reachable =
      let last = along_path own before HasOtherWay start step id reachable in
      subst (IsReachable own after) (last.1.like.id ∙ last.2) (path_from_way own after last.1.node last.1.way)

pub reach_follows : ReachabilityFollows
reach_follows own before after say id = follows own before after say id
