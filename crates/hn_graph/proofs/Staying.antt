-- Paths among other nodes.
use Rattle.hn_base.proofs.Names.{◌≡◌, ◌∙◌, ℕ, List, Contains, sym, subst}
use Rattle.hn_graph.proofs.Names.{HasPeer, peer_link, PeerLink, Entry, AreAdjacent, IsLeadingOn, IsReachable, IsLike, KeepsReach}
use Rattle.hn_graph.specs.Laws.{ReachabilityStays}
use Rattle.hn_graph.specs.SameLinks.{SaysSamePeers, KeepsLinks, SameLinksReach}
use Rattle.hn_graph.proofs.Ways.{HasWay, way_to_own, way_further, path_from_way, along_path}

-- what adjacent nodes know of a node is its identifier and its peers
like_adjacent : (x y z w : Entry) → SaysSamePeers x z → SaysSamePeers y w → AreAdjacent x y → AreAdjacent z w
like_adjacent x y z w to_z to_w are = record {
  here = are.here;
  there = are.there;
  linked = record {
    there = subst (λ (id : ℕ). HasPeer z.body (peer_link id are.there are.here)) (sym to_w.id) ((to_z.peers (peer_link y.id.0 are.there are.here)).0 are.linked.there);
    back = subst (λ (id : ℕ). HasPeer w.body (peer_link id are.here are.there)) (sym to_z.id) ((to_w.peers (peer_link x.id.0 are.here are.there)).0 are.linked.back);
  };
}

-- a path leads to a node that is like this one
record HasLikeWay (own : ℕ) (nodes : List Entry) (x : Entry) : Type 0 where
  pub node : Entry
  pub there : Contains nodes node
  pub way : HasWay own nodes node
  pub like : SaysSamePeers x node

module _ (own : ℕ) (before after : List Entry) (keeps : KeepsLinks own before after) where
  -- one leads there among the nodes before, and one among those after
  record HasBoth (x : Entry) : Type 0 where
    pub was : HasWay own before x
    pub is : HasLikeWay own after x

  forth_start : (x : Entry) → Contains before x → x.id.0 ≡ own → HasBoth x
  forth_start x there is_own =
      let was = way_to_own own before x there is_own in
      let next = keeps.kept x there (path_from_way own before x was) in
      record { was = was; is = record { node = next.0; there = next.1; way = way_to_own own after next.0 next.1 (next.2.id ∙ is_own); like = next.2 } }

  forth_step : (x z : Entry) → HasBoth x → IsLeadingOn x → AreAdjacent x z → Contains before z → HasBoth z
  forth_step x z both recent are there =
      let was = way_further own before x z both.was recent are there in
      let next = keeps.kept z there (path_from_way own before z was) in
      let further = way_further own after both.is.node next.0 both.is.way (both.is.like.recent recent) (like_adjacent x z both.is.node next.0 both.is.like next.2 are) next.1 in
      record { was = was; is = record { node = next.0; there = next.1; way = further; like = next.2 } }

  forth : (y : ℕ) → IsReachable own before y → IsReachable own after y
  forth y reachable =
      let last = along_path own before HasBoth forth_start forth_step y reachable in
      subst (IsReachable own after) (last.1.is.like.id ∙ last.2) (path_from_way own after last.1.is.node last.1.is.way)

  back_start : (y : Entry) → Contains after y → y.id.0 ≡ own → HasLikeWay own before y
  back_start y there is_own =
      let old = keeps.known y there in
      record { node = old.0; there = old.1; way = way_to_own own before old.0 old.1 (old.2.id ∙ is_own); like = old.2 }

  back_step : (y z : Entry) → HasLikeWay own before y → IsLeadingOn y → AreAdjacent y z → Contains after z → HasLikeWay own before z
  back_step y z was recent are there =
      let old = keeps.known z there in
      let further = way_further own before was.node old.0 was.way (was.like.recent recent) (like_adjacent y z was.node old.0 was.like old.2 are) old.1 in
      record { node = old.0; there = old.1; way = further; like = old.2 }

  back : (y : ℕ) → IsReachable own after y → IsReachable own before y
  back y reachable =
      let last = along_path own after (HasLikeWay own before) back_start back_step y reachable in
      subst (IsReachable own before) (last.1.like.id ∙ last.2) (path_from_way own before last.1.node last.1.way)

pub same_links_reach : SameLinksReach
same_links_reach own before after keeps y = (forth own before after keeps y, back own before after keeps y)

-- nodes with the same node data say the same peers
says_same : (x y : Entry) → IsLike x y → SaysSamePeers x y
says_same x y like = record {
  id = like.id;
  peers = λ (link : PeerLink). (subst (λ (body : List ℕ). HasPeer body link) (sym like.body), subst (λ (body : List ℕ). HasPeer body link) like.body);
  recent = like.recent;
}

pub reach_stays : ReachabilityStays
reach_stays own before after keeps =
    same_links_reach own before after
    (record {
      kept = λ x there reachable. let next = keeps.kept x there reachable in (next.0, next.1, says_same x next.0 next.2);
      known = λ y there. let old = keeps.known y there in (old.0, old.1, says_same y old.0 old.2);
    })
