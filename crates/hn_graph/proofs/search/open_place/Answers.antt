use Rattle.hn_base.proofs.Names.{◌≡◌, ℕ, List, Some, IsTrue, false, length, refl, sym, ap, ◌∙◌, subst, slice_get, IsStrictlySortedBy, nat_cmp, same_Some, slice_get_read}
use Rattle.hn_graph.proofs.Names.{ids_of, IsPeerAt, HasPeer, peer_link, PeerLink, Entry, contains_at, part_is, one_place_of}
use Rattle.hn_graph.proofs.WhereLinksLead.{leads_there, leads_at}
use Rattle.hn_graph.proofs.search.open_place.Goals as goal

pub returns-then-found-place-clause-absent : goal.returns-then-found-place-clause-absent
returns-then-found-place-clause-absent c =
    leads_there c.args.nodes.now c.args.node.now c.args.link.now c.args.found.now c.in-Some.place c.requires.ascending c.in-Some.ensures.found c.if-found-place.true

pub returns-then-says_back-clause-found : goal.returns-then-says_back-clause-found
returns-then-says_back-clause-found c =
    let nodes = c.args.nodes.now in
    let node = c.args.node.now in
    let link = c.args.link.now in
    let place = c.in-Some.place in
    let peer = c.index-nodes-place.result in
    let at : slice_get nodes place ≡ Some peer = slice_get_read nodes (length nodes) place peer refl c.in-Some.ensures.within c.index-nodes-place.is in
    let is : peer.id.0 ≡ link.peer.0 = part_is (λ n. n.id.0) nodes place link.peer.0 peer at c.in-Some.ensures.found in
    record {
      y = peer;
      at = at;
      is_peer = is;
      linked = record {
        there = subst (λ (k : ℕ). HasPeer node.body (peer_link k link.peer_endpoint.0 link.endpoint.0)) (sym is) c.requires.said;
        back = c.says_back.ensures.0 c.if-says_back.true;
      };
    }

-- the link back that a mutual link has
leads_back : (nodes : List Entry) → IsStrictlySortedBy nat_cmp (ids_of nodes) → (x : Entry) (link : PeerLink) (place other : ℕ) (peer : Entry)
    → slice_get nodes place ≡ Some peer → slice_get (ids_of nodes) place ≡ Some link.peer.0 → IsPeerAt nodes x link other → HasPeer peer.body (peer_link x.id.0 link.endpoint.0 link.peer_endpoint.0)
leads_back nodes up x link place other peer at is leads =
    let same : other ≡ place = one_place_of (λ n. n.id.0) nodes up other place leads.y peer leads.at at (leads.is_peer ∙ sym (part_is (λ n. n.id.0) nodes place link.peer.0 peer at is)) in
    let one : leads.y ≡ peer = same_Some leads.y peer (sym leads.at ∙ ap (slice_get nodes) same ∙ at) in
    subst (λ (z : Entry). HasPeer z.body (peer_link x.id.0 link.endpoint.0 link.peer_endpoint.0)) one leads.linked.back

pub returns-else-says_back-clause-absent : goal.returns-else-says_back-clause-absent
returns-else-says_back-clause-absent c other leads =
    let nodes = c.args.nodes.now in
    let place = c.in-Some.place in
    let peer = c.index-nodes-place.result in
    let at : slice_get nodes place ≡ Some peer = slice_get_read nodes (length nodes) place peer refl c.in-Some.ensures.within c.index-nodes-place.is in
    let says : IsTrue c.says_back.result = c.says_back.ensures.1 (leads_back nodes c.requires.ascending c.args.node.now c.args.link.now place other peer at c.in-Some.ensures.found leads) in
    absurd (let no : c.says_back.result ≡ false = c.if-says_back.false in cc)

pub returns-in_default-clause-absent : goal.returns-in_default-clause-absent
returns-in_default-clause-absent c place leads =
    absurd (c.in_default.ensures.absent (contains_at (ids_of c.args.nodes.now) place c.args.link.now.peer.0 (leads_at c.args.nodes.now c.args.node.now c.args.link.now place leads)))
