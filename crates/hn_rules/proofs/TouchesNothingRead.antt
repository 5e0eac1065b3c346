-- What touches nothing that a refresh makes.
use Rattle.hn_base.proofs.Names.{◌≡◌, ◌≢◌, ◌<◌, ◌+◌, ◌∙◌, ℕ, Bool, true, false, cond, List, [], ◌∷◌, ◌++◌, length, map, take, get_or, Option, Some, None, inr, refl, sym, ap, subst, All, ◌==◌, ◌||◌}
use Rattle.hn_base.proofs.Names.{bytes_eq, cond_both, and_parts, eqb-true, eq-eqb, take_more, All-head, All-tail, All-push, OnSome}
use Rattle.hn_rules.proofs.Names.{NodeId, EpId, PlainItem, PeerLink, Neighbour, Port, Greet, Known, Added, Full, Unknown, is_peer, has_peer, greeting, may_ask, asked, contacted, hashed}
use Rattle.hn_rules.proofs.Names.{asks_for_state, Running, Origin, with_answer, ArePorts, is_port, port_at, put_port, link_at, links_at, AtPort, with_port, greeting_port, named, network_state}
use Rattle.hn_rules.proofs.Names.{TakesState, IsTaken, State, Nodes, PlainState, entries_after, Took, request_node, IsNetworkRequest, IsExpired, Without, IsPortExpiry, IsUntouched}
use Rattle.hn_typed.specs.Item as item
use Rattle.hn_rules.specs.declared.answers.Subject.TheVariants as subject
use Rattle.hn_rules.specs.NodeEndpoint as rule
use Rattle.hn_rules.specs.NodeState.{touches}
use Rattle.hn_store.specs.declared.state.Took.TheVariants as took
use Rattle.hn_rules.proofs.Refreshes.{Kept, only_one, kept_self, kept_port, keeps_kept_at, untouched_self, untouched_same}
use Rattle.hn_rules.proofs.Walk.{network_request, node_request}

-- ---- in a loop

-- where neither of two steps touched anything, both changed nothing
pub neither : {P Q : Type 0} (a b : Bool) → (a ≡ false → P) → (b ≡ false → P → Q) → (a || b) ≡ false → Q
neither false b p q none = q none (p refl)
neither true b p q none = absurd cc

-- ---- what a router says of peers

-- elements that are changed, and give the same
map_alike : {A B : Type 0} (f : A → A) (g : A → B) → ((x : A) → g (f x) ≡ g x) → (xs : List A) → map g (map f xs) ≡ map g xs
map_alike f g same [] = refl
map_alike f g same (x ∷ xs) = let one = same x in let more = map_alike f g same xs in cc

-- of one that was heard
contacted_links : (port : Port) (sender : Option (NodeId × EpId)) (now : ℕ) (peers : List Neighbour) → map (link_at port) (contacted sender now peers) ≡ map (link_at port) peers
contacted_links port None now peers = refl
contacted_links port (Some sender) now peers =
    map_alike (λ (peer : Neighbour). cond (is_peer sender.0 sender.1 peer) (record peer { contact = now }) peer) (link_at port)
    (λ peer. cond_both (is_peer sender.0 sender.1 peer) (record peer { contact = now }) peer (λ (p : Neighbour). link_at port p ≡ link_at port peer) (λ _. refl) (λ _. refl)) peers

hashed_links : (same : Bool) (sender : Option (NodeId × EpId)) (now : ℕ) (port : Port) → links_at (hashed same sender now port) ≡ links_at port
hashed_links true sender now port = contacted_links port sender now port.peers
hashed_links false sender now port = refl

-- of one that was met
same_peer : (port : Port) (peer other : Neighbour) → is_peer peer.node peer.endpoint other ≡ true → link_at port peer ≡ link_at port other
same_peer port peer other is =
    let parts = and_parts (other.node.0 == peer.node.0) (other.endpoint.0 == peer.endpoint.0) is in
    let link = λ (node endpoint : ℕ). let l : PeerLink = record { endpoint = port.id; peer = record { 0 = node }; peer_endpoint = record { 0 = endpoint } } in l in
    ap (λ (n : ℕ). link n peer.endpoint.0) (sym (eqb-true other.node.0 peer.node.0 parts.0)) ∙ ap (link other.node.0) (sym (eqb-true other.endpoint.0 peer.endpoint.0 parts.1))

renewed_links : (port : Port) (peer : Neighbour) (peers : List Neighbour) → map (link_at port) (map (λ other. cond (is_peer peer.node peer.endpoint other) peer other) peers) ≡ map (link_at port) peers
renewed_links port peer peers =
    map_alike (λ (other : Neighbour). cond (is_peer peer.node peer.endpoint other) peer other) (link_at port)
    (λ other. cond_both (is_peer peer.node peer.endpoint other) peer other (λ (p : Neighbour). link_at port p ≡ link_at port other) (same_peer port peer other) (λ _. refl)) peers

met_links : (port : Port) (peer : Neighbour) (peers : List Neighbour) (known multicast full : Bool) → cond known Known (cond multicast Unknown (cond full Full Added)) ≢ Added
    → map (link_at port) (cond multicast peers (cond known (map (λ other. cond (is_peer peer.node peer.endpoint other) peer other) peers) (cond full peers (peers ++ peer ∷ [])))) ≡ map
    (link_at port) peers
met_links port peer peers known true full other = refl
met_links port peer peers true false full other = renewed_links port peer peers
met_links port peer peers false false true other = refl
met_links port peer peers false false false other = absurd (other refl)

-- an endpoint that greets a sender and adds no peer says the same of its peers
greeted_links : (from : Origin) (node : NodeId) (endpoint : EpId) (now : ℕ) (port : Port) → greeting node endpoint from.multicast port.peers ≢ Added
    → links_at (greeting_port from node endpoint now port) ≡ links_at port
greeted_links from node endpoint now port other =
    let peer : Neighbour = record { node = node; endpoint = endpoint; contact = now; addr = from.from } in
    met_links port peer port.peers (has_peer node endpoint port.peers) from.multicast (length port.peers == 64) other

-- ---- a Node Endpoint

-- an endpoint is changed twice
put_twice : (first second : Port) → second.id ≡ first.id → (ports : List Port) → put_port second (put_port first ports) ≡ put_port second ports
put_twice first second same [] = refl
put_twice first second same (p ∷ ports) =
    let one = cond_both (is_port first.id p) first p (λ (q : Port). cond (is_port second.id q) second q ≡ cond (is_port second.id p) second p) same_put (λ _. refl) in
    let more = put_twice first second same ports in
    cc
  where
    same_put : is_port first.id p ≡ true → cond (is_port second.id first) second first ≡ cond (is_port second.id p) second p
    same_put is =
        let here : is_port second.id first ≡ true = eq-eqb first.id.0 second.id.0 (ap (λ (id : EpId). id.0) (sym same)) in
        let there : is_port second.id p ≡ true = eq-eqb p.id.0 second.id.0 (eqb-true p.id.0 first.id.0 is ∙ ap (λ (id : EpId). id.0) (sym same)) in
        cc

kept_met : (start : State) (greet : Greet) (at : EpId) (port next : Port) (r : Running) → port_at at r.state.ports ≡ Some port → next.id ≡ port.id
    → links_at next ≡ links_at port → Kept start r → Kept start (rule.met greet next (with_port next r))
kept_met start Full at port next r found same_id same_links kept = kept_port start at port next r found same_id same_links kept
kept_met start Known at port next r found same_id same_links kept = kept_port start at port next r found same_id same_links kept
kept_met start Added at port next r found same_id same_links kept = kept_port start at port next r found same_id same_links kept
kept_met start Unknown at port next r found same_id same_links kept =
    let asks = asked r.state.moment next in
    let put : Running = with_port next r in
    let once : Kept start (with_port asks r) = kept_port start at port asks r found same_id same_links kept in
    let twice : Kept start (with_port asks put) = subst (λ (ports : List Port). Kept start (record r { state = record r.state { ports = ports } }))
    (sym (put_twice next asks refl r.state.ports)) once in
    cond_both (may_ask r.state.moment next.asked) (with_answer subject.NetworkRequest (item.RequestNetwork []) (with_port asks put)) put (Kept start)
    (λ _. twice) (λ _. kept_port start at port next r found same_id same_links kept)

-- the sender is named, and no peer is added
pub named_untouched : (from : Origin) (node : NodeId) (endpoint : EpId) (port copy : Port) (ports : List Port) (r a : Running) → ArePorts ports
    → Some port ≡ port_at from.endpoint ports → ports ≡ r.state.ports → copy ≡ port
    → greeting node endpoint from.multicast copy.peers ≢ Added → a ≡ named from node endpoint copy r → IsUntouched r.state a.state
named_untouched from node endpoint port copy ports r a are here same_ports same_port other is =
    let start : Running = record r { sender = Some (node, endpoint) } in
    let after = greeting_port from node endpoint r.state.moment copy in
    let found : port_at from.endpoint r.state.ports ≡ Some copy = sym (ap Some same_port ∙ here ∙ ap (port_at from.endpoint) same_ports) in
    let same_links = greeted_links from node endpoint r.state.moment copy other in
    let kept = kept_met r.state (greeting node endpoint from.multicast copy.peers) from.endpoint copy after start found refl same_links (kept_self r.state (subst ArePorts same_ports are)) in
    subst (λ (x : Running). IsUntouched r.state x.state) (sym is) kept.untouched

-- ---- a Network State

pub network_state_untouched : (from : Origin) (hash : List ℕ) (r a : Running) → ArePorts r.state.ports
    → AtPort from.endpoint (λ port b a. a ≡ network_state hash port b) r a → IsUntouched r.state a.state
network_state_untouched from hash r a are holds =
    (keeps_kept_at r.state from.endpoint (λ port b a. a ≡ network_state hash port b) one r a holds (kept_self r.state are)).untouched
  where
    one : (start : State) (port : Port) (r a : Running) → a ≡ network_state hash port r
        → ((next : Port) → next.id ≡ port.id → links_at next ≡ links_at port → Kept start (with_port next r)) → Kept start r → Kept start a
    one start port r a is changed kept =
        let same = bytes_eq hash r.state.net in
        let next = hashed same r.sender r.state.moment port in
        let after : Kept start (with_port next r) = changed next refl (hashed_links same r.sender r.state.moment port) in
        subst (Kept start) (sym is)
        (cond_both (asks_for_state same r.state.moment port) (with_answer subject.NetworkRequest (item.RequestNetwork []) (with_port next r)) (with_port next r) (Kept start) (λ _. after) (λ _. after))

-- ---- a Node State

taken_state : (carried : PlainState) (how : Took) (before after : Running) → touches how ≡ false → IsTaken carried how before after → after.state ≡ before.state
taken_state carried took.Kept before after none taken = absurd cc
taken_state carried took.Renumbered before after none taken = absurd cc
taken_state carried took.Own before after none taken = absurd cc
taken_state carried took.Ask before after none taken = ap (λ (r : Running). r.state) taken
taken_state carried took.Stale before after none taken = ap (λ (r : Running). r.state) taken
taken_state carried took.BadHash before after none taken = ap (λ (r : Running). r.state) taken
taken_state carried took.BadBody before after none taken = ap (λ (r : Running). r.state) taken
taken_state carried took.TooLong before after none taken = ap (λ (r : Running). r.state) taken
taken_state carried took.Full before after none taken = ap (λ (r : Running). r.state) taken

same_table : (carried : PlainState) (how : Took) (now : ℕ) (nodes next : Nodes) → touches how ≡ false → next ≡ record nodes { entries = entries_after nodes.entries carried now how } → next ≡ nodes
same_table carried took.Kept now nodes next none after = absurd cc
same_table carried took.Renumbered now nodes next none after = absurd cc
same_table carried took.Own now nodes next none after = absurd cc
same_table carried took.Ask now nodes next none after = after
same_table carried took.Stale now nodes next none after = after
same_table carried took.BadHash now nodes next none after = after
same_table carried took.BadBody now nodes next none after = after
same_table carried took.TooLong now nodes next none after = after
same_table carried took.Full now nodes next none after = after

-- an answer that changes nothing of what is held
pub node_state_untouched : (carried : PlainState) (how : Took) (r between a : Running) → touches how ≡ false → TakesState carried how r between
    → IsTaken carried how between a → IsUntouched r.state a.state
node_state_untouched carried how r between a none takes taken =
    let state : a.state ≡ between.state = taken_state carried how between a none taken in
    let table : takes.table ≡ r.state.table = same_table carried how r.state.moment r.state.table takes.table none takes.accepts.after in
    untouched_same r.state a.state (state ∙ ap (λ (x : Running). x.state) takes.gives ∙ ap (λ (nodes : Nodes). let s : State = record r.state { table = nodes } in s) table)

-- ---- requests

abbrev Untouched : State → Running → Type 0
Untouched start r = IsUntouched start r.state

pub network_request_untouched : (r a : Running) → IsNetworkRequest r a → IsUntouched r.state a.state
network_request_untouched r a holds = network_request (Untouched r.state) (λ about i r is untouched. untouched) r a holds (untouched_self r.state)

pub request_node_untouched : (id : NodeId) (r a : Running) → a ≡ request_node id r → IsUntouched r.state a.state
request_node_untouched id r a is = node_request (Untouched r.state) (λ about i r is untouched. untouched) id r a is (untouched_self r.state)

-- ---- expiry

-- one element more, as a `for` goes over a slice
pub all_next : {A : Type 0} (P : A → Type 0) (xs : List A) (i : ℕ) (d : A) → i < length xs → All P (take i xs) → P (get_or xs i d) → All P (take (i + 1) xs)
all_next P xs i d within all one = subst (All P) (sym (take_more xs i d within)) (All-push P (take i xs) (get_or xs i d) all one)

pub without_none : {A : Type 0} (P : A → Type 0) (xs : List A) → All (λ x. ¬ (P x)) xs → Without P xs xs
without_none P [] none = refl
without_none P (x ∷ xs) none = inr (xs, All-head (λ y. ¬ (P y)) x xs none, without_none P xs (All-tail (λ y. ¬ (P y)) x xs none), refl)

pub put_same : (port : Port) (ports : List Port) → All (λ p. p.id.0 ≡ port.id.0 → p ≡ port) ports → put_port port ports ≡ ports
put_same port [] one = refl
put_same port (p ∷ ports) one =
    let P = λ (q : Port). q.id.0 ≡ port.id.0 → q ≡ port in
    let here = cond_both (is_port port.id p) port p (λ (q : Port). q ≡ p) (λ is. sym (All-head P p ports one (eqb-true p.id.0 port.id.0 is))) (λ _. refl) in
    let more = put_same port ports (All-tail P p ports one) in
    cc

-- an endpoint is put as it is
pub put_found : (at : EpId) (port : Port) (r : Running) → ArePorts r.state.ports → port_at at r.state.ports ≡ Some port → with_port port r ≡ r
put_found at port r are found =
    ap (λ (ports : List Port). record r { state = record r.state { ports = ports } }) (put_same port r.state.ports (only_one at r.state.ports port are.ascending found))

-- where no peer of an endpoint is expired, nothing happens
pub none_expire : (at : EpId) (r : Running) → ArePorts r.state.ports
    → ((port : Port) → port_at at r.state.ports ≡ Some port → All (λ peer. ¬ (IsExpired r.state peer)) port.peers) → AtPort at IsPortExpiry r r
none_expire at r are none = by_port (port_at at r.state.ports) refl
  where
    by_port : (o : Option Port) → port_at at r.state.ports ≡ o → OnSome IsPortExpiry o r r
    by_port None found = refl
    by_port (Some port) found = record {
      peers = port.peers;
      without = without_none (IsExpired r.state) port.peers (none port found);
      gives = sym (put_found at port r are found);
    }
