-- Where a rule finds that nothing changes, it leaves the router as it is.
use Rattle.hn_base.proofs.Names.{◌≡◌, ◌∙◌, ℕ, Bool, true, false, cond, List, [], ◌∷◌, Option, Some, None, inr, refl, sym, ap, All, ◌||◌, cond-false, append-nil, All-contains, RuleOf, Each, OnSome}
use Rattle.hn_base.proofs.Names.{Begins, get_or}
use Rattle.hn_rules.proofs.Names.{not, found_passes, NodeId, EpId, may_ask, asked, IsPortUndue, IsIdleAt, greeting, hashed, UnduePortIsIdle, has_peer, ticked, Greet, Known, Unknown, Neighbour, Port}
use Rattle.hn_rules.proofs.Names.{ArePorts, is_port, port_at, endpoints_of, PlainState, Accepts, Nodes, OwnLeaf, Took, Origin, Running, with_answer, compared, greeting_port, met, named, TakesState}
use Rattle.hn_rules.proofs.Names.{own_leaf, Rule, AtPort, IsSole, with_port, with_words, AreHeard, IsExpired, IsPortExpiry, IsExpiry, IsPortMoving, IsPortTick, IsPortsTick}
use Rattle.hn_dncp.specs.Greet as dncp
use Rattle.hn_typed.specs.Item as item
use Rattle.hn_rules.specs.declared.answers.Subject.TheVariants as subject
use Rattle.hn_rules.proofs.TouchesNothingRead.{none_expire, put_found}

-- a rule that changes nothing at any element
each_rests : {S A : Type 0} (rule : A → RuleOf S) (xs : List A) (s : S) → ((x : A) → rule x s s) → Each rule xs s s
each_rests rule [] s rests = refl
each_rests rule (x ∷ xs) s rests = (s, rests x, each_rests rule xs s rests)

-- where a rule may leave all as it was, it does
pub only : (rule : Rule) → IsSole rule → (r a : Running) → rule r a → rule r r → a ≡ r
only rule sole r a holds rests =
    let stream : ℕ → ℕ = λ i. get_or a.done.words i 0 in
    let begins : Begins a.done.words stream = λ i within. refl in
    sole.one stream r a r holds rests begins (sole.grows stream r a holds begins)

-- what holds of each endpoint holds of one that is found
found_of : (P : Port → Type 0) (at : EpId) (ports : List Port) (port : Port) → All P ports → port_at at ports ≡ Some port → P port
found_of P at ports port all found = All-contains P ports port all (found_passes (is_port at) ports port found).0

-- ---- a tick

-- no peer is silent
pub none_expire_at : (r : Running) → ArePorts r.state.ports → AreHeard r.state.moment r.state → IsExpiry r r
none_expire_at r are heard =
    each_rests (λ at. AtPort at IsPortExpiry) (endpoints_of r.state.ports) r
    (λ at. none_expire at r are (λ port found. found_of (λ (p : Port). All (λ (peer : Neighbour). ¬ (IsExpired r.state peer)) p.peers) at r.state.ports port heard found))

-- nothing is due at an endpoint
pub port_rests : UnduePortIsIdle → (at : EpId) (port : Port) (r : Running) → ArePorts r.state.ports → port_at at r.state.ports ≡ Some port → IsPortUndue r.state.moment port → IsPortTick port r r
port_rests law at port r are found still = (r, moves, inr (idle.unsent, refl))
  where
    idle : IsIdleAt r.state.moment port
    idle = (law r.state.moment port).0 still

    put : with_port (ticked r.state.moment [] port) r ≡ r
    put = ap (λ (p : Port). with_port p r) idle.same ∙ put_found at port r are found

    none : with_words [] r ≡ r
    none = ap (λ (words : List ℕ). let a : Running = record r { done = record r.done { words = words } } in a) (append-nil r.done.words)

    moves : IsPortMoving port r r
    moves = record { words = []; as_many = sym idle.untaken; gives = sym (ap (with_words []) put ∙ none) }

-- nothing is due at any endpoint
pub ports_rest : UnduePortIsIdle → (r : Running) → ArePorts r.state.ports → All (IsPortUndue r.state.moment) r.state.ports → IsPortsTick r r
ports_rest law r are still = each_rests (λ at. AtPort at IsPortTick) (endpoints_of r.state.ports) r (λ at. one at (port_at at r.state.ports) refl)
  where
    one : (at : EpId) (o : Option Port) → port_at at r.state.ports ≡ o → OnSome IsPortTick o r r
    one at None found = refl
    one at (Some port) found = port_rests law at port r are found (found_of (IsPortUndue r.state.moment) at r.state.ports port still found)

-- ---- a Network State

hashed_stays : (r : Running) (port : Port) → may_ask r.state.moment port.asked ≡ false → hashed false r.sender r.state.moment port ≡ port
hashed_stays r port not_now = ap (λ (a : Option ℕ). let p : Port = record port { asked = a } in p) (cond-false (may_ask r.state.moment port.asked) (Some r.state.moment) port.asked not_now)

-- another hash than the local one, while the endpoint may not ask
pub compared_stays : (at : EpId) (same : Bool) (port : Port) (r : Running) → same ≡ false → may_ask r.state.moment port.asked ≡ false
    → ArePorts r.state.ports → port_at at r.state.ports ≡ Some port → r ≡ compared same port r
compared_stays at true port r other not_now are found = absurd cc
compared_stays at false port r other not_now are found =
    let after = with_port (hashed false r.sender r.state.moment port) r in
    sym (cond-false (may_ask r.state.moment port.asked) (with_answer subject.NetworkRequest (item.RequestNetwork []) after) after not_now
    ∙ ap (λ (p : Port). with_port p r) (hashed_stays r port not_now) ∙ put_found at port r are found)

-- ---- a Node Endpoint

met_stays : (known asks : Bool) (port : Port) (r : Running) → may_ask r.state.moment port.asked ≡ asks → (known || not asks) ≡ true → met (cond known Known Unknown) port r ≡ r
met_stays true asks port r is passes = refl
met_stays false true port r is passes = absurd cc
met_stays false false port r is passes = cond-false (may_ask r.state.moment port.asked) (with_answer subject.NetworkRequest (item.RequestNetwork []) (with_port (asked r.state.moment port) r)) r is

-- by multicast, from a peer or while the endpoint may not ask
pub named_stays : (from : Origin) (node : NodeId) (endpoint : EpId) (port : Port) (r : Running) → from.multicast ≡ true
    → (has_peer node endpoint port.peers || not (may_ask r.state.moment port.asked)) ≡ true
    → ArePorts r.state.ports → port_at from.endpoint r.state.ports ≡ Some port → named from node endpoint port r ≡ record r { sender = Some (node, endpoint) }
named_stays from node endpoint port r multicast passes are found =
    ap (λ (p : Port). met greet p (with_port p start)) same
    ∙ ap (met greet port) (put_found from.endpoint port start are found)
    ∙ ap (λ (g : Greet). met g port start) (ap (λ (b : Bool). greeting node endpoint b port.peers) multicast)
    ∙ met_stays (has_peer node endpoint port.peers) (may_ask r.state.moment port.asked) port start refl passes
  where
    start : Running
    start = record r { sender = Some (node, endpoint) }

    greet : Greet
    greet = greeting node endpoint from.multicast port.peers

    same : greeting_port from node endpoint r.state.moment port ≡ port
    same =
        let peer : Neighbour = record { node = node; endpoint = endpoint; contact = r.state.moment; addr = from.from } in
        ap (λ (b : Bool). let p : Port = record port { peers = cond b port.peers (dncp.peers_heard peer port.peers) } in p) multicast

-- ---- a Node State

-- the table does not look into it
pub refused_state : (carried : PlainState) (how : Took) (table : Nodes) (own : OwnLeaf) (r : Running) → table ≡ r.state.table → own ≡ own_leaf r.state
    → ((now : ℕ) → Accepts table own carried now table how) → TakesState carried how r r
refused_state carried how table own r same_table same_own accepts = record {
  table = r.state.table;
  accepts = rw (← same_table, ← same_own) (accepts r.state.moment);
  gives = refl;
}
