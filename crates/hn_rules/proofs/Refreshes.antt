-- What a refresh makes, and what keeps it.
use Rattle.hn_base.proofs.Names.{◌≡◌, ◌<◌, ◌≤◌, ◌-◌, ◌^◌, ◌∙◌, ℕ, Bool, true, false, cond, List, [], ◌∷◌, ◌++◌, map, filter, get_or, nat_lt, Option, Some, inl, inr, refl, sym, ap, subst, arith, All}
use Rattle.hn_base.proofs.Names.{find, is_none, nat_cmp, Less, AllByRecursion, ranked, cond_both, eqb-true, eqb-false, All-nil, All-cons, All-head, All-tail, All-map, All-weaker}
use Rattle.hn_rules.proofs.Names.{◌↔◌, Contains, NodeId, EpId, Entry, IsReachable, interval_from, Port, ticked, HeldNode, is_among, lost_after, marked_node, State, Running, links_at, links_of, number}
use Rattle.hn_rules.proofs.Names.{ArePorts, is_port, port_at, put_port, endpoints_of, held_entry, own_entry, IsReach, Rule, AtPort, with_port, own_items, IsPublishing, IsReaching, network_state_hash}
use Rattle.hn_rules.proofs.Names.{IsPortReset, IsHashing, IsRefresh, IsPortSending, IsPortTick, IsPortsTick, EachKeeps, IsWell, IsRefreshed, IsJustRefreshed, IsUntouched, IsRouter}
use Rattle.std.specs.List.Sorted.{IsStrictlySortedBy}
use Rattle.hn_rules.proofs.PartsOfRouters.{are-put}
use Rattle.hn_rules.proofs.Leads.{Keeps, keeps_option, keeps_each}
use Rattle.hn_rules.proofs.Walk.{refresh_walk, ports_walk}

-- ---- endpoints that keep their number and what the router says of their peers

-- what is found has the number that was sought
pub found_number : (at : EpId) (ports : List Port) (port : Port) → port_at at ports ≡ Some port → port.id.0 ≡ at.0
found_number at [] port found = absurd cc
found_number at (p ∷ ports) port found = by_test (is_port at p) refl found (found_number at ports port)
  where
    by_test : (b : Bool) → is_port at p ≡ b → cond b (Some p) (find (is_port at) ports) ≡ Some port → (port_at at ports ≡ Some port → port.id.0 ≡ at.0) → port.id.0 ≡ at.0
    by_test true is found more = let same : p ≡ port = cc in subst (λ (q : Port). q.id.0 ≡ at.0) same (eqb-true p.id.0 at.0 is)
    by_test false is found more = more found

-- no other endpoint has its number
pub only_one : (at : EpId) (ports : List Port) (port : Port) → IsStrictlySortedBy nat_cmp (map number ports) → port_at at ports ≡ Some port → All (λ p. p.id.0 ≡ port.id.0 → p ≡ port) ports
unfolding IsStrictlySortedBy
only_one at [] port up found = All-nil (λ p. p.id.0 ≡ port.id.0 → p ≡ port)
only_one at (p ∷ ports) port up found = by_test (is_port at p) refl found (only_one at ports port up.1)
  where
    above : (p : Port) (ports : List Port) → AllByRecursion (λ n. nat_cmp p.id.0 n ≡ Less) (map number ports) → All (λ q. p.id.0 < q.id.0) ports
    above p [] all = All-nil (λ (q : Port). p.id.0 < q.id.0)
    above p (q ∷ ports) all = All-cons (λ (q : Port). p.id.0 < q.id.0) q ports (ranked p.id.0 q.id.0 Less (sym all.0)) (above p ports all.1)

    by_test : (b : Bool) → is_port at p ≡ b → cond b (Some p) (find (is_port at) ports) ≡ Some port → (port_at at ports ≡ Some port → All (λ p. p.id.0 ≡ port.id.0 → p ≡ port) ports)
        → All (λ p. p.id.0 ≡ port.id.0 → p ≡ port) (p ∷ ports)
    by_test true is found more =
        let same : p ≡ port = cc in
        All-cons (λ p. p.id.0 ≡ port.id.0 → p ≡ port) p ports (λ _. same)
        (All-weaker (λ (q : Port). p.id.0 < q.id.0) (λ q. q.id.0 ≡ port.id.0 → q ≡ port) (λ q less is. absurd (let one = ap number same in omega arith)) ports (above p ports up.0))
    by_test false is found more =
        All-cons (λ p. p.id.0 ≡ port.id.0 → p ≡ port) p ports (λ one. absurd (eqb-false p.id.0 at.0 is (one ∙ found_number at ports port found))) (more found)

links_put : (ports : List Port) (next : Port) → All (λ p. p.id.0 ≡ next.id.0 → links_at next ≡ links_at p) ports → links_of (put_port next ports) ≡ links_of ports
links_put [] next same = refl
links_put (p ∷ ports) next same =
    let P = λ (p : Port). p.id.0 ≡ next.id.0 → links_at next ≡ links_at p in
    let one = cond_both (is_port next.id p) next p (λ (q : Port). links_at q ≡ links_at p) (λ is. All-head P p ports same (eqb-true p.id.0 next.id.0 is)) (λ _. refl) in
    let more = links_put ports next (All-tail P p ports same) in
    cc

-- an endpoint is changed that keeps its number and what the router says of its peers
kept_links : (at : EpId) (ports : List Port) (port next : Port) → IsStrictlySortedBy nat_cmp (map number ports) → port_at at ports ≡ Some port → next.id ≡ port.id → links_at next ≡ links_at port
    → links_of (put_port next ports) ≡ links_of ports
kept_links at ports port next up found same_id same_links =
    links_put ports next (All-weaker (λ p. p.id.0 ≡ port.id.0 → p ≡ port) (λ p. p.id.0 ≡ next.id.0 → links_at next ≡ links_at p) each ports (only_one at ports port up found))
  where
    each : (p : Port) → (p.id.0 ≡ port.id.0 → p ≡ port) → p.id.0 ≡ next.id.0 → links_at next ≡ links_at p
    each p one is = same_links ∙ ap links_at (sym (one (is ∙ ap (λ (id : EpId). id.0) same_id)))

refreshed_ports : (s : State) (ports : List Port) → links_of ports ≡ links_of s.ports → IsRefreshed s → IsRefreshed (record s { ports = ports })
refreshed_ports s ports same is = record {
  published = rw same is.published;
  reached = record {
    moment = is.reached.moment;
    past = is.reached.past;
    was = record { ascending = is.reached.was.ascending; exactly = is.reached.was.exactly };
  };
  lost = is.lost;
  hashed = is.hashed;
}

just_refreshed_ports : (s : State) (ports : List Port) → links_of ports ≡ links_of s.ports → IsJustRefreshed s → IsJustRefreshed (record s { ports = ports })
just_refreshed_ports s ports same is = record {
  refreshed = refreshed_ports s ports same is.refreshed;
  reached = record { ascending = is.reached.ascending; exactly = is.reached.exactly };
  young = is.young;
}

-- ---- endpoints change, and nothing that a router says of their peers

pub untouched_self : (s : State) → IsUntouched s s
untouched_self s = record { links = refl; gives = refl }

pub untouched_same : (s a : State) → a ≡ s → IsUntouched s a
untouched_same s a is = subst (IsUntouched s) (sym is) (untouched_self s)

pub refreshed_untouched : (s a : State) → IsUntouched s a → IsRefreshed s → IsRefreshed a
refreshed_untouched s a untouched is = subst IsRefreshed (sym untouched.gives) (refreshed_ports s a.ports untouched.links is)

pub just_refreshed_untouched : (s a : State) → IsUntouched s a → IsJustRefreshed s → IsJustRefreshed a
just_refreshed_untouched s a untouched is = subst IsJustRefreshed (sym untouched.gives) (just_refreshed_ports s a.ports untouched.links is)

-- so it is since a state
pub record IsKept (start s : State) : Type 0 where
  pub ports : ArePorts s.ports
  pub untouched : IsUntouched start s

abbrev pub Kept : State → Running → Type 0
Kept start r = IsKept start r.state

pub kept_self : (s : State) → ArePorts s.ports → IsKept s s
kept_self s are = record { ports = are; untouched = untouched_self s }

pub kept_port : (start : State) (at : EpId) (port next : Port) (r : Running) → port_at at r.state.ports ≡ Some port → next.id ≡ port.id
    → links_at next ≡ links_at port → Kept start r → Kept start (with_port next r)
kept_port start at port next r found same_id same_links kept =
    let ports : List Port = put_port next r.state.ports in
    record {
      ports = are-put next r.state.ports kept.ports;
      untouched = record {
        links = kept_links at r.state.ports port next kept.ports.ascending found same_id same_links ∙ kept.untouched.links;
        gives = ap (λ (s : State). let a : State = record s { ports = ports } in a) kept.untouched.gives;
      };
    }

-- a rule of an endpoint that keeps its number and what the router says of its peers
abbrev KeepsLinks : (Port → Rule) → Type 0
KeepsLinks rule =
    (start : State) (port : Port) (r a : Running) → rule port r a → ((next : Port) → next.id ≡ port.id → links_at next ≡ links_at port → Kept start (with_port next r)) → Kept start r → Kept start a

pub keeps_kept_at : (start : State) (at : EpId) (rule : Port → Rule) → KeepsLinks rule → Keeps (Kept start) (AtPort at rule)
keeps_kept_at start at rule keeps =
    keeps_option (Kept start) at rule (λ port r a found holds kept. keeps start port r a holds (λ next same_id same_links. kept_port start at port next r found same_id same_links kept) kept)

-- ---- a refresh

-- the facts but for the hash
record IsReached (s : State) : Type 0 where
  published : own_items s ≡ s.own.items
  young : s.moment - s.own.born < 2 ^ 32 - 2 ^ 16
  reached : IsReach s s.reach
  lost : All (λ node. is_among s.reach node.id.0 ≡ is_none node.stored.lost) s.table.entries

published_after : (r a : Running) → IsPublishing r a → own_items a.state ≡ a.state.own.items
published_after r a (inl (published, is)) = subst (λ (x : Running). own_items x.state ≡ x.state.own.items) (sym is) published.same
published_after r a (inr (other, is)) = subst (λ (x : Running). own_items x.state ≡ x.state.own.items) (sym is.gives) (sym is.items_are)

ages_after : (r a : Running) → IsPublishing r a → a.state.moment - a.state.own.born < 2 ^ 32 - 2 ^ 16
ages_after r a (inl (published, is)) = subst (λ (x : Running). x.state.moment - x.state.own.born < 2 ^ 32 - 2 ^ 16) (sym is) published.young
ages_after r a (inr (other, is)) =
    let born = is.born_is in subst (λ (x : Running). x.state.moment - x.state.own.born < 2 ^ 32 - 2 ^ 16) (sym is.gives) (omega (arith, born))

-- a mark changes nothing of what is seen of a node
pub seen_marked : (reach : List NodeId) (now moment : ℕ) (nodes : List HeldNode) → map (held_entry moment) (map (marked_node reach now) nodes) ≡ map (held_entry moment) nodes
seen_marked reach now moment [] = refl
seen_marked reach now moment (node ∷ nodes) = ap (λ rest. held_entry moment node ∷ rest) (seen_marked reach now moment nodes)

lost_is : (reachable : Bool) (now : ℕ) (lost : Option ℕ) → reachable ≡ is_none (lost_after reachable now lost)
lost_is true now lost = refl
lost_is false now lost = refl

reached_after : (r a : Running) → IsReaching r a → own_items r.state ≡ r.state.own.items → r.state.moment - r.state.own.born < 2 ^ 32 - 2 ^ 16 → IsReached a.state
reached_after r a is published young = subst (λ (x : Running). IsReached x.state) (sym is.gives) (record {
  published = published;
  young = young;
  reached = record { ascending = is.is_reach.ascending; exactly = exactly };
  lost = All-map (λ (node : HeldNode). is_among is.reach node.id.0 ≡ is_none node.stored.lost) (marked_node is.reach s.moment) s.table.entries
      (λ k d within. let node = get_or s.table.entries k d in lost_is (is_among is.reach node.id.0) s.moment node.stored.lost);
})
  where
    s : State
    s = r.state

    among : List Entry → List Entry
    among nodes = filter (λ n. nat_lt n.id.0 r.state.id.0) nodes ++ own_entry r.state ∷ filter (λ n. nat_lt r.state.id.0 n.id.0) nodes

    exactly : (id : NodeId) → Contains is.reach id ↔ IsReachable r.state.id.0 (among (map (held_entry r.state.moment) (map (marked_node is.reach r.state.moment) r.state.table.entries))) id.0
    exactly id = rw (seen_marked is.reach r.state.moment r.state.moment r.state.table.entries) (is.is_reach.exactly id)

with_hash : (s : State) (net : List ℕ) → IsReached s → net ≡ network_state_hash s → IsJustRefreshed (record s { net = net })
with_hash s net is same = record {
  refreshed = record {
    published = is.published;
    reached = record { moment = s.moment; past = omega arith; was = record { ascending = is.reached.ascending; exactly = is.reached.exactly } };
    lost = is.lost;
    hashed = same;
  };
  reached = record { ascending = is.reached.ascending; exactly = is.reached.exactly };
  young = is.young;
}

pub reset_keeps : KeepsLinks IsPortReset
reset_keeps start port r a (inl (shortest, is)) changed kept = subst (Kept start) (sym is) kept
reset_keeps start port r a (inr (longer, (word, is))) changed kept = subst (Kept start) (sym is) (changed (record port { trickle = interval_from r.state.moment 200 word }) refl refl)

refreshed_hashing : (r a : Running) → IsHashing r a → ArePorts r.state.ports → IsReached r.state → IsJustRefreshed a.state
refreshed_hashing r a (inl (same, is)) are reached = subst (λ (x : Running). IsJustRefreshed x.state) (sym is) (with_hash r.state r.state.net reached (sym same))
refreshed_hashing r a (inr (other, resets)) are reached =
    let hashed : Running = record r { state = record r.state { net = network_state_hash r.state } } in
    let start : IsJustRefreshed hashed.state = with_hash r.state (network_state_hash r.state) reached refl in
    let kept : Kept hashed.state a = keeps_each (Kept hashed.state) (λ at. AtPort at IsPortReset)
    (λ at. keeps_kept_at hashed.state at IsPortReset reset_keeps) (endpoints_of r.state.ports) hashed a resets (kept_self hashed.state are) in
    just_refreshed_untouched hashed.state a.state kept.untouched start

ports_after : (r a : Running) → IsPublishing r a → a.state.ports ≡ r.state.ports
ports_after r a (inl (published, is)) = ap (λ (x : Running). x.state.ports) is
ports_after r a (inr (other, is)) = ap (λ (x : Running). x.state.ports) is.gives

-- after a refresh
pub refreshed_refresh : (r a : Running) → IsRefresh r a → ArePorts r.state.ports → IsJustRefreshed a.state
refreshed_refresh r a (published, publishes, (reached, reaches, hashes)) are =
    let same : reached.state.ports ≡ r.state.ports = ap (λ (x : Running). x.state.ports) reaches.gives ∙ ports_after r published publishes in
    refreshed_hashing reached a hashes (subst ArePorts (sym same) are) (reached_after published reached reaches (published_after r published publishes) (ages_after r published publishes))

pub tick_keeps : KeepsLinks IsPortTick
tick_keeps start port r a (between, moves, sends) changed kept =
    sent sends (subst (Kept start) (sym moves.gives) (changed (ticked r.state.moment moves.words port) refl refl))
  where
    sent : IsPortSending port between a → Kept start between → Kept start a
    sent (inl (due, is)) now = subst (Kept start) (sym is.gives) now
    sent (inr (none, is)) now = subst (Kept start) (sym is) now

-- ---- a router

-- what holds of a router, and what holds of it beside what a refresh makes
abbrev pub Router : Running → Type 0
Router r = IsRouter r.state

abbrev pub Well : Running → Type 0
Well r = IsWell r.state

-- a refresh makes a router
pub router_refresh : EachKeeps [] Well → (r a : Running) → IsRefresh r a → Well r → Router a
router_refresh each r a refreshes well =
    record { well = refresh_walk [] Well each r a refreshes well; refreshed = (refreshed_refresh r a refreshes well.ports).refreshed }

pub router_ticks : EachKeeps [] Well → Keeps Router IsPortsTick
router_ticks each r a ticks router =
    let kept : Kept r.state a = keeps_each (Kept r.state) (λ at. AtPort at IsPortTick) (λ at. keeps_kept_at r.state at IsPortTick tick_keeps)
    (endpoints_of r.state.ports) r a ticks (kept_self r.state router.well.ports) in
    record {
      well = ports_walk [] Well each r a ticks router.well;
      refreshed = refreshed_untouched r.state a.state kept.untouched router.refreshed;
    }

pub refreshed-later : (now : ℕ) (s : State) → s.moment ≤ now → IsRefreshed s → IsRefreshed (record s { moment = now })
refreshed-later now s rises is = record {
  published = is.published;
  reached = record {
    moment = is.reached.moment;
    past = let past = is.reached.past in omega arith;
    was = record { ascending = is.reached.was.ascending; exactly = is.reached.was.exactly };
  };
  lost = is.lost;
  hashed = is.hashed;
}
