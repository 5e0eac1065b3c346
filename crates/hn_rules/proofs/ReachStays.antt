-- Where nodes say the same peers, the same nodes stay reachable.
use Rattle.hn_base.proofs.Names.{◌≡◌, ◌≢◌, ◌∙◌, ◌-◌, ◌^◌, ◌<◌, ◌≤◌, ℕ, Bool, true, false, List, ◌∷◌, filter, nat_lt, Option, Some, None, inl, inr, refl, sym, ap, subst, arith, ⊎_elim, All, is_none}
use Rattle.hn_base.proofs.Names.{◌==◌, ◌&&◌, option_map, option_and_then, nat_cmp, cases_eq, cond-true, eq-eqb, eqb-true, Decides-and, Decides-eqb, Decides-like, nat_cmp_total, All-contains}
use Rattle.hn_base.proofs.Names.{All-contains_itself, All-weaker, Contains-append_left, Contains-append_right, Contains-append_cases, same_Some}
use Rattle.hn_rules.proofs.Names.{Contains, ◌⊎◌, ◌↔◌, IfSome, Contains-tail, Contains-cases, Contains-map, Contains-from_map, sorted_parts, found_passes, in_filter, from_filter, passing_found}
use Rattle.hn_rules.proofs.Names.{one_of_ascending, NodeId, HasPeer, PeerLink, Entry, ReachabilityStays, IsReachable, Held, Port, delegated_after, OwnPrefix, PlainState, stored_from}
use Rattle.hn_rules.proofs.Names.{stored_renumbered, entries_changed, entries_after, HeldIsOfAnEntry, is_among, Nodes, held, put, IsTable, Took, HeldNode, Stored, State, Running, IsAssigning, ending}
use Rattle.hn_rules.proofs.Names.{IsExpiry, KnowsReach, HaveSamePeers, LeadsAs, TakesState, IsTaken, age_at, held_entry, own_entry, held_entries, nodes_of, own_leaf, IsReach, next_number}
use Rattle.hn_rules.proofs.Names.{IsPublishing, IsReaching, IsRefreshed, IsUntouched}
use Rattle.std.specs.Prelude.{IsSomeAnd}
use Rattle.std.specs.Bool.{Decides}
use Rattle.hn_graph.specs.SameLinks.{SaysSamePeers, KeepsLinks, SameLinksReach}
use Rattle.hn_store.specs.Laws.{OthersStay, PutChangesOneNode}
use Rattle.hn_store.specs.declared.state.Took.TheVariants as took
use Rattle.hn_rules.specs.KnownReach.{IsLeading}
use Rattle.hn_rules.proofs.Forgetting.{IsMarked}
use Rattle.hn_rules.proofs.Refreshes.{refreshed_untouched}
use Rattle.hn_rules.proofs.NoPeerExpired.{expiry_ports}
use Rattle.hn_rules.proofs.RefreshChangesNothing.{LeadsOn, own_there, same_reach, reaching_rests}

-- ---- peers

pub link_decided : (a b : PeerLink) → Decides (a.endpoint.0 == b.endpoint.0 && (a.peer.0 == b.peer.0 && a.peer_endpoint.0 == b.peer_endpoint.0)) (a ≡ b)
link_decided a b =
    Decides-like _
    (λ (same : (a.endpoint.0 ≡ b.endpoint.0) × ((a.peer.0 ≡ b.peer.0) × (a.peer_endpoint.0 ≡ b.peer_endpoint.0))).
    λ i. record { endpoint = record { 0 = same.0 i }; peer = record { 0 = same.1.0 i }; peer_endpoint = record { 0 = same.1.1 i } })
    (λ (same : a ≡ b). (ap (λ (l : PeerLink). l.endpoint.0) same, (ap (λ (l : PeerLink). l.peer.0) same, ap (λ (l : PeerLink). l.peer_endpoint.0) same)))
    (Decides-and _ _ (Decides-eqb a.endpoint.0 b.endpoint.0) (Decides-and _ _ (Decides-eqb a.peer.0 b.peer.0) (Decides-eqb a.peer_endpoint.0 b.peer_endpoint.0)))

-- ---- the nodes that a router knows

-- the node has another identifier than the router
abbrev Other : State → HeldNode → Type 0
Other s node = (nat_lt node.id.0 s.id.0 ≡ true) ⊎ (nat_lt s.id.0 node.id.0 ≡ true)

-- a held node is known by this
abbrev Known : State → Entry → Type 0
Known s x = (node : HeldNode) × Contains s.table.entries node × Other s node × (held_entry s.moment node ≡ x)

module _ (s : State) where
  abbrev lower : Entry → Bool
  lower n = nat_lt n.id.0 s.id.0

  abbrev greater : Entry → Bool
  greater n = nat_lt s.id.0 n.id.0

  known_from : (x : Entry) → Contains (nodes_of s) x → (x ≡ own_entry s) ⊎ Known s x
  known_from x there = by_part (Contains-append_cases (filter lower (held_entries s)) (own_entry s ∷ filter greater (held_entries s)) x there)
    where
      from : (p : Entry → Bool) → ((node : HeldNode) → p (held_entry s.moment node) ≡ true → Other s node) → Contains (filter p (held_entries s)) x → Known s x
      from p other old =
          let found = Contains-from_map (held_entry s.moment) s.table.entries x (from_filter p (held_entries s) x old).0 in
          let passes : p (held_entry s.moment found.0) ≡ true = subst (λ (y : Entry). p y ≡ true) (sym found.2) (from_filter p (held_entries s) x old).1 in
          (found.0, found.1, other found.0 passes, found.2)

      above : (own_entry s ≡ x) ⊎ Contains (filter greater (held_entries s)) x → (x ≡ own_entry s) ⊎ Known s x
      above (inl is) = inl (sym is)
      above (inr old) = inr (from greater (λ node is. inr is) old)

      by_part : Contains (filter lower (held_entries s)) x ⊎ Contains (own_entry s ∷ filter greater (held_entries s)) x → (x ≡ own_entry s) ⊎ Known s x
      by_part (inl old) = inr (from lower (λ node is. inl is) old)
      by_part (inr rest) = above (Contains-cases (own_entry s) (filter greater (held_entries s)) x rest)

  known_in : (node : HeldNode) → Contains s.table.entries node → Other s node → Contains (nodes_of s) (held_entry s.moment node)
  known_in node there other = by_side other
    where
      n : Entry
      n = held_entry s.moment node

      at : Contains (held_entries s) n
      at = Contains-map (held_entry s.moment) s.table.entries node there

      by_side : Other s node → Contains (nodes_of s) n
      by_side (inl less) = Contains-append_left (filter lower (held_entries s)) (own_entry s ∷ filter greater (held_entries s)) n (in_filter lower (held_entries s) n at less)
      by_side (inr more) =
          Contains-append_right (filter lower (held_entries s)) (own_entry s ∷ filter greater (held_entries s)) n
          (Contains-tail (own_entry s) (filter greater (held_entries s)) n (in_filter greater (held_entries s) n at more))

other_too : (s t : State) → t.id ≡ s.id → (x y : HeldNode) → y.id.0 ≡ x.id.0 → Other s x → Other t y
other_too s t same_id x y same other =
    let apart = λ (own n : ℕ). (nat_lt n own ≡ true) ⊎ (nat_lt own n ≡ true) in
    subst (λ (n : ℕ). apart t.id.0 n) (sym same) (subst (λ (own : NodeId). apart own.0 x.id.0) (sym same_id) other)

-- ---- the same nodes are reachable

-- each held node has one that says the same peers
abbrev GoTo : State → State → Type 0
GoTo s t = (x : HeldNode) → Contains s.table.entries x → (y : HeldNode) × Contains t.table.entries y × SaysSamePeers (held_entry s.moment x) (held_entry t.moment y)

known_goes : (s t : State) → t.id ≡ s.id → SaysSamePeers (own_entry s) (own_entry t) → GoTo s t
    → (x : Entry) → (x ≡ own_entry s) ⊎ Known s x → (y : Entry) × Contains (nodes_of t) y × SaysSamePeers x y
known_goes s t same_id own goes x (inl is) = (own_entry t, own_there t t.moment, subst (λ (z : Entry). SaysSamePeers z (own_entry t)) (sym is) own)
known_goes s t same_id own goes x (inr (node, there, other, is)) =
    let next = goes node there in (
      held_entry t.moment next.0,
      known_in t next.0 next.1 (other_too s t same_id node next.0 next.2.id other),
      subst (λ (z : Entry). SaysSamePeers z (held_entry t.moment next.0)) is next.2,
    )

reach_too : SameLinksReach → (s t : State) → t.id ≡ s.id → SaysSamePeers (own_entry s) (own_entry t) → SaysSamePeers (own_entry t) (own_entry s) → GoTo s t → GoTo t s
    → (reach : List NodeId) → IsReach s reach → IsReach t reach
reach_too law s t same_id own own_back goes comes reach is = record { ascending = is.ascending; exactly = exactly }
  where
    keeps : KeepsLinks s.id.0 (nodes_of s) (nodes_of t)
    keeps = record {
      kept = λ x there reachable. known_goes s t same_id own goes x (known_from s x there);
      known = λ y there. known_goes t s (sym same_id) own_back comes y (known_from t y there);
    }

    exactly : (id : NodeId) → Contains reach id ↔ IsReachable t.id.0 (nodes_of t) id.0
    exactly id =
        let same = law s.id.0 (nodes_of s) (nodes_of t) keeps id.0 in
        let there = is.exactly id in (
          λ old. subst (λ (own : NodeId). IsReachable own.0 (nodes_of t) id.0) (sym same_id) (same.0 (there.0 old)),
          λ now. there.1 (same.1 (subst (λ (own : NodeId). IsReachable own.0 (nodes_of t) id.0) same_id now)),
        )

same_itself : (x : Entry) → SaysSamePeers x x
same_itself x = record { id = refl; peers = λ link. (λ has. has, λ has. has); recent = λ recent. recent }

peers_back : (a b : List ℕ) → HaveSamePeers a b → HaveSamePeers b a
peers_back a b same link = let one = same link in (one.1, one.0)

-- ---- own node data are published with the same peers

pub reach_rests : ReachabilityStays → SameLinksReach → (now : ℕ) (r a : Running) → now ≡ r.state.moment → KnowsReach r.state
    → now - r.state.own.born < 2 ^ 32 - 2 ^ 16 → All (LeadsOn now) r.state.table.entries
    → IsPublishing r a → HaveSamePeers r.state.own.body a.state.own.body → IsReaching a a
reach_rests stays law now r a same_moment known ages_now leads_now publishing same_peers =
    let both = by_publishing publishing in reaching_rests a both.0 both.1
  where
    s : State
    s = r.state

    young : s.moment - s.own.born < 2 ^ 32 - 2 ^ 16
    young = subst (λ (n : ℕ). n - s.own.born < 2 ^ 32 - 2 ^ 16) same_moment ages_now

    before : IsReach s s.reach
    before =
        same_reach s known.reached.moment known.reached.past known.reached.was known.lost young (subst (λ (n : ℕ). All (LeadsOn n) s.table.entries) same_moment leads_now) stays

    Both : State → Type 0
    Both t = IsReach t t.reach × All (IsMarked t.reach) t.table.entries

    by_publishing : IsPublishing r a → Both a.state
    by_publishing (inl (published, is)) = subst (λ (x : Running). Both x.state) (sym is) (before, known.lost)
    by_publishing (inr (other, is)) =
        let t : State = record s { number = next_number s.number; own = is.own } in
        let same : a.state ≡ t = ap (λ (x : Running). x.state) is.gives in
        let peers = subst (λ (x : State). HaveSamePeers s.own.body x.own.body) same same_peers in
        let born = is.born_is in
        let own : SaysSamePeers (own_entry s) (own_entry t) = record { id = refl; peers = peers; recent = λ _. omega (arith, born) } in
        let own_back : SaysSamePeers (own_entry t) (own_entry s) = record { id = refl; peers = peers_back s.own.body is.own.body peers; recent = λ _. omega (arith, young) } in
        let held_same : GoTo s t = λ x there. (x, there, same_itself (held_entry s.moment x)) in
        let held_back : GoTo t s = λ x there. (x, there, same_itself (held_entry s.moment x)) in
        subst Both (sym same) (reach_too law s t refl own own_back held_same held_back s.reach before, known.lost)

-- ---- the table takes a state with the same peers

held_there : (nodes : Nodes) → IsTable nodes → (node : HeldNode) → Contains nodes.entries node → held nodes.entries node.id.0 ≡ Some node.stored
held_there nodes is node there =
    let test = λ (n : HeldNode). n.id.0 == node.id.0 in
    let found = passing_found test nodes.entries node there (eq-eqb node.id.0 node.id.0 refl) in
    let passes = found_passes test nodes.entries found.0 found.1 in
    let up = (sorted_parts (λ (n : HeldNode). n.id.0) nat_cmp nodes.entries).1 is.ascending in
    let same : found.0 ≡ node = one_of_ascending (λ (n : HeldNode). n.id.0) nat_cmp nat_cmp_total nodes.entries up found.0 node passes.0 there (eqb-true (found.0).id.0 node.id.0 passes.1) in
    ap (option_map (λ (n : HeldNode). n.stored)) (found.1 ∙ ap Some same)

-- the moment of loss stays
same_lost : PutChangesOneNode → (entries : List HeldNode) (carried : PlainState) (now : ℕ) (how : Took) (before after : Stored)
    → held entries carried.node ≡ Some before → held (entries_after entries carried now how) carried.node ≡ Some after → after.lost ≡ before.lost
same_lost law entries carried now how before after was is = by_answer how is
  where
    is_put : (stored : Stored) → held (put carried.node stored entries) carried.node ≡ Some stored
    is_put stored =
        law entries carried.node carried.node stored
        ∙ cond-true (carried.node == carried.node) (Some stored) (held entries carried.node) (eq-eqb carried.node carried.node refl)

    unchanged : held entries carried.node ≡ Some after → after.lost ≡ before.lost
    unchanged same = ap (λ (stored : Stored). stored.lost) (same_Some after before (sym same ∙ was))

    by_answer : (how : Took) → held (entries_after entries carried now how) carried.node ≡ Some after → after.lost ≡ before.lost
    by_answer took.Kept is =
        let stored : Stored = stored_from carried now (held entries carried.node) in
        ap (λ (x : Stored). x.lost) (same_Some after stored (sym is ∙ is_put stored)) ∙ ap (option_and_then (λ (x : Stored). x.lost)) was
    by_answer took.Renumbered is =
        let changed = stored_renumbered carried now in
        let put_is = ap (λ (o : Option Stored). held (entries_changed carried.node changed o entries) carried.node) was in
        ap (λ (x : Stored). x.lost) (same_Some after (changed before) (sym is ∙ put_is ∙ is_put (changed before)))
    by_answer took.Own is = unchanged is
    by_answer took.Ask is = unchanged is
    by_answer took.Stale is = unchanged is
    by_answer took.BadHash is = unchanged is
    by_answer took.BadBody is = unchanged is
    by_answer took.TooLong is = unchanged is
    by_answer took.Full is = unchanged is

-- what is held of one node has the same peers and the same moment of loss, and paths lead on from it
record HasPartner (now : ℕ) (xs ys : List HeldNode) (id : ℕ) : Type 0 where
  a : Stored
  b : Stored
  was : held xs id ≡ Some a
  is : held ys id ≡ Some b
  peers : HaveSamePeers a.body b.body
  lost : b.lost ≡ a.lost
  recent : age_at now b < 2 ^ 32 - 2 ^ 15

-- such a node
record IsPartner (m : ℕ) (x : HeldNode) (ys : List HeldNode) : Type 0 where
  node : HeldNode
  there : Contains ys node
  like : SaysSamePeers (held_entry m x) (held_entry m node)
  lost : node.stored.lost ≡ x.stored.lost

partner : HeldIsOfAnEntry → (m now : ℕ) → m ≤ now → (xs ys : List HeldNode) (id : ℕ) → HasPartner now xs ys id
    → ((k : ℕ) → k ≢ id → held ys k ≡ held xs k) → (x : HeldNode) → held xs x.id.0 ≡ Some x.stored → IsPartner m x ys
partner of_entry m now past xs ys id has others x at = ⊎_elim here apart (cases_eq x.id.0 id)
  where
    here : x.id.0 ≡ id → IsPartner m x ys
    here same =
        let found = of_entry ys id has.b has.is in
        let y = found.0 in
        let a_is : x.stored ≡ has.a = same_Some x.stored has.a (sym at ∙ ap (held xs) same ∙ has.was) in
        let recent = subst (λ (b : Stored). age_at now b < 2 ^ 32 - 2 ^ 15) (sym found.3) has.recent in
        record {
          node = y;
          there = found.1;
          like = record {
            id = found.2 ∙ sym same;
            peers = subst (λ (b : Stored). HaveSamePeers x.stored.body b.body) (sym found.3) (subst (λ (a : Stored). HaveSamePeers a.body has.b.body) (sym a_is) has.peers);
            recent = λ _. omega (arith, recent, past);
          };
          lost = ap (λ (b : Stored). b.lost) found.3 ∙ has.lost ∙ ap (λ (a : Stored). a.lost) (sym a_is);
        }

    apart : x.id.0 ≢ id → IsPartner m x ys
    apart other =
        let found = of_entry ys x.id.0 x.stored (others x.id.0 other ∙ at) in
        let y = found.0 in
        record {
          node = y;
          there = found.1;
          like = record {
            id = found.2;
            peers = subst (λ (b : Stored). HaveSamePeers x.stored.body b.body) (sym found.3) (λ link. (λ has. has, λ has. has));
            recent = subst (λ (b : Stored). age_at m x.stored < 2 ^ 32 - 2 ^ 15 → age_at m b < 2 ^ 32 - 2 ^ 15) (sym found.3) (λ recent. recent);
          };
          lost = ap (λ (b : Stored). b.lost) found.3;
        }

takes_known : SameLinksReach → HeldIsOfAnEntry → OthersStay → PutChangesOneNode → (carried : PlainState) (how : Took) (r a : Running) (bytes : List ℕ)
    → IsTable r.state.table → IsTable a.state.table → TakesState carried how r a → IsLeading r.state carried.node bytes → LeadsAs a.state carried.node bytes
    → KnowsReach r.state → KnowsReach a.state
takes_known law of_entry others puts carried how r a bytes is_table is_next takes leading leads known =
    subst KnowsReach (sym same) (record { reached = record { moment = m; past = known.reached.past; was = was }; lost = lost })
  where
    s : State
    s = r.state

    t : State
    t = record r.state { table = takes.table }

    same : a.state ≡ t
    same = ap (λ (x : Running). x.state) takes.gives

    after : LeadsAs t carried.node bytes
    after = subst (λ (x : State). LeadsAs x carried.node bytes) same leads

    m : ℕ
    m = known.reached.moment

    others_are : (k : ℕ) → k ≢ carried.node → held takes.table.entries k ≡ held s.table.entries k
    others_are k other = others s.table (own_leaf s) carried s.moment takes.table how k takes.accepts other

    lost_stays : after.stored.lost ≡ leading.stored.lost
    lost_stays =
        same_lost puts s.table.entries carried s.moment how leading.stored after.stored leading.there
        (sym (ap (λ (nodes : Nodes). held nodes.entries carried.node) takes.accepts.after) ∙ after.there)

    peers : HaveSamePeers leading.stored.body after.stored.body
    peers = subst (λ (body : List ℕ). HaveSamePeers body after.stored.body) (sym leading.body_is) after.peers

    goes : (x : HeldNode) → Contains s.table.entries x → IsPartner m x takes.table.entries
    goes x there =
        partner of_entry m s.moment known.reached.past s.table.entries takes.table.entries carried.node
        (record { a = leading.stored; b = after.stored; was = leading.there; is = after.there; peers = peers; lost = lost_stays; recent = after.recent })
        others_are x (held_there s.table is_table x there)

    comes : (y : HeldNode) → Contains takes.table.entries y → IsPartner m y s.table.entries
    comes y there =
        partner of_entry m s.moment known.reached.past takes.table.entries s.table.entries carried.node
        (record {
          a = after.stored;
          b = leading.stored;
          was = after.there;
          is = leading.there;
          peers = peers_back leading.stored.body after.stored.body peers;
          lost = sym lost_stays;
          recent = leading.recent;
        })
        (λ k other. sym (others_are k other)) y (held_there takes.table (subst (λ (x : State). IsTable x.table) same is_next) y there)

    was : IsReach (record t { moment = m }) s.reach
    was =
        reach_too law (record s { moment = m }) (record t { moment = m }) refl (same_itself (own_entry (record s { moment = m }))) (same_itself (own_entry (record s { moment = m })))
        (λ x there. let to = goes x there in (to.node, to.there, to.like))
        (λ y there. let to = comes y there in (to.node, to.there, to.like))
        s.reach known.reached.was

    marked : (y : HeldNode) → Contains takes.table.entries y → is_among s.reach y.id.0 ≡ is_none y.stored.lost
    marked y there =
        let old = comes y there in
        ap (is_among s.reach) (sym old.like.id) ∙ All-contains (IsMarked s.reach) s.table.entries old.node known.lost old.there ∙ ap is_none old.lost

    lost : All (λ node. is_among s.reach node.id.0 ≡ is_none node.stored.lost) takes.table.entries
    lost =
        All-weaker (Contains takes.table.entries) (λ node. is_among s.reach node.id.0 ≡ is_none node.stored.lost) marked takes.table.entries (All-contains_itself takes.table.entries)

pub takes_where : SameLinksReach → HeldIsOfAnEntry → OthersStay → PutChangesOneNode → (carried : PlainState) (how : Took) (r a : Running) (before : Option (List ℕ))
    → IsTable r.state.table → IsTable a.state.table → TakesState carried how r a → IfSome before (IsLeading r.state carried.node) → IsSomeAnd before (LeadsAs a.state carried.node)
    → KnowsReach r.state → KnowsReach a.state
takes_where law of_entry others puts carried how r a None is_table is_next takes leading leads known = absurd leads
takes_where law of_entry others puts carried how r a (Some bytes) is_table is_next takes leading leads known =
    takes_known law of_entry others puts carried how r a bytes is_table is_next takes leading leads known

-- what comes of another answer than a claim leaves the state
pub taken_leaves : (carried : PlainState) (how : Took) (before after : Running) → how ≢ took.Own → IsTaken carried how before after → after.state ≡ before.state
taken_leaves carried took.Own before after other taken = absurd (other refl)
taken_leaves carried took.Kept before after other taken = ap (λ (r : Running). r.state) taken
taken_leaves carried took.Renumbered before after other taken = ap (λ (r : Running). r.state) taken
taken_leaves carried took.Ask before after other taken = ap (λ (r : Running). r.state) taken
taken_leaves carried took.Stale before after other taken = ap (λ (r : Running). r.state) taken
taken_leaves carried took.BadHash before after other taken = ap (λ (r : Running). r.state) taken
taken_leaves carried took.BadBody before after other taken = ap (λ (r : Running). r.state) taken
taken_leaves carried took.TooLong before after other taken = ap (λ (r : Running). r.state) taken
taken_leaves carried took.Full before after other taken = ap (λ (r : Running). r.state) taken

-- ---- what else keeps it

pub knows_refreshed : (s : State) → IsRefreshed s → KnowsReach s
knows_refreshed s is = record { reached = is.reached; lost = is.lost }

-- after a TLV
pub knows_touched : (any links : Bool) (s t : State) → (any ≡ false → IsUntouched s t) → (any ≡ true → links ≡ false → KnowsReach s → KnowsReach t)
    → IsRefreshed s → links ≡ false → KnowsReach t
knows_touched false links s t untouched keeps is unlinked = knows_refreshed t (refreshed_untouched s t (untouched refl) is)
knows_touched true links s t untouched keeps is unlinked = keeps refl unlinked (knows_refreshed s is)

-- endpoints, own delegated prefixes and assignments
knows_with : (s : State) (ports : List Port) (delegated : List OwnPrefix) (held : Held) → KnowsReach s → KnowsReach (record s { ports = ports; delegated = delegated; held = held })
knows_with s ports delegated held known = record {
  reached = record {
    moment = known.reached.moment;
    past = known.reached.past;
    was = record { ascending = known.reached.was.ascending; exactly = known.reached.was.exactly };
  };
  lost = known.lost;
}

pub knows_assigned : (r a : Running) → IsAssigning r a → KnowsReach r.state → KnowsReach a.state
knows_assigned r a is known =
    subst KnowsReach (sym (ap (λ (x : Running). x.state) is.gives)) (knows_with r.state r.state.ports r.state.delegated is.ran.held known)

pub knows_ended : (r between a : Running) → IsExpiry r between → a ≡ ending between → KnowsReach r.state → KnowsReach a.state
knows_ended r between a expiry is known =
    let s = between.state in
    let left : KnowsReach s = subst KnowsReach (sym (expiry_ports r between expiry)) (knows_with r.state s.ports r.state.delegated r.state.held known) in
    subst KnowsReach (sym (ap (λ (x : Running). x.state) is)) (knows_with s s.ports (delegated_after s.moment s.delegated) s.held left)
