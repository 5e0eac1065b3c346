-- What holds of the parts of a router, and that it holds after one is changed.
use Rattle.hn_base.proofs.Names.{◌≡◌, ◌<◌, ◌≤◌, ◌^◌, ◌∙◌, ℕ, suc, Bool, true, false, cond, not, List, [], ◌∷◌, length, map, filter, get_or, Option, Some, None, refl, sym, ap, subst, arith, All, find}
use Rattle.hn_base.proofs.Names.{◌==◌, option_map, option_and_then, cond_both, eqb-true, length-map, All-nil, All-cons, All-append, All-filter, All-map, All-weaker, length-filter, count_by-le-length}
use Rattle.hn_rules.proofs.Names.{nat_lt, NodeId, EpId, Port, Stored, HeldNode, OwnLeaf, Took, Nodes, IsTable, held, put, PlainState, Accepts, stored_from, stored_renumbered, entries_changed}
use Rattle.hn_rules.proofs.Names.{entries_after, is_among, lost_after, marked_node, loss_marked, is_forgotten, remembered, NoNodesAreTable, ascending-around, State, number, ArePorts, is_port}
use Rattle.hn_rules.proofs.Names.{put_port, attached, detached, IsInDelegated, HasOwnPriority, IsAssignedPast, Held, PlainData, IsOwnData, AreOwnPrefixes, AreHeldPairs, IfThere, IsWell}
use Rattle.std.specs.List.Sorted.{IsStrictlySortedBy}
use Rattle.hn_store.specs.declared.state.Took.TheVariants.{Kept, Renumbered}
use Rattle.hn_store.specs.Nodes.{entry}
use Rattle.hn_base.proofs.AscendingNumbers.{ascending-filter, around-few}
use Rattle.hn_own.specs.HeldPairs.{no_pairs}
use Rattle.hn_rules.specs.Router.{IsNodePast}
use Rattle.hn_rules.proofs.RangedParts.{IsRangedState}
use Rattle.hn_rules.proofs.LawsFromBelow.{KnownLaws, held_all}
use Rattle.hn_rules.proofs.Finding.{find-none_filter}
use Rattle.hn_rules.proofs.PortFacts.{IsPortWell}
use Rattle.hn_rules.proofs.PostParts.{ArePostsWell}

-- the facts of a held node
pub record IsNodeWell (now : ℕ) (node : HeldNode) : Type 0 where
  pub id : node.id.0 < 2 ^ 32
  pub number : node.stored.number < 2 ^ 32
  pub past : IsNodePast now node

-- the facts of endpoints
pub record ArePortsWell (now : ℕ) (ports : List Port) : Type 0 where
  pub are : ArePorts ports
  pub each : All (IsPortWell now) ports

-- the facts of a table, for a router with that identifier
pub record IsTableWell (id now : ℕ) (nodes : Nodes) : Type 0 where
  pub table : IsTable nodes
  pub own_id : id < 2 ^ 32
  pub other : held nodes.entries id ≡ None
  pub each : All (IsNodeWell now) nodes.entries

-- the facts of the own node
pub record IsOwnWell (number now : ℕ) (own : PlainData) : Type 0 where
  pub data_is : IsOwnData own
  pub fits : number < 2 ^ 32
  pub past : own.born ≤ now

-- the facts of assignments and backoffs
pub record AreHeldWell (now : ℕ) (pairs : Held) : Type 0 where
  pub are : AreHeldPairs pairs
  pub past : All (IsAssignedPast now) pairs.assigned

-- the facts of a router
pub record IsMade (s : State) : Type 0 where
  pub ports : ArePortsWell s.moment s.ports
  pub table : IsTableWell s.id.0 s.moment s.table
  pub own : IsOwnWell s.number s.moment s.own
  pub delegated : AreOwnPrefixes s.delegated
  pub held : AreHeldWell s.moment s.held
  pub posts : ArePostsWell s.private s.ports s.addresses s.held.assigned s.own.items.links

pub made_from : (s : State) → IsWell s → IsMade s
made_from s well = record {
  ports = record { are = well.ports; each = λ k d within. record { peers = well.peers k d within; past = well.past.ports k d within } };
  table = record {
    table = well.table;
    own_id = well.numbered.own_id;
    other = well.other;
    each = λ k d within. record { id = well.numbered.held_ids k d within; number = well.numbered.held k d within; past = well.past.nodes k d within };
  };
  own = record { data_is = well.own; fits = well.numbered.own; past = well.past.born };
  delegated = well.delegated;
  held = record { are = well.pairs; past = well.past.assigned };
  posts = record { are = well.addresses; addressed = well.posted.addressed; of_length = well.posted.of_length; linked = well.posted.linked };
}

pub well_from : (s : State) → IsMade s → IsRangedState s → IsWell s
well_from s made ranged = record {
  ports = made.ports.are;
  peers = All-weaker (IsPortWell s.moment) _ (λ port well. well.peers) s.ports made.ports.each;
  table = made.table.table;
  own = made.own.data_is;
  delegated = made.delegated;
  other = made.table.other;
  pairs = made.held.are;
  addresses = made.posts.are;
  posted = record { addressed = made.posts.addressed; of_length = made.posts.of_length; linked = made.posts.linked };
  numbered = record {
    own = made.own.fits;
    held = All-weaker (IsNodeWell s.moment) _ (λ node well. well.number) s.table.entries made.table.each;
    own_id = made.table.own_id;
    held_ids = All-weaker (IsNodeWell s.moment) _ (λ node well. well.id) s.table.entries made.table.each;
  };
  past = record {
    born = made.own.past;
    ports = All-weaker (IsPortWell s.moment) _ (λ port well. well.past) s.ports made.ports.each;
    nodes = All-weaker (IsNodeWell s.moment) _ (λ node well. well.past) s.table.entries made.table.each;
    assigned = made.held.past;
  };
  ranged = ranged.0;
  private = ranged.1;
  near = ranged.2;
}

-- ---- endpoints

put_numbers : (port : Port) (ports : List Port) → map number (put_port port ports) ≡ map number ports
put_numbers port [] = refl
put_numbers port (p ∷ ports) =
    let one = cond_both (is_port port.id p) port p (λ (q : Port). q.id.0 ≡ p.id.0) (λ is. sym (eqb-true _ _ is)) (λ _. refl) in
    let more = put_numbers port ports in
    cc

-- an endpoint has a number of 4 bytes other than 0
abbrev pub IsNumber : Port → Type 0
IsNumber p = (0 < p.id.0) × (p.id.0 < 2 ^ 32)

-- one in place of another
pub are-put : (port : Port) (ports : List Port) → ArePorts ports → ArePorts (put_port port ports)
are-put port ports are = record {
  ascending = rw put_numbers are.ascending;
  few = rw length-map are.few;
  numbered = All-map IsNumber (λ (p : Port). cond (is_port port.id p) port p) ports
      (λ k d within. cond_both (is_port port.id (get_or ports k d)) port (get_or ports k d) IsNumber
      (λ is. let same = eqb-true _ _ is in let number = are.numbered k d within in let some = number.0 in let fits = number.1 in (omega arith, omega arith)) (λ _. are.numbered k d within));
}

module _ (now : ℕ) where
  pub ports-put : (port : Port) (ports : List Port) → IsPortWell now port → ArePortsWell now ports → ArePortsWell now (put_port port ports)
  ports-put port ports one well = record {
    are = are-put port ports well.are;
    each = All-map (IsPortWell now) (λ (p : Port). cond (is_port port.id p) port p) ports
        (λ k d within. cond_both (is_port port.id (get_or ports k d)) port (get_or ports k d) (IsPortWell now) (λ _. one) (λ _. well.each k d within));
  }

  -- one more
  pub ports-attached : (port : Port) (ports : List Port) → IsPortWell now port → IsNumber port → length ports < 16 → ArePortsWell now ports → ArePortsWell now (attached port ports)
  ports-attached port ports one some room well =
      let lower = λ (p : Port). nat_lt p.id.0 port.id.0 in
      let greater = λ (p : Port). nat_lt port.id.0 p.id.0 in
      let around = λ (P : Port → Type 0) (here : P port) (all : All P ports).
      All-append P (filter lower ports) (port ∷ filter greater ports) (All-filter lower P ports all) (All-cons P port (filter greater ports) here (All-filter greater P ports all)) in
      record {
        are = record {
          ascending = ascending-around number port ports well.are.ascending;
          few = let few : length (attached port ports) ≤ suc (length ports) = around-few number port ports in omega arith;
          numbered = around IsNumber some well.are.numbered;
        };
        each = around (IsPortWell now) one well.each;
      }

  -- one less
  pub ports-detached : (at : EpId) (ports : List Port) → ArePortsWell now ports → ArePortsWell now (detached at ports)
  ports-detached at ports well =
      let stays = λ (p : Port). not (is_port at p) in
      record {
        are = record {
          ascending = ascending-filter number stays ports well.are.ascending;
          few = let few = well.are.few in omega (arith, length-filter stays ports, count_by-le-length stays ports);
          numbered = All-filter stays IsNumber ports well.are.numbered;
        };
        each = All-filter stays (IsPortWell now) ports well.each;
      }

-- ---- the table

-- the identifier and the sequence number of a node state have 32 bits
abbrev pub IsInRange : PlainState → Type 0
IsInRange s = (s.node < 2 ^ 32) × (s.number < 2 ^ 32)

module _ (known : KnownLaws) (now : ℕ) where
  abbrev By : ℕ → Type 0
  By moment = moment ≤ now

  lost_held : (h : Option Stored) (xs : List HeldNode) (id : ℕ) → held xs id ≡ h → All (IsNodeWell now) xs → IfThere By (option_and_then (λ stored. stored.lost) h)
  lost_held None xs id is all = tt
  lost_held (Some stored) xs id is all =
      held_all known.held_of_entry (λ (stored : Stored). IfThere By stored.lost) xs id stored (All-weaker (IsNodeWell now) _ (λ node well. well.past.lost) xs all) is

  nodes-put : (id : ℕ) (stored : Stored) (xs : List HeldNode) → IsNodeWell now (entry id stored) → All (IsNodeWell now) xs → All (IsNodeWell now) (put id stored xs)
  nodes-put id stored xs one all =
      let lower = λ (node : HeldNode). nat_lt node.id.0 id in
      let greater = λ (node : HeldNode). nat_lt id node.id.0 in
      All-append (IsNodeWell now) (filter lower xs) (entry id stored ∷ filter greater xs) (All-filter lower (IsNodeWell now) xs all)
      (All-cons (IsNodeWell now) (entry id stored) (filter greater xs) one (All-filter greater (IsNodeWell now) xs all))

  nodes-changed : (s : PlainState) (h : Option Stored) (xs : List HeldNode) → IsInRange s → held xs s.node ≡ h → All (IsNodeWell now) xs
      → All (IsNodeWell now) (entries_changed s.node (stored_renumbered s now) h xs)
  nodes-changed s None xs fits is all = all
  nodes-changed s (Some stored) xs fits is all =
      nodes-put s.node (stored_renumbered s now stored) xs (record { id = fits.0; number = fits.1; past = record { arrived = omega arith; lost = lost_held (Some stored) xs s.node is all } }) all

  nodes-after : (s : PlainState) (took : Took) (xs : List HeldNode) → IsInRange s → All (IsNodeWell now) xs → All (IsNodeWell now) (entries_after xs s now took)
  nodes-after s Kept xs fits all =
      nodes-put s.node (stored_from s now (held xs s.node)) xs
      (record { id = fits.0; number = fits.1; past = record { arrived = omega arith; lost = lost_held (held xs s.node) xs s.node refl all } }) all
  nodes-after s Renumbered xs fits all = nodes-changed s (held xs s.node) xs fits refl all
  nodes-after s _ xs fits all = all

  lost_by : (reachable : Bool) (lost : Option ℕ) → IfThere By lost → IfThere By (lost_after reachable now lost)
  lost_by true lost by = tt
  lost_by false None by = omega arith
  lost_by false (Some moment) by = by

find-none_marked : (reach : List NodeId) (now id : ℕ) (xs : List HeldNode) → find (λ node. node.id.0 == id) xs ≡ None → find (λ node. node.id.0 == id) (map (marked_node reach now) xs) ≡ None
find-none_marked reach now id [] none = refl
find-none_marked reach now id (x ∷ xs) none = by_test (x.id.0 == id) none (find-none_marked reach now id xs)
  where
    by_test : (b : Bool) → cond b (Some x) (find (λ node. node.id.0 == id) xs) ≡ None
        → (find (λ node. node.id.0 == id) xs ≡ None → find (λ node. node.id.0 == id) (map (marked_node reach now) xs) ≡ None)
        → cond b (Some (marked_node reach now x)) (find (λ node. node.id.0 == id) (map (marked_node reach now) xs)) ≡ None
    by_test true is more = absurd cc
    by_test false is more = more is

none_found : (o : Option HeldNode) → option_map (λ node. node.stored) o ≡ None → o ≡ None
none_found None is = refl
none_found (Some node) is = absurd cc

-- where no node of that identifier is found, none is held
held_nothing : (xs : List HeldNode) (id : ℕ) → find (λ node. node.id.0 == id) xs ≡ None → held xs id ≡ None
held_nothing xs id none = ap (option_map (λ (node : HeldNode). node.stored)) none

module _ (known : KnownLaws) (id : NodeId) (now : ℕ) where
  -- a node state arrived
  pub table-accepts : (own : OwnLeaf) (s : PlainState) (nodes next : Nodes) (took : Took) → own.id ≡ id → IsInRange s → IsTableWell id.0 now nodes
      → Accepts nodes own s now next took → IsTableWell id.0 now next
  table-accepts own s nodes next took same fits well accepts = record {
    table = known.accepts nodes own s now next took well.table accepts;
    own_id = well.own_id;
    other = subst (λ (i : NodeId). held next.entries i.0 ≡ held nodes.entries i.0) same (known.own nodes own s now next took accepts) ∙ well.other;
    each = subst (λ (n : Nodes). All (IsNodeWell now) n.entries) (sym accepts.after) (nodes-after known now s took nodes.entries fits well.each);
  }

  -- nodes were marked
  pub table-marked : (reach : List NodeId) (nodes : Nodes) → IsTableWell id.0 now nodes → IsTableWell id.0 now (loss_marked reach now nodes)
  table-marked reach nodes well = record {
    table = known.marks reach now nodes well.table;
    own_id = well.own_id;
    other = held_nothing (map (marked_node reach now) nodes.entries) id.0 (find-none_marked reach now id.0 nodes.entries (none_found _ well.other));
    each = All-map (IsNodeWell now) (marked_node reach now) nodes.entries
        (All-weaker (IsNodeWell now) (λ node. IsNodeWell now (marked_node reach now node))
        (λ node one. record {
          id = one.id;
          number = one.number;
          past = record { arrived = one.past.arrived; lost = lost_by known now (is_among reach node.id.0) node.stored.lost one.past.lost };
        })
        nodes.entries well.each);
  }

  -- nodes were forgotten
  pub table-remembered : (nodes : Nodes) → IsTableWell id.0 now nodes → IsTableWell id.0 now (remembered now nodes)
  table-remembered nodes well =
      let stays = λ (node : HeldNode). not (is_forgotten now node) in
      record {
        table = known.forgetting now nodes well.table;
        own_id = well.own_id;
        other = held_nothing (filter stays nodes.entries) id.0 (find-none_filter (λ (node : HeldNode). node.id.0 == id.0) stays nodes.entries (none_found _ well.other));
        each = All-filter stays (IsNodeWell now) nodes.entries well.each;
      }

-- all nodes were forgotten
pub table-emptied : NoNodesAreTable → (id now : ℕ) (nodes : Nodes) → IsTableWell id now nodes → IsTableWell id now (record nodes { entries = [] })
table-emptied none id now nodes well =
    record { table = none nodes.limit well.table.limit_is; own_id = well.own_id; other = refl; each = All-nil (IsNodeWell now) }

-- ---- assignments and backoffs

pub held-none : (now : ℕ) → AreHeldWell now no_pairs
unfolding IsStrictlySortedBy
held-none now = record {
  are = record { assigned = tt; backoffs = tt; few = omega arith; inside = All-nil IsInDelegated; priority = All-nil HasOwnPriority };
  past = All-nil (IsAssignedPast now);
}

-- ---- time passes

later_there : (moment now : ℕ) (o : Option ℕ) → moment ≤ now → IfThere (λ m. m ≤ moment) o → IfThere (λ m. m ≤ now) o
later_there moment now None rises by = tt
later_there moment now (Some m) rises by = omega arith

later_port : (moment now : ℕ) → moment ≤ now → (port : Port) → IsPortWell moment port → IsPortWell now port
later_port moment now rises port well = record {
  peers = well.peers;
  past = record {
    begun = let past = well.past.begun in omega arith;
    sent = let past = well.past.sent in omega arith;
    asked = later_there moment now port.asked rises well.past.asked;
    heard = λ k d within. let past = well.past.heard k d within in omega arith;
  };
}

later_node : (moment now : ℕ) → moment ≤ now → (node : HeldNode) → IsNodeWell moment node → IsNodeWell now node
later_node moment now rises node well = record {
  id = well.id;
  number = well.number;
  past = record { arrived = let past = well.past.arrived in omega arith; lost = later_there moment now node.stored.lost rises well.past.lost };
}

pub made-later : (now : ℕ) (s : State) → s.moment ≤ now → IsMade s → IsMade (record s { moment = now })
made-later now s rises made = record {
  ports = record { are = made.ports.are; each = All-weaker (IsPortWell s.moment) (IsPortWell now) (later_port s.moment now rises) s.ports made.ports.each };
  table = record {
    table = made.table.table;
    own_id = made.table.own_id;
    other = made.table.other;
    each = All-weaker (IsNodeWell s.moment) (IsNodeWell now) (later_node s.moment now rises) s.table.entries made.table.each;
  };
  own = record { data_is = made.own.data_is; fits = made.own.fits; past = let past = made.own.past in omega arith };
  delegated = made.delegated;
  held = record { are = made.held.are; past = All-weaker (IsAssignedPast s.moment) (IsAssignedPast now) (λ c past. omega arith) s.held.assigned made.held.past };
  posts = made.posts;
}
