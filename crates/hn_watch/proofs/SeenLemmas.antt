-- What is seen of the nodes: from what is remembered, and one list of it.
use Rattle.hn_base.proofs.Names.{◌≡◌, ◌∙◌, ◌<◌, ◌^◌, ℕ, List, [], ◌∷◌, ◌++◌, length, map, Option, Some, None, Contains, refl, sym, ap, subst, AllByRecursion, filter_map, option_map, nat_cmp, Less}
use Rattle.hn_base.proofs.Names.{IsOrdered, nat_cmp_total, All-head, All-tail, same_Some, map_push, node_cmp}
use Rattle.hn_watch.proofs.Names.{All, option_to_list, NodeId, Contains-head, Contains-tail, Contains-map, Contains-from_map, same_node, Shown, Seen, Claim, NodeNumber, Remembered, number_cmp, latest_of}
use Rattle.hn_watch.proofs.Names.{AreConflicts, AreSeen, Remembers, seen_of}
use Rattle.std.specs.List.Sorted.{IsStrictlySortedBy}
use Rattle.hn_base.proofs.PartsAtPlaces.{filter_map-push}
use Rattle.hn_base.proofs.AscendingLists.{ascending_unique}
use Rattle.hn_base.proofs.Elements.{all_of, in_filter_map, from_filter_map}
use Rattle.hn_watch.specs.Seen.{IsSeen}
use Rattle.hn_watch.specs.Laws.{SeenIsUnique}
use Rattle.hn_watch.proofs.Orders.{node_total, exact_node}
use Rattle.hn_watch.proofs.KeptLemmas.{kept_is, kept_some}
use Rattle.hn_watch.proofs.Conflicts.{entry_held, held_entry, are_conflicts}

-- ---- from what is remembered

abbrev pub seen_at : List (NodeNumber × Option Claim) → NodeId × Option Shown → Option Seen
seen_at places e = option_map (seen_of places) e.1

-- each place has what is kept of its own node
abbrev AreOwn : List (NodeId × Option Shown) → Type 0
AreOwn es = (node : NodeId) (one : Shown) → Contains es (node, Some one) → one.node ≡ node

module _ (places : List (NodeNumber × Option Claim)) where
  later_nodes : (node : NodeId) (es : List (NodeId × Option Shown)) → AreOwn es → AllByRecursion (λ n. node_cmp node n ≡ Less) (map (λ e. e.0) es)
      → AllByRecursion (λ n. node_cmp node n ≡ Less) (map (λ s. s.node) (filter_map (seen_at places) es))
  later_nodes node [] own up = tt
  later_nodes node ((other, None) ∷ es) own up = later_nodes node es (λ n one there. own n one (Contains-tail _ es _ there)) up.1
  later_nodes node ((other, Some one) ∷ es) own up = (
    subst (λ (n : NodeId). node_cmp node n ≡ Less) (sym (own other one (Contains-head _ es))) up.0,
    later_nodes node es (λ n k there. own n k (Contains-tail _ es _ there)) up.1,
  )

  nodes_ascend : (es : List (NodeId × Option Shown)) → AreOwn es → IsStrictlySortedBy node_cmp (map (λ e. e.0) es) → IsStrictlySortedBy node_cmp (map (λ s. s.node) (filter_map (seen_at places) es))
  unfolding IsStrictlySortedBy
  nodes_ascend [] own up = tt
  nodes_ascend ((node, None) ∷ es) own up = nodes_ascend es (λ n one there. own n one (Contains-tail _ es _ there)) up.1
  nodes_ascend ((node, Some one) ∷ es) own up = (
    subst (λ (n : NodeId). AllByRecursion (λ m. node_cmp n m ≡ Less) (map (λ s. s.node) (filter_map (seen_at places) es))) (sym (own node one (Contains-head _ es)))
        (later_nodes node es (λ n k there. own n k (Contains-tail _ es _ there)) up.0),
    nodes_ascend es (λ n k there. own n k (Contains-tail _ es _ there)) up.1,
  )

module _ (shown : List Shown) (fits : All (λ s. s.number < 2 ^ 32) shown) (r : Remembered) (held : Remembers shown r) (kept_up : IsOrdered node_cmp r.kept) where
  abbrev entries : List (NodeId × Option Shown)
  entries = r.kept.entries

  abbrev all_seen : List Seen
  all_seen = filter_map (seen_at r.claims.entries) entries

  entry_kept : (node : NodeId) (one : Shown) → Contains entries (node, Some one) → latest_of node shown ≡ Some one
  entry_kept node one there = sym (held.latest node) ∙ entry_held node_cmp node_total exact_node entries kept_up node one there

  own : AreOwn entries
  own node one there = same_node one.node node (kept_is node shown one (entry_kept node one there)).0

  -- what is seen, with its place
  place_of : (seen : Seen) → Contains all_seen seen → (one : Shown) × Contains entries (one.node, Some one) × (seen ≡ seen_of r.claims.entries one)
  place_of seen there =
      let found = from_filter_map (seen_at r.claims.entries) entries seen there in
      told found.0.0 found.0.1 found.1 found.2
    where
      told : (node : NodeId) (o : Option Shown) → Contains entries (node, o) → option_map (seen_of r.claims.entries) o ≡ Some seen → (one : Shown)
          × Contains entries (one.node, Some one) × (seen ≡ seen_of r.claims.entries one)
      told node None at is = absurd cc
      told node (Some one) at is =
          (one, subst (λ (n : NodeId). Contains entries (n, Some one)) (sym (own node one at)) at, sym (same_Some (seen_of r.claims.entries one) seen is))

  one_seen : ((seen : Seen) → Contains all_seen seen → IsOrdered number_cmp r.claims) → (seen : Seen) → Contains all_seen seen → IsSeen shown seen
  one_seen claims_up seen there =
      let place = place_of seen there in
      subst (IsSeen shown) (sym place.2) (record {
        latest = entry_kept place.0.node place.0 place.1;
        conflicts = are_conflicts shown fits r.claims.entries (claims_up seen there) held.claims place.0.node;
      })

  abbrev node_of : Seen → NodeId
  node_of s = s.node

  abbrev shown_node : Shown → NodeId
  shown_node s = s.node

  seen_is_shown : (node : NodeId) → Contains (map node_of all_seen) node → Contains (map shown_node shown) node
  seen_is_shown node there =
      let seen = Contains-from_map node_of all_seen node there in
      let place = place_of seen.0 seen.1 in
      let is : place.0.node ≡ node = sym (ap node_of place.2) ∙ seen.2 in
      subst (Contains (map shown_node shown)) is (Contains-map shown_node shown place.0 (kept_is place.0.node shown place.0 (entry_kept place.0.node place.0 place.1)).1)

  shown_is_seen : (node : NodeId) → Contains (map shown_node shown) node → Contains (map node_of all_seen) node
  shown_is_seen node there =
      let one = Contains-from_map shown_node shown node there in
      let some = kept_some node shown one.0 one.1 one.2 in
      let place : Contains entries (node, Some some.0) = held_entry node_cmp node_total exact_node entries kept_up node some.0 (held.latest node ∙ some.1) in
      let seen : Contains all_seen (seen_of r.claims.entries some.0) = in_filter_map (seen_at r.claims.entries) entries (node, Some some.0) (seen_of r.claims.entries some.0) place refl in
      subst (Contains (map node_of all_seen)) (own node some.0 place) (Contains-map node_of all_seen (seen_of r.claims.entries some.0) seen)

  -- where something is seen, the claims are known to be in order
  pub are_seen : ((seen : Seen) → Contains all_seen seen → IsOrdered number_cmp r.claims) → AreSeen shown all_seen
  are_seen claims_up = record {
    ascending = nodes_ascend r.claims.entries entries own kept_up;
    nodes = λ node. (seen_is_shown node, shown_is_seen node);
    each = all_of (IsSeen shown) all_seen (one_seen claims_up);
  }

-- what is seen of one more place
pub seen_next : {A : Type 0} (places : List (NodeNumber × Option Claim)) (shows : A → NodeId × Option Shown) (xs : List A) (x : A) (seen : List Seen) (more : Option Seen)
    → seen ≡ filter_map (seen_at places) (map shows xs) → seen_at places (shows x) ≡ more → seen ++ option_to_list more ≡ filter_map (seen_at places) (map shows (xs ++ x ∷ []))
seen_next places shows xs x seen more so_far is =
    ap (λ (ys : List Seen). ys ++ option_to_list more) so_far ∙ ap (λ (o : Option Seen). filter_map (seen_at places) (map shows xs) ++ option_to_list o) (sym is)
    ∙ sym (ap (filter_map (seen_at places)) (map_push shows xs x) ∙ filter_map-push (seen_at places) (map shows xs) (shows x))

-- ---- one list

same_conflicts : (shown : List Shown) (node : NodeId) (a b : ℕ) → AreConflicts shown node a → AreConflicts shown node b → a ≡ b
same_conflicts shown node a b p q =
    let numbers : p.numbers ≡ q.numbers = ascending_unique nat_cmp nat_cmp_total p.numbers q.numbers p.ascending q.ascending
    (λ n. (λ there. (q.exactly n).1 ((p.exactly n).0 there), λ there. (p.exactly n).1 ((q.exactly n).0 there))) in
    p.as_many ∙ ap length numbers ∙ sym q.as_many

same_seen : (shown : List Shown) (a b : Seen) → a.node ≡ b.node → IsSeen shown a → IsSeen shown b → a ≡ b
same_seen shown a b node p q =
    let latest : Some (record { node = a.node; number = a.number; hash = a.hash }) ≡ Some (record { node = b.node; number = b.number; hash = b.hash }) =
    sym p.latest ∙ ap (λ n. latest_of n shown) node ∙ q.latest in
    let same : ◌≡◌ {A = Shown} (record { node = a.node; number = a.number; hash = a.hash }) (record { node = b.node; number = b.number; hash = b.hash }) = same_Some _ _ latest in
    let count : a.conflicts ≡ b.conflicts = same_conflicts shown b.node a.conflicts b.conflicts (subst (λ (n : NodeId). AreConflicts shown n a.conflicts) node p.conflicts) q.conflicts in
    λ i. record { node = (same i).node; number = (same i).number; hash = (same i).hash; conflicts = count i }

same_lists : (shown : List Shown) (a b : List Seen) → map (λ s. s.node) a ≡ map (λ s. s.node) b → All (IsSeen shown) a → All (IsSeen shown) b → a ≡ b
same_lists shown [] [] e p q = refl
same_lists shown [] (y ∷ ys) e p q = absurd cc
same_lists shown (x ∷ xs) [] e p q = absurd cc
same_lists shown (x ∷ xs) (y ∷ ys) e p q =
    let heads : x.node ≡ y.node = cc in
    let tails : map (λ s. s.node) xs ≡ map (λ s. s.node) ys = cc in
    let first = same_seen shown x y heads (All-head (IsSeen shown) x xs p) (All-head (IsSeen shown) y ys q) in
    let rest = same_lists shown xs ys tails (All-tail (IsSeen shown) x xs p) (All-tail (IsSeen shown) y ys q) in
    cc (first, rest)

pub seen_unique : SeenIsUnique
seen_unique shown a b p q =
    let nodes : map (λ s. s.node) a ≡ map (λ s. s.node) b =
    ascending_unique node_cmp node_total (map (λ s. s.node) a) (map (λ s. s.node) b) p.ascending q.ascending
    (λ n. (λ there. (q.nodes n).1 ((p.nodes n).0 there), λ there. (p.nodes n).1 ((q.nodes n).0 there))) in
    same_lists shown a b nodes p.each q.each
