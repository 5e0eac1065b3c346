-- The nodes that a router sees are a network with its own node.
use Rattle.hn_base.proofs.Names.{◌≡◌, ℕ, List, [], ◌∷◌, map, Option, Some, None, refl, sym, subst, Less, nat_cmp, AllByRecursion, filter_map, cons_option}
use Rattle.hn_rules.proofs.Names.{Contains, NodeId, Contains-map, sorted_parts, ids_of, Entry, State, ViewIsNetwork, own_entry, entry_of, view_of, in_filter_map}
use Rattle.std.specs.List.Sorted.{IsStrictlySortedBy}
use Rattle.hn_graph.specs.Laws.{OwnIsReachable}
use Rattle.hn_rules.specs.Router.{WasReach}
use Rattle.hn_rules.proofs.NodeLists.{nodes_are_network}
use Rattle.hn_rules.proofs.Entries.{entry_own, entry_named}

-- ---- what is there of some identifiers, in their order

abbrev numbers : List NodeId → List ℕ
numbers ids = map (λ id. id.0) ids

module _ (f : NodeId → Option Entry) (named : (id : NodeId) (n : Entry) → f id ≡ Some n → n.id ≡ id) where
  all_there : (P : ℕ → Type 0) (ids : List NodeId) → AllByRecursion P (numbers ids) → AllByRecursion P (ids_of (filter_map f ids))
  all_there P [] all = tt
  all_there P (id ∷ ids) all = by_entry (f id) (named id) (all_there P ids all.1)
    where
      by_entry : (o : Option Entry) → ((n : Entry) → o ≡ Some n → n.id ≡ id) → AllByRecursion P (ids_of (filter_map f ids)) → AllByRecursion P (ids_of (cons_option o (filter_map f ids)))
      by_entry None is more = more
      by_entry (Some n) is more = (subst (λ (i : NodeId). P i.0) (sym (is n refl)) all.0, more)

  ascending_there : (ids : List NodeId) → IsStrictlySortedBy nat_cmp (numbers ids) → IsStrictlySortedBy nat_cmp (ids_of (filter_map f ids))
  unfolding IsStrictlySortedBy
  ascending_there [] up = tt
  ascending_there (id ∷ ids) up = by_entry (f id) (named id) (ascending_there ids up.1)
    where
      by_entry : (o : Option Entry) → ((n : Entry) → o ≡ Some n → n.id ≡ id) → IsStrictlySortedBy nat_cmp (ids_of (filter_map f ids))
          → IsStrictlySortedBy nat_cmp (ids_of (cons_option o (filter_map f ids)))
      by_entry None is more = more
      by_entry (Some n) is more = (
        subst (λ (i : NodeId). AllByRecursion (λ k. nat_cmp i.0 k ≡ Less) (ids_of (filter_map f ids))) (sym (is n refl))
            (all_there (λ k. nat_cmp id.0 k ≡ Less) ids up.0),
        more,
      )

-- ---- what a router sees

pub view_network : OwnIsReachable → ViewIsNetwork
view_network own_reachable s router =
    let was : WasReach s = router.refreshed.reached in
    let then : State = record s { moment = was.moment } in
    let network = nodes_are_network then _ router.well.table refl in
    let own_there : Contains s.reach s.id = (was.was.exactly s.id).1 (own_reachable s.id.0 _ network) in
    record {
      ascending = ascending_there (entry_of s) (entry_named s) s.reach ((sorted_parts (λ (id : NodeId). id.0) nat_cmp s.reach).0 was.was.ascending);
      own_is_there = Contains-map (λ (n : Entry). n.id.0) (view_of s) (own_entry s) (in_filter_map (entry_of s) s.reach s.id (own_entry s) own_there (entry_own s s.id refl));
    }
