-- The nodes that a router knows, in order.
use Rattle.hn_base.proofs.Names.{◌≡◌, ◌∙◌, ◌≤◌, ℕ, Bool, true, false, cond, List, [], ◌∷◌, ◌++◌, length, map, filter, take, Option, Some, None, Result, Ok, Err, nat_lt, refl, sym, ap, subst, arith}
use Rattle.hn_base.proofs.Names.{IfOk, filter_map, cons_option, option_map, nat_cmp, IsStrictlySortedBy, map-append, take_all, Contains-append_right, node_cmp}
use Rattle.hn_rules.proofs.Names.{Contains, ◌↔◌, NodeId, NoMemory, IsReachable, ids_of, IsNetwork, Entry, Stored, HeldNode, ascending-around, State, held_entry, own_entry, held_entries, nodes_of}
use Rattle.hn_rules.proofs.Names.{IsReach}
use Rattle.hn_store.specs.Nodes as table

-- ---- the nodes are in ascending order

-- the own node, as a table would hold it
own_stored : State → Stored
own_stored s = record { number = s.number; hash = s.own.hash; age = 0; at = 0; body = s.own.body; lost = None }

ids_of_held : (now : ℕ) (p : ℕ → Bool) (held : List HeldNode) → ids_of (filter (λ n. p n.id.0) (map (held_entry now) held)) ≡ table.ids_of_held (filter (λ n. p n.id.0) held)
ids_of_held now p [] = refl
ids_of_held now p (x ∷ xs) =
    elim (p x.id.0) as (λ b. ids_of (cond b (held_entry now x ∷ filter (λ n. p n.id.0) (map (held_entry now) xs)) (filter (λ n. p n.id.0) (map (held_entry now) xs))) ≡ table.ids_of_held
    (cond b (x ∷ filter (λ n. p n.id.0) xs) (filter (λ n. p n.id.0) xs))) [
      | true ↦ ap (λ ids. x.id.0 ∷ ids) (ids_of_held now p xs)
      | false ↦ ids_of_held now p xs
    ]

ids_of_nodes : (s : State) → ids_of (nodes_of s) ≡ table.ids_of_held (table.put s.id.0 (own_stored s) s.table.entries)
ids_of_nodes s =
    let below = filter (λ (n : HeldNode). nat_lt n.id.0 s.id.0) s.table.entries in
    let above = filter (λ (n : HeldNode). nat_lt s.id.0 n.id.0) s.table.entries in
    map-append (λ (n : Entry). n.id.0) (filter (λ n. nat_lt n.id.0 s.id.0) (held_entries s)) (own_entry s ∷ filter (λ n. nat_lt s.id.0 n.id.0) (held_entries s))
    ∙ rw (ids_of_held s.moment (λ id. nat_lt id s.id.0) s.table.entries, ids_of_held s.moment (λ id. nat_lt s.id.0 id) s.table.entries) refl
    ∙ sym (map-append (λ (n : HeldNode). n.id.0) below (table.entry s.id.0 (own_stored s) ∷ above))

pub nodes_are_network : (s : State) (nodes : List Entry) → table.IsTable s.table → nodes ≡ nodes_of s → IsNetwork s.id.0 nodes
nodes_are_network s nodes is_table are =
    let all : IsNetwork s.id.0 (nodes_of s) = record {
      ascending = subst (IsStrictlySortedBy nat_cmp) (sym (ids_of_nodes s)) (ascending-around (λ (node : HeldNode). node.id.0) (table.entry s.id.0 (own_stored s)) s.table.entries is_table.ascending);
      own_is_there =
          let lower = filter (λ (n : Entry). nat_lt n.id.0 s.id.0) (held_entries s) in
          let greater = filter (λ (n : Entry). nat_lt s.id.0 n.id.0) (held_entries s) in
          let there : Contains (ids_of lower ++ s.id.0 ∷ ids_of greater) s.id.0 = Contains-append_right (ids_of lower) (s.id.0 ∷ ids_of greater) s.id.0 (0, omega arith, refl) in
          subst (λ (ids : List ℕ). Contains ids s.id.0) (sym (map-append (λ (n : Entry). n.id.0) lower (own_entry s ∷ greater))) there;
    } in
    subst (IsNetwork s.id.0) (sym are) all

-- ---- reachability

pub reach_of : (s : State) (nodes : List Entry) (reached : Result (List NodeId) NoMemory) → nodes ≡ nodes_of s → IfOk reached (IsStrictlySortedBy node_cmp)
    → IfOk reached (λ ids. (y : NodeId) → Contains ids y ↔ IsReachable s.id.0 nodes y.0) → IfOk reached (IsReach s)
reach_of s nodes (Err e) are ascending exact = tt
reach_of s nodes (Ok ids) are ascending exact = record {
  ascending = ascending;
  exactly = subst (λ (ns : List Entry). (y : NodeId) → Contains ids y ↔ IsReachable s.id.0 ns y.0) are exact;
}

-- ---- what each element gives, changed

mapped_head : {X Y Z : Type 0} (f : Y → Z) (g : X → Option Y) (xs : List X) (o : Option Y) → filter_map (λ x. option_map f (g x)) xs ≡ map f (filter_map g xs)
    → cons_option (option_map f o) (filter_map (λ x. option_map f (g x)) xs) ≡ map f (cons_option o (filter_map g xs))
mapped_head f g xs None rest = rest
mapped_head f g xs (Some y) rest = ap (λ zs. f y ∷ zs) rest

pub mapped_each : {X Y Z : Type 0} (f : Y → Z) (g : X → Option Y) (xs : List X) → filter_map (λ x. option_map f (g x)) xs ≡ map f (filter_map g xs)
mapped_each f g [] = refl
mapped_each f g (x ∷ xs) = mapped_head f g xs (g x) (mapped_each f g xs)

-- so it is at the end of a loop over the whole list
pub mapped_whole : {X Y Z : Type 0} (f : Y → Z) (g : X → Option Y) (items xs : List X) (i : ℕ) (zs : List Z) → length items ≤ i → items ≡ xs
    → zs ≡ filter_map (λ x. option_map f (g x)) (take i items) → zs ≡ map f (filter_map g xs)
mapped_whole f g items xs i zs over all so_far =
    so_far ∙ ap (filter_map (λ x. option_map f (g x))) (take_all i items over ∙ all) ∙ mapped_each f g xs
