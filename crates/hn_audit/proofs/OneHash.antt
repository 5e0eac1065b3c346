-- The routers of a settled home have one network state hash, and a router that is as others see it keeps its own.
use Rattle.hn_base.proofs.Names.{◌≡◌, ◌∙◌, ℕ, Bool, true, false, cond, List, [], ◌∷◌, map, Option, Some, None, Contains, inl, inr, refl, sym, ap, subst, ◌==◌, All, filter_map, cons_option, option_map}
use Rattle.hn_base.proofs.Names.{cases_eq, All-head, All-tail, All-weaker, All-contains_itself}
use Rattle.hn_audit.proofs.Names.{same_node, NodeId, Entry, PlainData, State, HashIsOfLeaves, held_entry, own_entry, entry_of, IsRouter, held, Stored, Member, Parts, IsReached, HoldsState}
use Rattle.hn_hash.specs.declared.leaf.Leaf.{Leaf}
use Rattle.hn_hash.specs.Network.{network_hash}
use Rattle.hn_rules.specs.Nodes.{leaf_of, leaves_of}
use Rattle.hn_audit.specs.Calm.{SettledHaveOneHash}
use Rattle.hn_audit.proofs.BridgeSets.{IsKnown, reach_is, member_of, one_member, router_of}
use Rattle.hn_audit.proofs.BridgeWorlds.{WorldLaws, known_of}
use Rattle.hn_audit.proofs.StayingSets.{IsSeenAsBefore}

-- ---- the leaf of an identifier

abbrev leaf_at : State → NodeId → Option Leaf
leaf_at s id = option_map leaf_of (entry_of s id)

one_leaf : (o : Option Entry) (rest : List Entry) → map leaf_of (cons_option o rest) ≡ cons_option (option_map leaf_of o) (map leaf_of rest)
one_leaf None rest = refl
one_leaf (Some n) rest = refl

leaves_are : (s : State) (ids : List NodeId) → map leaf_of (filter_map (entry_of s) ids) ≡ filter_map (leaf_at s) ids
leaves_are s [] = refl
leaves_are s (id ∷ ids) = one_leaf (entry_of s id) (filter_map (entry_of s) ids) ∙ ap (cons_option (leaf_at s id)) (leaves_are s ids)

same_leaves : (f g : NodeId → Option Leaf) (ids : List NodeId) → All (λ id. f id ≡ g id) ids → filter_map f ids ≡ filter_map g ids
same_leaves f g [] same = refl
same_leaves f g (id ∷ ids) same =
    ap (λ o. cons_option o (filter_map f ids)) (All-head (λ i. f i ≡ g i) id ids same) ∙ ap (cons_option (g id)) (same_leaves f g ids (All-tail (λ i. f i ≡ g i) id ids same))

each_leaf : (s u : State) → ((id : NodeId) → Contains s.reach id → leaf_at s id ≡ leaf_at u id) → u.reach ≡ s.reach → leaves_of s ≡ leaves_of u
each_leaf s u same reach =
    leaves_are s s.reach
    ∙ same_leaves (leaf_at s) (leaf_at u) s.reach (All-weaker (Contains s.reach) (λ id. leaf_at s id ≡ leaf_at u id) same s.reach (All-contains_itself s.reach))
    ∙ ap (filter_map (leaf_at u)) (sym reach) ∙ sym (leaves_are u u.reach)

hash_of_same : HashIsOfLeaves → (s u : State) → IsRouter s → IsRouter u → leaves_of s ≡ leaves_of u → s.net ≡ u.net
hash_of_same law s u s_is u_is same = (law s s_is).0 ∙ ap network_hash same ∙ sym (law u u_is).0

-- ---- in a settled home

module _ (w : Parts) (r : Member) (known : IsKnown w r) where
  abbrev leaf_of_member : Member → Leaf
  leaf_of_member v = record { number = v.router.number; body = v.router.own.body }

  leaf_is : (s v : Member) → IsReached w r s → IsReached w r v → leaf_at s.router v.router.id ≡ Some (leaf_of_member v)
  leaf_is s v s_in v_in = elim (cases_eq v.router.id.0 s.router.id.0) [
    | inl is ↦
        let same : s ≡ v = one_member w r known s v s_in v_in (same_node s.router.id v.router.id (sym is)) in
        ap (option_map leaf_of) (known.entries.own s.router v.router.id is) ∙ ap (λ (m : Member). Some (leaf_of_member m)) same
    | inr differs ↦
        let holds : HoldsState s.router v.router = known.settled.held s v s_in v_in (λ same. differs (ap (λ (id : NodeId). id.0) (sym same))) in
        let leaf : ℕ → List ℕ → Option Leaf = λ number body. Some (record { number = number; body = body }) in
        ap (option_map leaf_of) (known.entries.held s.router v.router.id holds.stored differs holds.is_held)
        ∙ ap (λ (n : ℕ). leaf n holds.stored.body) holds.number ∙ ap (leaf v.router.number) holds.body
  ]

  pub one_hash : HashIsOfLeaves → (s u : Member) → IsReached w r s → IsReached w r u → s.router.net ≡ u.router.net
  one_hash law s u s_in u_in =
      let same : (id : NodeId) → Contains s.router.reach id → leaf_at s.router id ≡ leaf_at u.router id = λ id there.
      let v = member_of w r known id (subst (λ (ids : List NodeId). Contains ids id) (reach_is w r known s s_in) there) in
      ap (leaf_at s.router) (sym v.2) ∙ leaf_is s v.0 s_in v.1 ∙ sym (leaf_is u v.0 u_in v.1) ∙ ap (leaf_at u.router) v.2 in
      hash_of_same law s.router u.router (router_of w r known s s_in) (router_of w r known u u_in)
      (each_leaf s.router u.router same (reach_is w r known u u_in ∙ sym (reach_is w r known s s_in)))

pub settled_have_one_hash : WorldLaws → HashIsOfLeaves → SettledHaveOneHash
settled_have_one_hash laws law w r s u replays runs settled s_in u_in = one_hash w r (known_of laws w r replays runs settled) law s u s_in u_in

-- ---- a router that is as others see it

held_leaf : (m n : ℕ) (id : NodeId) (o : Option Stored)
    → option_map leaf_of (option_map (λ (stored : Stored). held_entry m (record { id = id; stored = stored })) o)
    ≡ option_map leaf_of (option_map (λ (stored : Stored). held_entry n (record { id = id; stored = stored })) o)
held_leaf m n id None = refl
held_leaf m n id (Some stored) = refl

by_own : (b : Bool) (s u : State) (id : NodeId) (o : Option Stored) → u.number ≡ s.number → u.own ≡ s.own
    → option_map leaf_of (cond b (Some (own_entry s)) (option_map (λ (stored : Stored). held_entry s.moment (record { id = id; stored = stored })) o))
    ≡ option_map leaf_of (cond b (Some (own_entry u)) (option_map (λ (stored : Stored). held_entry u.moment (record { id = id; stored = stored })) o))
by_own true s u id o number own =
    let leaf : ℕ → PlainData → Option Leaf = λ n d. Some (record { number = n; body = d.body }) in
    sym (ap (λ (n : ℕ). leaf n u.own) number ∙ ap (leaf s.number) own)
by_own false s u id o number own = held_leaf s.moment u.moment id o

pub same_net : HashIsOfLeaves → (s n : State) → IsRouter s → IsRouter n → n.id ≡ s.id → IsSeenAsBefore s n → n.net ≡ s.net
same_net law s n s_is n_is id still =
    let same : (i : NodeId) → Contains s.reach i → leaf_at s i ≡ leaf_at n i = λ i there.
    by_own (i.0 == s.id.0) s n i (held s.table.entries i.0) still.number still.own
    ∙ ap (λ (o : Option Stored). option_map leaf_of (cond (i.0 == s.id.0) (Some (own_entry n)) (option_map (λ (stored : Stored). held_entry n.moment (record { id = i; stored = stored })) o)))
    (sym (still.known i there))
    ∙ ap (λ (k : NodeId). option_map leaf_of
    (cond (i.0 == k.0) (Some (own_entry n)) (option_map (λ (stored : Stored). held_entry n.moment (record { id = i; stored = stored })) (held n.table.entries i.0)))) (sym id) in
    sym (hash_of_same law s n s_is n_is (each_leaf s n same still.reach))
