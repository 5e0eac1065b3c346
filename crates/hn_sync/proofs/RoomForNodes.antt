-- The router that asks has room for the nodes that the other one reaches.
use Rattle.hn_base.proofs.Names.{◌≡◌, ◌≢◌, ◌∙◌, ◌⊎◌, ◌≤◌, ◌+◌, ℕ, Bool, true, false, not, cond, List, [], ◌∷◌, ◌++◌, length, map, filter, Contains, Option, Some, None, sym, ap, subst, refl, inl, inr}
use Rattle.hn_base.proofs.Names.{arith, length-append, option_map, nat_cmp, eq-eqb, ne_eqb, nat_cmp_total, length-map, Contains-append_left, Contains-append_right}
use Rattle.hn_sync.proofs.Names.{◌==◌, ◌&&◌, is_none, nothing_in, Contains-cases, Contains-map, Contains-from_map, in_filter, passing_found, NodeId, Entry, State, HeldIsOfAnEntry, held, IsTable}
use Rattle.hn_sync.proofs.Names.{HeldNode, Stored, is_news, HasRoomFor}
use Rattle.hn_base.proofs.AscendingLists.{exact_nat}
use Rattle.hn_base.proofs.Pigeonhole.{no_longer}
use Rattle.hn_store.specs.Nodes.{ids_of_held}
use Rattle.hn_sync.proofs.Holding.{AsBefore, NoneHeld, SomeHeld}

no_more : (p q : NodeId → Bool) (xs : List NodeId) → length (filter (λ y. p y && q y) xs) ≤ length (filter p xs)
no_more p q [] = omega arith
no_more p q (z ∷ zs) = by_test (p z) (q z) (no_more p q zs)
  where
    by_test : (a b : Bool) → length (filter (λ y. p y && q y) zs) ≤ length (filter p zs)
        → length (cond (a && b) (z ∷ filter (λ y. p y && q y) zs) (filter (λ y. p y && q y) zs)) ≤ length (cond a (z ∷ filter p zs) (filter p zs))
    by_test true true rest = omega arith
    by_test true false rest = omega arith
    by_test false b rest = rest

fewer : (p q : NodeId → Bool) (xs : List NodeId) (x : NodeId) → Contains xs x → p x ≡ true → q x ≡ false → length (filter (λ y. p y && q y) xs) + 1 ≤ length (filter p xs)
fewer p q [] x there is none = absurd (nothing_in x there)
fewer p q (y ∷ ys) x there is none = elim (Contains-cases y ys x there) [
  | inl here ↦ first (p y) (q y) (ap p here ∙ is) (ap q here ∙ none) (no_more p q ys)
  | inr later ↦ next (p y) (q y) (fewer p q ys x later is none)
]
  where
    first : (a b : Bool) → a ≡ true → b ≡ false → length (filter (λ z. p z && q z) ys) ≤ length (filter p ys)
        → length (cond (a && b) (y ∷ filter (λ z. p z && q z) ys) (filter (λ z. p z && q z) ys)) + 1 ≤ length (cond a (y ∷ filter p ys) (filter p ys))
    first true false pa qb more = omega arith
    first true true pa qb more = absurd (cc)
    first false b pa qb more = absurd (cc)

    next : (a b : Bool) → length (filter (λ z. p z && q z) ys) + 1 ≤ length (filter p ys)
        → length (cond (a && b) (y ∷ filter (λ z. p z && q z) ys) (filter (λ z. p z && q z) ys)) + 1 ≤ length (cond a (y ∷ filter p ys) (filter p ys))
    next true true more = omega arith
    next true false more = omega arith
    next false b more = more

pub both_true : (a b : Bool) → a ≡ true → b ≡ true → (a && b) ≡ true
both_true true b h k = k
both_true false b h k = absurd (cc)

module _ (of_entry : HeldIsOfAnEntry) (before : State) (reach : List NodeId) where
  -- what is held was held before, or is of a node that is reached and was not held
  abbrev pub AreOfBoth : State → Type 0
  AreOfBoth s =
      (id : ℕ) (stored : Stored) → held s.table.entries id ≡ Some stored
      → ((old : Stored) × (held before.table.entries id ≡ Some old)) ⊎ ((x : NodeId) × Contains reach x × (x.0 ≡ id) × (is_news before x ≡ true))

  some_held : (entries : List HeldNode) (id : ℕ) → Contains (ids_of_held entries) id → (stored : Stored) × (held entries id ≡ Some stored)
  some_held entries id there =
      let node = Contains-from_map (λ (n : HeldNode). n.id.0) entries id there in
      let found = passing_found (λ (n : HeldNode). n.id.0 == id) entries node.0 node.1 (eq-eqb node.0.id.0 id node.2) in
      (found.0.stored, ap (option_map (λ (n : HeldNode). n.stored)) found.1)

  id_held : (entries : List HeldNode) (id : ℕ) (stored : Stored) → held entries id ≡ Some stored → Contains (ids_of_held entries) id
  id_held entries id stored is =
      let node = of_entry entries id stored is in
      subst (Contains (ids_of_held entries)) node.2 (Contains-map (λ (n : HeldNode). n.id.0) entries node.0 node.1)

  -- where a node that is reached is not held, there is room for it
  has_room : (s : State) (x : NodeId) → IsTable s.table → s.table.limit ≡ before.table.limit → HasRoomFor before reach → AreOfBoth s → Contains reach x → is_news before x ≡ true
      → held s.table.entries x.0 ≡ None → length s.table.entries ≢ s.table.limit
  has_room s x table limit room both there news none full =
      let longest = no_longer nat_cmp nat_cmp_total exact_nat (ids_of_held s.table.entries) whole table.ascending each in
      let first : length (ids_of_held s.table.entries) ≡ length s.table.entries = length-map s.table.entries (λ (n : HeldNode). n.id.0) in
      let second : length whole ≡ length before.table.entries + length (filter (λ (y : NodeId). is_news before y && not (y.0 == x.0)) reach)
      = length-append (ids_of_held before.table.entries) _ ∙ (λ i.
      length-map before.table.entries (λ (n : HeldNode). n.id.0) i + length-map (filter (λ (y : NodeId). is_news before y && not (y.0 == x.0)) reach) (λ (y : NodeId). y.0) i) in
      let less = fewer (is_news before) (λ (y : NodeId). not (y.0 == x.0)) reach x there news (ap not (eq-eqb x.0 x.0 refl)) in
      omega (arith, longest, first, second, less, room, limit, full)
    where
      whole : List ℕ
      whole = ids_of_held before.table.entries ++ map (λ (y : NodeId). y.0) (filter (λ (y : NodeId). is_news before y && not (y.0 == x.0)) reach)

      not_x : (id : ℕ) (stored : Stored) → held s.table.entries id ≡ Some stored → id ≢ x.0
      not_x id stored is same = let clash : None ≡ Some stored = sym none ∙ (ap (held s.table.entries) (sym same) ∙ is) in absurd (cc)

      by_both : (id : ℕ) (stored : Stored) → held s.table.entries id ≡ Some stored
          → ((old : Stored) × (held before.table.entries id ≡ Some old)) ⊎ ((y : NodeId) × Contains reach y × (y.0 ≡ id) × (is_news before y ≡ true)) → Contains whole id
      by_both id stored is (inl old) = Contains-append_left (ids_of_held before.table.entries) _ id (id_held before.table.entries id old.0 old.1)
      by_both id stored is (inr new) =
          let apart : (new.0.0 == x.0) ≡ false = ne_eqb new.0.0 x.0 (λ same. not_x id stored is (sym new.2 ∙ same)) in
          let passes = both_true (is_news before new.0) (not (new.0.0 == x.0)) new.3 (ap not apart) in
          let kept = in_filter (λ (y : NodeId). is_news before y && not (y.0 == x.0)) reach new.0 new.1 passes in
          Contains-append_right (ids_of_held before.table.entries) (map (λ (y : NodeId). y.0) (filter (λ (y : NodeId). is_news before y && not (y.0 == x.0)) reach)) id
          (subst (Contains (map (λ (y : NodeId). y.0) (filter (λ (y : NodeId). is_news before y && not (y.0 == x.0)) reach))) new.2
          (Contains-map (λ (y : NodeId). y.0) (filter (λ (y : NodeId). is_news before y && not (y.0 == x.0)) reach) new.0 kept))

      each : (id : ℕ) → Contains (ids_of_held s.table.entries) id → Contains whole id
      each id in_ids = let some = some_held s.table.entries id in_ids in by_both id some.0 some.1 (both id some.0 some.1)

  -- so it is for a node of which nothing changed
  pub room_here : (s : State) (n : Entry) → IsTable s.table → s.table.limit ≡ before.table.limit → HasRoomFor before reach → AreOfBoth s → Contains reach n.id → n.id.0 ≢ before.id.0
      → AsBefore before s n → (held s.table.entries n.id.0 ≡ None) → length s.table.entries ≢ s.table.limit
  room_here s n table limit room both there other (NoneHeld was is) none =
      has_room s n.id table limit room both there (both_true (not (n.id.0 == before.id.0)) (is_none (held before.table.entries n.id.0))
      (ap not (ne_eqb n.id.0 before.id.0 other)) (ap (λ (o : Option Stored). is_none o) was)) none
  room_here s n table limit room both there other (SomeHeld stored was lost is) none = absurd (let clash : None ≡ Some (record stored { lost = lost }) = sym none ∙ is in cc)
