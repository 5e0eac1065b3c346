-- Where nothing was touched and no age is due, a refresh changes nothing.
use Rattle.hn_base.proofs.Names.{◌≡◌, ◌<◌, ◌≤◌, ◌-◌, ◌^◌, ◌∙◌, ℕ, Bool, true, false, List, [], ◌∷◌, map, filter, nat_lt, Option, Some, None, inl, inr, refl, sym, ap, subst, arith, All, is_none}
use Rattle.hn_base.proofs.Names.{All-head, All-tail, All-contains, Contains-append_left, Contains-append_right, Contains-append_cases}
use Rattle.hn_rules.proofs.Names.{Contains, ◌⊎◌, NodeId, Contains-head, Contains-tail, Contains-cases, Contains-map, Contains-from_map, in_filter, from_filter, Entry, IsReachable, IsLike, KeepsReach}
use Rattle.hn_rules.proofs.Names.{ReachabilityStays, is_among, lost_after, marked_node, HeldNode, State, Running, age_at, held_entry, own_entry, IsReach, IsReaching, IsRefresh, IsRefreshed, IsJustRefreshed}
use Rattle.hn_rules.proofs.Forgetting.{between, among_reach, IsMarked}
use Rattle.hn_base.proofs.DecidingTests.{from_is_none}

-- ---- moments of loss

lost_same : (reachable : Bool) (now : ℕ) (lost : Option ℕ) → reachable ≡ is_none lost → lost_after reachable now lost ≡ lost
lost_same true now None is = refl
lost_same true now (Some moment) is = absurd cc
lost_same false now None is = absurd cc
lost_same false now (Some moment) is = refl

-- where each node is marked, a mark changes nothing
pub marks_same : (reach : List NodeId) (now : ℕ) (nodes : List HeldNode) → All (IsMarked reach) nodes → map (marked_node reach now) nodes ≡ nodes
marks_same reach now [] marked = refl
marks_same reach now (node ∷ nodes) marked =
    let one : marked_node reach now node ≡ node =
    ap (λ (lost : Option ℕ). record node { stored = record node.stored { lost = lost } }) (lost_same (is_among reach node.id.0) now node.stored.lost (All-head (IsMarked reach) node nodes marked)) in
    let more = marks_same reach now nodes (All-tail (IsMarked reach) node nodes marked) in
    cc

-- ---- the same nodes are reachable

-- no path ends at a node that has no moment of loss
abbrev pub LeadsOn : ℕ → HeldNode → Type 0
LeadsOn now node = node.stored.lost ≡ None → age_at now node.stored < 2 ^ 32 - 2 ^ 15

module _ (s : State) where
  abbrev pub lower : Entry → Bool
  lower n = nat_lt n.id.0 s.id.0

  abbrev pub greater : Entry → Bool
  greater n = nat_lt s.id.0 n.id.0

  abbrev pub own_at : ℕ → Entry
  own_at moment = own_entry (record s { moment = moment })

  abbrev pub held_at : ℕ → List Entry
  held_at moment = map (held_entry moment) s.table.entries

  abbrev pub nodes_at : ℕ → List Entry
  nodes_at moment = between lower greater (own_at moment) (held_at moment)

  -- what a held node is at one moment and at another
  abbrev pub IsHeld : ℕ → ℕ → Entry → Type 0
  IsHeld m n x = (node : HeldNode) × Contains s.table.entries node × (held_entry m node ≡ x) × Contains (nodes_at n) (held_entry n node)

  pub own_there : (moment : ℕ) → Contains (nodes_at moment) (own_at moment)
  own_there moment = Contains-append_right (filter lower (held_at moment)) (own_at moment ∷ filter greater (held_at moment)) (own_at moment)
      (Contains-head (own_at moment) (filter greater (held_at moment)))

  -- a node at one moment is the own one or a held one, which is there at the other moment
  pub own_or_held : (m n : ℕ) (x : Entry) → Contains (nodes_at m) x → (x ≡ own_at m) ⊎ IsHeld m n x
  own_or_held m n x there = by_part (Contains-append_cases (filter lower (held_at m)) (own_at m ∷ filter greater (held_at m)) x there)
    where
      held : (p : Entry → Bool) → ((node : HeldNode) → p (held_entry m node) ≡ true → p (held_entry n node) ≡ true) → ((y : Entry) → Contains (filter p (held_at n)) y → Contains (nodes_at n) y)
          → Contains (filter p (held_at m)) x → IsHeld m n x
      held p alike goes old =
          let from = Contains-from_map (held_entry m) s.table.entries x (from_filter p (held_at m) x old).0 in
          let passes : p (held_entry m from.0) ≡ true = subst (λ (y : Entry). p y ≡ true) (sym from.2) (from_filter p (held_at m) x old).1 in
          let other = in_filter p (held_at n) (held_entry n from.0) (Contains-map (held_entry n) s.table.entries from.0 from.1) (alike from.0 passes) in
          (from.0, from.1, from.2, goes (held_entry n from.0) other)

      above : (own_at m ≡ x) ⊎ Contains (filter greater (held_at m)) x → (x ≡ own_at m) ⊎ IsHeld m n x
      above (inl is) = inl (sym is)
      above (inr old) =
          inr (held greater (λ node passes. passes)
          (λ y there. Contains-append_right (filter lower (held_at n)) (own_at n ∷ filter greater (held_at n)) y (Contains-tail (own_at n) (filter greater (held_at n)) y there)) old)

      by_part : Contains (filter lower (held_at m)) x ⊎ Contains (own_at m ∷ filter greater (held_at m)) x → (x ≡ own_at m) ⊎ IsHeld m n x
      by_part (inl old) = inr (held lower (λ node passes. passes) (λ y there. Contains-append_left (filter lower (held_at n)) (own_at n ∷ filter greater (held_at n)) y there) old)
      by_part (inr rest) = above (Contains-cases (own_at m) (filter greater (held_at m)) x rest)

  -- later the same nodes are reachable, where paths lead on from the own node and from those that were reachable
  module _ (m n : ℕ) (goes : m ≤ n) (is_reach : IsReach (record s { moment = m }) s.reach) (own_like : IsLike (own_at m) (own_at n))
      (held_like : (node : HeldNode) → Contains s.table.entries node → Contains s.reach node.id → IsLike (held_entry m node) (held_entry n node)) where
    keeps : KeepsReach s.id.0 (nodes_at m) (nodes_at n)
    keeps = record {
      kept = λ x there reachable. still x reachable (own_or_held m n x there);
      known = λ y there. was y (own_or_held n m y there);
    }
      where
        still : (x : Entry) → IsReachable s.id.0 (nodes_at m) x.id.0 → (x ≡ own_at m) ⊎ IsHeld m n x → (y : Entry) × Contains (nodes_at n) y × IsLike x y
        still x reachable (inl is) = (own_at n, own_there n, subst (λ (z : Entry). IsLike z (own_at n)) (sym is) own_like)
        still x reachable (inr (node, there, is, other)) =
            let reached : IsReachable s.id.0 (nodes_at m) node.id.0 = subst (λ (z : Entry). IsReachable s.id.0 (nodes_at m) z.id.0) (sym is) reachable in
            (held_entry n node, other, subst (λ (z : Entry). IsLike z (held_entry n node)) is (held_like node there ((is_reach.exactly node.id).1 reached)))

        was : (y : Entry) → (y ≡ own_at n) ⊎ IsHeld n m y → (x : Entry) × Contains (nodes_at m) x × IsLike y x
        was y (inl is) =
            let like : IsLike (own_at n) (own_at m) = record { id = refl; body = refl; recent = λ recent. omega (arith, recent, goes) } in
            (own_at m, own_there m, subst (λ (z : Entry). IsLike z (own_at m)) (sym is) like)
        was y (inr (node, there, is, other)) =
            let like : IsLike (held_entry n node) (held_entry m node) = record { id = refl; body = refl; recent = λ recent. omega (arith, recent, goes) } in
            (held_entry m node, other, subst (λ (z : Entry). IsLike z (held_entry m node)) is like)

    pub reach_later : ReachabilityStays → IsReach (record s { moment = n }) s.reach
    reach_later stays = record {
      ascending = is_reach.ascending;
      exactly = λ id.
          let same = stays s.id.0 (nodes_at m) (nodes_at n) keeps id.0 in
          let there = is_reach.exactly id in
          (λ old. same.0 (there.0 old), λ reachable. there.1 (same.1 reachable));
    }

  -- so it is where no age is due
  pub same_reach : (moment : ℕ) → moment ≤ s.moment → IsReach (record s { moment = moment }) s.reach → All (IsMarked s.reach) s.table.entries
      → s.moment - s.own.born < 2 ^ 32 - 2 ^ 16 → All (LeadsOn s.moment) s.table.entries → ReachabilityStays → IsReach s s.reach
  same_reach moment past is_reach marked young leads =
      reach_later moment s.moment past is_reach (record { id = refl; body = refl; recent = λ _. omega (arith, young) }) held_like
    where
      held_like : (node : HeldNode) → Contains s.table.entries node → Contains s.reach node.id → IsLike (held_entry moment node) (held_entry s.moment node)
      held_like node there reached =
          let among : is_among s.reach node.id.0 ≡ true = among_reach s.reach node.id node.id.0 reached refl in
          let mark = All-contains (IsMarked s.reach) s.table.entries node marked there in
          let leading = All-contains (LeadsOn s.moment) s.table.entries node leads there (from_is_none node.stored.lost (sym mark ∙ among)) in
          record { id = refl; body = refl; recent = λ _. leading }

-- where no age is due, what a refresh made is so now
pub undue_refreshed : ReachabilityStays → (s : State) → IsRefreshed s → s.moment - s.own.born < 2 ^ 32 - 2 ^ 16 → All (LeadsOn s.moment) s.table.entries → IsJustRefreshed s
undue_refreshed reach_stays s is young leads =
    record { refreshed = is; reached = same_reach s is.reached.moment is.reached.past is.reached.was is.lost young leads reach_stays; young = young }

-- so it is at a moment that is the router's
pub leads_on_now : ReachabilityStays → (now : ℕ) (s : State) → now ≡ s.moment → IsRefreshed s → now - s.own.born < 2 ^ 32 - 2 ^ 16 → All (LeadsOn now) s.table.entries → IsJustRefreshed s
leads_on_now reach_stays now s same is young leads =
    undue_refreshed reach_stays s is (subst (λ (n : ℕ). n - s.own.born < 2 ^ 32 - 2 ^ 16) same young) (subst (λ (n : ℕ). All (LeadsOn n) s.table.entries) same leads)

-- where the same nodes are reachable and each has its moment of loss, the search changes nothing
pub reaching_rests : (r : Running) → IsReach r.state r.state.reach → All (IsMarked r.state.reach) r.state.table.entries → IsReaching r r
reaching_rests r is_reach marked = record {
  reach = r.state.reach;
  is_reach = is_reach;
  gives = ap with_nodes (sym (marks_same r.state.reach r.state.moment r.state.table.entries marked));
}
  where
    with_nodes : List HeldNode → Running
    with_nodes nodes = record r { state = record r.state { table = record r.state.table { entries = nodes } } }

-- a refresh that changes nothing
pub same_refresh : (r : Running) → IsJustRefreshed r.state → IsRefresh r r
same_refresh r fresh =
    let is = fresh.refreshed in
    (r, inl (record { same = is.published; young = fresh.young }, refl), (r, reaching_rests r fresh.reached is.lost, inl (sym is.hashed, refl)))
