-- What a router sees, and what is due for it, while time passes and nothing happens.
use Rattle.hn_base.proofs.Names.{◌≡◌, ◌∙◌, ◌↔◌, ℕ, ◌+◌, ◌-◌, ◌^◌, ◌<◌, ◌≤◌, List, Option, Some, None, Contains, inl, inr, refl, sym, ap, subst, arith, filter_map, option_map, cases_eq, IsSooner}
use Rattle.hn_rules.proofs.Names.{Contains-map, Contains-from_map, NodeId, IsLater, Entry, HeldIsOfAnEntry, held, Stored, IsAgeLimit, IsLifetimeEnd, State, IsDueAt, NextDueStays, held_entry}
use Rattle.hn_rules.proofs.Names.{own_entry, entry_of, view_of, seen_by, at_moment}
use Rattle.hn_base.proofs.NextDue.{next_stays}
use Rattle.hn_data.specs.Later.{aged_entry}
use Rattle.hn_deleg.specs.Laws.{EndsOfLater}
use Rattle.hn_rules.specs.Router.{IsPast}
use Rattle.hn_rules.proofs.Entries.{entry_own, entry_other}
use Rattle.hn_rules.proofs.LawsFromBelow.{held_all}
use Rattle.hn_rules.proofs.NodeLists.{mapped_each}

module _ (known : HeldIsOfAnEntry) (s : State) (now later : ℕ) (past : IsPast s) (begun : s.moment ≤ now) (goes : now ≤ later) where
  abbrev time : ℕ
  time = later - now

  own_later : own_entry (at_moment later s) ≡ aged_entry time (own_entry (at_moment now s))
  own_later =
      let born = past.born in
      let age : later - s.own.born ≡ now - s.own.born + (later - now) = omega (arith, born, begun, goes) in
      ap (λ (a : ℕ). record { id = s.id; number = s.number; age = a; body = s.own.body }) age

  held_later : (id : NodeId) (stored : Stored) → stored.at ≤ s.moment → held_entry later (record { id = id; stored = stored }) ≡ aged_entry time (held_entry now (record { id = id; stored = stored }))
  held_later id stored arrived =
      let age : stored.age + (later - stored.at) ≡ stored.age + (now - stored.at) + (later - now) = omega (arith, arrived, begun, goes) in
      ap (λ (a : ℕ). record { id = id; number = stored.number; age = a; body = stored.body }) age

  -- a node is older by the time that passed
  entry_later : (id : NodeId) → entry_of (at_moment later s) id ≡ option_map (aged_entry time) (entry_of (at_moment now s) id)
  entry_later id =
      elim (cases_eq id.0 s.id.0) [
        | inl own ↦ entry_own (at_moment later s) id own ∙ ap Some own_later ∙ sym (ap (option_map (aged_entry time)) (entry_own (at_moment now s) id own))
        | inr differs ↦ entry_other (at_moment later s) id differs ∙ by_held (held s.table.entries id.0) refl ∙ sym (ap (option_map (aged_entry time)) (entry_other (at_moment now s) id differs))
      ]
    where
      by_held : (o : Option Stored) → held s.table.entries id.0 ≡ o
          → option_map (λ (stored : Stored). held_entry later (record { id = id; stored = stored })) o
          ≡ option_map (aged_entry time) (option_map (λ (stored : Stored). held_entry now (record { id = id; stored = stored })) o)
      by_held None is = refl
      by_held (Some stored) is = ap Some (held_later id stored (held_all known (λ (x : Stored). x.at ≤ s.moment) s.table.entries id.0 stored (λ k d within. (past.nodes k d within).arrived) is))

  -- what a router sees is the same network later
  pub view_later : IsLater (seen_by (at_moment now s)) (seen_by (at_moment later s))
  view_later = record {
    time = time;
    own = refl;
    now = omega (arith, goes);
    nodes = ap (λ (f : NodeId → Option Entry). filter_map f s.reach) (λ i id. entry_later id i) ∙ mapped_each (aged_entry time) (entry_of (at_moment now s)) s.reach;
  }

  -- ---- what is due then is the same

  limits_before : (m : ℕ) → later < m → IsAgeLimit (view_of (at_moment later s)) later m → IsAgeLimit (view_of (at_moment now s)) now m
  limits_before m after (y, there, is) =
      let view = view_later in
      let found = Contains-from_map (aged_entry view.time) (view_of (at_moment now s)) y (subst (λ (nodes : List Entry). Contains nodes y) view.nodes there) in
      let age : y.age ≡ (found.0).age + view.time = sym (ap (λ (n : Entry). n.age) found.2) in
      let passed = view.now in
      (found.0, found.1, omega (arith, after, is, age, passed))

  limits_after : (m : ℕ) → later < m → IsAgeLimit (view_of (at_moment now s)) now m → IsAgeLimit (view_of (at_moment later s)) later m
  limits_after m after (x, there, is) =
      let view = view_later in
      let passed = view.now in (
        aged_entry view.time x,
        subst (λ (nodes : List Entry). Contains nodes (aged_entry view.time x)) (sym view.nodes) (Contains-map (aged_entry view.time) (view_of (at_moment now s)) x there),
        omega (arith, after, is, passed),
      )

  module _ (ends : EndsOfLater) where
    pub due_later : (m : ℕ) → later < m → IsDueAt (at_moment now s) m ↔ IsDueAt (at_moment later s) m
    due_later m after = (up, down)
      where
        same : IsLifetimeEnd (seen_by (at_moment now s)) m ↔ IsLifetimeEnd (seen_by (at_moment later s)) m
        same = ends (seen_by (at_moment now s)) (seen_by (at_moment later s)) view_later m after

        up : IsDueAt (at_moment now s) m → IsDueAt (at_moment later s) m
        up (inl port) = inl port
        up (inr (inl kept)) = inr (inl kept)
        up (inr (inr (inl end))) = inr (inr (inl (same.0 end)))
        up (inr (inr (inr limit))) = inr (inr (inr (limits_after m after limit)))

        down : IsDueAt (at_moment later s) m → IsDueAt (at_moment now s) m
        down (inl port) = inl port
        down (inr (inl kept)) = inr (inl kept)
        down (inr (inr (inl end))) = inr (inr (inl (same.1 end)))
        down (inr (inr (inr limit))) = inr (inr (inr (limits_before m after limit)))

-- the same moments after now, said in another way
same_after : (P Q : ℕ → Type 0) (now best n : ℕ) → ((m : ℕ) → now < m → P m ↔ Q m) → IsSooner P now best n → IsSooner Q now best n
same_after P Q now best n same h = record {
  at_most = h.at_most;
  least = λ m q after. h.least m ((same m after).1 q) after;
  is = elim h.is [ inl is ↦ inl is | inr (p, after) ↦ inr ((same n after).0 p, after) ];
}

pub due_stays : HeldIsOfAnEntry → EndsOfLater → NextDueStays
due_stays known ends s now later due router begun goes before next =
    same_after (IsDueAt (at_moment now s)) (IsDueAt (at_moment later s)) later (2 ^ 49) due (due_later known s now later router.well.past begun goes ends)
    (next_stays (IsDueAt (at_moment now s)) now later (2 ^ 49) due goes before next)
