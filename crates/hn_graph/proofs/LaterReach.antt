-- Reachability while time passes.
use Rattle.hn_base.proofs.Names.{◌↔◌, ℕ, ◌+◌, ◌-◌, ◌^◌, ◌<◌, List, Contains, refl, sym, subst, arith}
use Rattle.hn_graph.proofs.Names.{Entry, IsAgeLimit, IsLeadingOn, IsReachable, IsLike, KeepsReach}
use Rattle.hn_base.proofs.AscendingLists.{Contains-map, Contains-from_map}
use Rattle.hn_data.specs.View.{PlainView}
use Rattle.hn_data.specs.Later.{IsLater, aged_entry}
use Rattle.hn_graph.specs.Laws.{ReachabilityOfLater}
use Rattle.hn_graph.proofs.Staying.{reach_stays}

module _ (before after : PlainView) (later : IsLater before after) (none : (m : ℕ) → IsAgeLimit before.nodes before.now m → before.now < m → after.now < m) where
  leads_on_still : (x : Entry) → Contains before.nodes x → IsLeadingOn x → IsLeadingOn (aged_entry later.time x)
  leads_on_still x there recent =
      let limit = none (before.now + (2 ^ 32 - 2 ^ 15 - x.age)) (x, there, refl) (omega (arith, recent)) in
      let now = later.now in
      omega (arith, recent, limit, now)

  kept : (x : Entry) → Contains before.nodes x → (y : Entry) × Contains after.nodes y × IsLike x y
  kept x there = (
    aged_entry later.time x,
    subst (λ (nodes : List Entry). Contains nodes (aged_entry later.time x)) (sym later.nodes) (Contains-map (aged_entry later.time) before.nodes x there),
    record { id = refl; body = refl; recent = leads_on_still x there },
  )

  known : (y : Entry) → Contains after.nodes y → (x : Entry) × Contains before.nodes x × IsLike y x
  known y there =
      let found = Contains-from_map (aged_entry later.time) before.nodes y (subst (λ (nodes : List Entry). Contains nodes y) later.nodes there) in
      let like : IsLike (aged_entry later.time found.0) found.0 = record { id = refl; body = refl; recent = λ recent. omega (arith, recent) } in
      (found.0, found.1, subst (λ (z : Entry). IsLike z found.0) found.2 like)

  pub of_later : (y : ℕ) → IsReachable before.own before.nodes y ↔ IsReachable after.own after.nodes y
  of_later y =
      let keeps : KeepsReach before.own before.nodes after.nodes = record { kept = λ x there _. kept x there; known = known } in
      subst (λ (own : ℕ). IsReachable before.own before.nodes y ↔ IsReachable own after.nodes y) (sym later.own) (reach_stays before.own before.nodes after.nodes keeps y)

pub reach_of_later : ReachabilityOfLater
reach_of_later before after later none = of_later before after later none
