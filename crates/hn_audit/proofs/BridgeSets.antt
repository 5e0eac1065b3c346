-- The set of a settled router: its routers are known by their identifiers, and each sees the others as they are.
use Rattle.hn_base.proofs.Names.{◌≡◌, ◌∙◌, true, List, Some, Contains, inl, inr, refl, sym, ap, subst, and_from, and_parts, eqb-true, eq-eqb, cases_eq, All-contains, same_Some, plain_caps}
use Rattle.hn_audit.proofs.Names.{◌==◌, Contains-from_map, same_node, NodeId, HasItems, version_of, Entry, State, ViewIsNetwork, EntriesAreAsKnown, held_entry, own_entry, entry_of, view_of, IsRouter}
use Rattle.hn_audit.proofs.Names.{Member, Parts, IsAttachedMember, IsRunning, IsReached, IsOfOne, runs_as, IsSettledByRules, HoldsState, in_filter_map, from_filter_map}
use Rattle.hn_audit.proofs.BridgeLists.{one_passes, two_pass}

-- ---- what is known of a settled router of a replayed world

-- the node data of a router has an HNCP-Version with its capabilities
abbrev pub OwnVersions : Type 0
OwnVersions = (s : State) → IsRouter s → HasItems s.own.body (λ items. version_of items ≡ Some (plain_caps s.own.items.caps))

pub record IsKnown (w : Parts) (r : Member) : Type 0 where
  pub routers : (m : Member) → Contains w.members m → IsRouter m.router
  pub attached : (m : Member) → Contains w.members m → IsAttachedMember m
  pub network : ViewIsNetwork
  pub entries : EntriesAreAsKnown
  pub runs : IsRunning w r
  pub settled : IsSettledByRules w r

-- a router reaches itself
pub reaches_itself : ViewIsNetwork → EntriesAreAsKnown → (s : State) → IsRouter s → Contains s.reach s.id
reaches_itself network entries s router =
    let there = Contains-from_map (λ (n : Entry). n.id.0) (view_of s) s.id.0 (network s router).own_is_there in
    let from = from_filter_map (entry_of s) s.reach there.0 there.1 in
    let same : from.0 ≡ s.id = sym (entries.named s from.0 there.0 from.2) ∙ same_node there.0.id s.id there.2 in
    subst (Contains s.reach) same from.1

-- a node is what a router is at present
pub record IsNodeOf (n : Entry) (u : Member) : Type 0 where
  pub id : n.id ≡ u.router.id
  pub body : n.body ≡ u.router.own.body

module _ (w : Parts) (r : Member) (known : IsKnown w r) where
  -- ---- the routers of the set

  pub router_of : (s : Member) → IsReached w r s → IsRouter s.router
  router_of s reached = known.routers s reached.runs.there

  pub itself : IsReached w r r
  itself = record { runs = known.runs; reached = reaches_itself known.network known.entries r.router (known.routers r known.runs.there) }

  -- one of the set reaches what r reaches
  pub reach_is : (s : Member) → IsReached w r s → s.router.reach ≡ r.router.reach
  reach_is s reached = known.settled.same_reach s reached

  pub reaches : (s u : Member) → IsReached w r s → IsReached w r u → Contains s.router.reach u.router.id
  reaches s u s_in u_in = subst (λ (ids : List NodeId). Contains ids u.router.id) (sym (reach_is s s_in)) u_in.reached

  -- one identifier is of one router
  pub one_member : (s u : Member) → IsReached w r s → IsReached w r u → s.router.id ≡ u.router.id → s ≡ u
  one_member s u s_in u_in same =
      let once : IsOfOne w s.router.id = All-contains (IsOfOne w) r.router.reach s.router.id known.settled.known s_in.reached in
      let s_runs : runs_as s.router.id s ≡ true = and_from s.running (s.router.id.0 == s.router.id.0) s_in.runs.running (eq-eqb s.router.id.0 s.router.id.0 refl) in
      let u_runs : runs_as s.router.id u ≡ true =
      and_from u.running (u.router.id.0 == s.router.id.0) u_in.runs.running (eq-eqb u.router.id.0 s.router.id.0 (ap (λ (id : NodeId). id.0) (sym same))) in
      two_pass (runs_as s.router.id) w.members once s u s_in.runs.there s_runs u_in.runs.there u_runs

  -- what r reaches is one of the set
  pub member_of : (id : NodeId) → Contains r.router.reach id → (u : Member) × IsReached w r u × (u.router.id ≡ id)
  member_of id there =
      let found = one_passes (runs_as id) w.members (All-contains (IsOfOne w) r.router.reach id known.settled.known there) in
      let is = and_parts found.0.running (found.0.router.id.0 == id.0) found.2 in
      let same : found.0.router.id ≡ id = same_node found.0.router.id id (eqb-true found.0.router.id.0 id.0 is.1) in
      (found.0, record { runs = record { there = found.1; running = is.0 }; reached = subst (Contains r.router.reach) (sym same) there }, same)

  -- ---- what one of the set sees

  other_seen : (s u : Member) → IsReached w r s → IsReached w r u → (u.router.id.0 ≡ s.router.id.0 → ⊥)
      → (n : Entry) × (entry_of s.router u.router.id ≡ Some n) × IsNodeOf n u
  other_seen s u s_in u_in differs =
      let holds : HoldsState s.router u.router = known.settled.held s u s_in u_in (λ same. differs (ap (λ (id : NodeId). id.0) (sym same))) in (
        held_entry s.router.moment (record { id = u.router.id; stored = holds.stored }),
        known.entries.held s.router u.router.id holds.stored differs holds.is_held,
        record { id = refl; body = holds.body },
      )

  own_seen : (s u : Member) → IsReached w r s → IsReached w r u → u.router.id.0 ≡ s.router.id.0
      → (n : Entry) × (entry_of s.router u.router.id ≡ Some n) × IsNodeOf n u
  own_seen s u s_in u_in is =
      let same : s ≡ u = one_member s u s_in u_in (same_node s.router.id u.router.id (sym is)) in (
        own_entry s.router,
        known.entries.own s.router u.router.id is,
        record { id = ap (λ (m : Member). m.router.id) same; body = ap (λ (m : Member). m.router.own.body) same },
      )

  seen : (s u : Member) → IsReached w r s → IsReached w r u → (n : Entry) × (entry_of s.router u.router.id ≡ Some n) × IsNodeOf n u
  seen s u s_in u_in =
      elim (cases_eq u.router.id.0 s.router.id.0) [
        | inl is ↦ own_seen s u s_in u_in is
        | inr differs ↦ other_seen s u s_in u_in differs
      ]

  -- each sees each
  pub in_view : (s u : Member) → IsReached w r s → IsReached w r u → (n : Entry) × Contains (view_of s.router) n × IsNodeOf n u
  in_view s u s_in u_in =
      let found = seen s u s_in u_in in
      (found.0, in_filter_map (entry_of s.router) s.router.reach u.router.id found.0 (reaches s u s_in u_in) found.1, found.2)

  -- and nobody else
  pub of_view : (s : Member) (n : Entry) → IsReached w r s → Contains (view_of s.router) n → (u : Member) × IsReached w r u × IsNodeOf n u
  of_view s n s_in there =
      let from = from_filter_map (entry_of s.router) s.router.reach n there in
      let who = member_of from.0 (subst (λ (ids : List NodeId). Contains ids from.0) (reach_is s s_in) from.1) in
      let found = seen s who.0 s_in who.1 in
      let same : found.0 ≡ n = same_Some found.0 n (sym found.1 ∙ (ap (entry_of s.router) who.2 ∙ from.2)) in
      (who.0, who.1, subst (λ (e : Entry). IsNodeOf e who.0) same found.2)
