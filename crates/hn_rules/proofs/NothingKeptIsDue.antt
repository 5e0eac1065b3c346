-- A tick of a router that keeps nothing which has come to its moment.
use Rattle.hn_base.proofs.Names.{◌≡◌, ◌∙◌, ℕ, ◌≤◌, cond, not, List, [], ◌∷◌, map, Option, Some, refl, sym, ap, subst, ◌==◌, filter_map, cons_option, option_map, All-contains_itself, All-filter}
use Rattle.hn_base.proofs.Names.{All-weaker}
use Rattle.hn_rules.proofs.Names.{Contains, NodeId, Assigned, Held, PlainView, AssignedPrefix, Entry, ReachabilityStays, NoneEnds, ArePorts, endpoints_of, OwnItems, OwnPrefix, is_forgotten}
use Rattle.hn_rules.proofs.Names.{remembered, held, HeldNode, Stored, Running, State, IsRunAssigned, ending, held_entry, own_entry, entry_of, own_items, IsRefresh, IsRefreshed, IsJustRefreshed, IsRouter}
use Rattle.hn_rules.proofs.Names.{AtPort, IsSole, begun_at, with_words, seen_by, at_moment, IsKeptUndue, IsExpiry, forgetting, IsPortTick, IsLosing, IsSettling, IsTick, from_filter}
use Rattle.hn_assign.specs.Fixed.{AreAssignmentsUnchanged, unmarked}
use Rattle.hn_assign.specs.declared.ran.Ran.{Ran}
use Rattle.hn_own.specs.HeldPairs.{published_in, publication_of}
use Rattle.hn_rules.specs.KeptAtRest.{IsKeptAtRest, CalmTick}
use Rattle.hn_rules.specs.Updates.{LeavesAges, CalmTickLeavesAges}
use Rattle.hn_rules.proofs.AssignRuns.{run_seen}
use Rattle.hn_rules.proofs.Endpoints.{ports_stand}
use Rattle.hn_rules.proofs.Forgetting.{stays, filter_map-same, same_held, refreshed_forgetting}
use Rattle.hn_rules.proofs.Leads.{keeps_each}
use Rattle.hn_rules.proofs.RefreshChangesNothing.{LeadsOn, undue_refreshed, same_refresh}
use Rattle.hn_rules.proofs.Refreshes.{Kept, kept_self, keeps_kept_at, refreshed-later, tick_keeps}
use Rattle.hn_rules.proofs.Resting.{none_expire_at, only}

-- the laws on which it rests
pub record CalmLaws : Type 0 where
  pub reach : ReachabilityStays
  pub ending : NoneEnds
  pub one_expiry : IsSole IsExpiry
  pub one_refresh : IsSole IsRefresh

-- ---- assignments that differ in marks alone

published_unmarked : (xs : List Assigned) → filter_map publication_of (map unmarked xs) ≡ published_in xs
published_unmarked [] = refl
published_unmarked (c ∷ xs) = ap (cons_option (publication_of c)) (published_unmarked xs)

-- they publish the same
pub same_published : (before after : List Assigned) → AreAssignmentsUnchanged before after → published_in after ≡ published_in before
same_published before after same = sym (published_unmarked after) ∙ ap (filter_map publication_of) same ∙ published_unmarked before

with_held : (s : State) (ran : Held) → AreAssignmentsUnchanged s.held.assigned ran.assigned → IsJustRefreshed s → IsJustRefreshed (record s { held = ran })
with_held s ran same is = record {
  refreshed = record {
    published = ap (λ (list : List AssignedPrefix). let items : OwnItems = record (own_items s) { assigned = list } in items) (same_published s.held.assigned ran.assigned same)
        ∙ is.refreshed.published;
    reached = record {
      moment = is.refreshed.reached.moment;
      past = is.refreshed.reached.past;
      was = record { ascending = is.refreshed.reached.was.ascending; exactly = is.refreshed.reached.was.exactly };
    };
    lost = is.refreshed.lost;
    hashed = is.refreshed.hashed;
  };
  reached = record { ascending = is.reached.ascending; exactly = is.reached.exactly };
  young = is.young;
}

-- ---- a tick

module _ (laws : CalmLaws) (s : State) (now : ℕ) (router : IsRouter s) (begun : s.moment ≤ now) (quiet : IsKeptUndue now s) where
  abbrev pub start : Running
  start = begun_at now s

  abbrev pub then : State
  then = at_moment now s

  -- and without the nodes that are forgotten
  abbrev pub forgot : State
  forgot = record then { table = remembered now s.table }

  refreshed_then : IsRefreshed then
  refreshed_then = refreshed-later now s begun router.refreshed

  -- nobody is silent, no prefix has ended, nothing is published
  pub nothing_lost : (lost : Running) → IsLosing start lost → lost ≡ start
  nothing_lost lost (expired, expiry, (ended, ends, refresh)) =
      let none : expired ≡ start = only IsExpiry laws.one_expiry start expired expiry (none_expire_at start router.well.ports quiet.heard) in
      let same : ending start ≡ start = ap (λ (list : List OwnPrefix). let x : Running = record start { state = record start.state { delegated = list } } in x)
      ((laws.ending now s.delegated).1 quiet.lasting) in
      let whole : ended ≡ start = ends ∙ ap ending none ∙ same in
      only IsRefresh laws.one_refresh start lost (subst (λ (x : Running). IsRefresh x lost) whole refresh) (same_refresh start (undue_refreshed laws.reach then refreshed_then quiet.young quiet.leads))

  refreshed_forgot : IsRefreshed forgot
  refreshed_forgot = refreshed_forgetting laws.reach start refreshed_then

  pub just_refreshed_forgot : IsJustRefreshed forgot
  just_refreshed_forgot = undue_refreshed laws.reach forgot refreshed_forgot quiet.young (All-filter (stays now) (LeadsOn now) s.table.entries quiet.leads)

  -- what is held of a reachable node stays
  pub known_forgot : (id : NodeId) → Contains s.reach id → held forgot.table.entries id.0 ≡ held s.table.entries id.0
  known_forgot id there = same_held s router.refreshed.reached.moment now router.refreshed.reached.was router.refreshed.lost id there

  seen_forgot : (id : NodeId) → Contains s.reach id → entry_of forgot id ≡ entry_of then id
  seen_forgot id there =
      ap (λ (h : Option Stored). cond (id.0 == s.id.0) (Some (own_entry then)) (option_map (λ (stored : Stored). held_entry now (record { id = id; stored = stored })) h)) (known_forgot id there)

  -- the router sees the same
  pub same_view : seen_by forgot ≡ seen_by then
  same_view =
      ap (λ (nodes : List Entry). let view : PlainView = record { own = s.id.0; now = now; nodes = nodes } in view)
      (filter_map-same (entry_of forgot) (entry_of then) s.reach (All-weaker (Contains s.reach) (λ id. entry_of forgot id ≡ entry_of then id) seen_forgot s.reach (All-contains_itself s.reach)))

  -- and prefixes are assigned as then
  pub assigned_then : (ran : Ran) → IsRunAssigned forgot ran → IsRunAssigned then ran
  assigned_then ran is = run_seen then (remembered now s.table) s.net ran same_view is

  module _ (changes_none : (ran : Ran) → IsRunAssigned then ran → AreAssignmentsUnchanged s.held.assigned ran.held.assigned) where
    -- prefixes are assigned as they were, and nothing is published
    record IsSettled (settled : Running) : Type 0 where
      pub holds : Held
      pub same : AreAssignmentsUnchanged s.held.assigned holds.assigned
      pub is : settled.state ≡ record forgot { held = holds }

    settles : (settled : Running) → IsSettling (forgetting start) settled → IsSettled settled
    settles settled (assigned, assigns, refresh) =
        let ran = assigns.ran in
        let same = changes_none ran (assigned_then ran assigns.is_assigned) in
        let after : Running = with_words ran.words (record (forgetting start) { state = record forgot { held = ran.held } }) in
        let here : IsRefresh after settled = subst (λ (x : Running). IsRefresh x settled) assigns.gives refresh in
        let none : settled ≡ after = only IsRefresh laws.one_refresh after settled here (same_refresh after (with_held forgot ran.held same just_refreshed_forgot)) in
        record { holds = ran.held; same = same; is = ap (λ (x : Running). x.state) none }

    -- the router after it, but for its endpoints
    record IsWhole (after : Running) : Type 0 where
      pub holds : Held
      pub same : AreAssignmentsUnchanged s.held.assigned holds.assigned
      pub endpoints : endpoints_of after.state.ports ≡ endpoints_of s.ports
      pub is : after.state ≡ record forgot { held = holds; ports = after.state.ports }

    whole_of : (after : Running) → IsTick start after → IsWhole after
    whole_of after (lost, losing, (forgetful, forgets, (settled, settling, ticks))) =
        let none : forgetful ≡ forgetting start = forgets ∙ ap forgetting (nothing_lost lost losing) in
        let rest = settles settled (subst (λ (x : Running). IsSettling x settled) none settling) in
        let ports_are : settled.state.ports ≡ s.ports = ap (λ (x : State). x.ports) rest.is in
        let kept : Kept settled.state after =
        keeps_each (Kept settled.state) (λ at. AtPort at IsPortTick) (λ at. keeps_kept_at settled.state at IsPortTick tick_keeps) (endpoints_of settled.state.ports) settled after ticks
        (kept_self settled.state (subst ArePorts (sym ports_are) router.well.ports))
        in
        record {
          holds = rest.holds;
          same = rest.same;
          endpoints = (ports_stand settled after ticks).1 ∙ ap endpoints_of ports_are;
          is = kept.untouched.gives ∙ ap (λ (x : State). let y : State = record x { ports = after.state.ports } in y) rest.is;
        }

    rested : (after : Running) → IsTick start after → IsKeptAtRest s after.state
    rested after tick =
        let w = whole_of after tick in
        let whole = w.is in
        let assigned_is : after.state.held.assigned ≡ (w.holds).assigned = ap (λ (x : State). x.held.assigned) whole in
        let table_is : after.state.table.entries ≡ forgot.table.entries = ap (λ (x : State). x.table.entries) whole in
        record {
          id = ap (λ (x : State). x.id) whole;
          number = ap (λ (x : State). x.number) whole;
          own = ap (λ (x : State). x.own) whole;
          private = ap (λ (x : State). x.private) whole;
          reach = ap (λ (x : State). x.reach) whole;
          endpoints = w.endpoints;
          known = λ id there. ap (λ (entries : List HeldNode). held entries id.0) table_is ∙ known_forgot id there;
          assigned = subst (AreAssignmentsUnchanged s.held.assigned) (sym assigned_is) w.same;
        }

    leaves : (after : Running) → IsTick start after → LeavesAges s after.state
    leaves after tick =
        let whole = (whole_of after tick).is in
        record {
          delegated = ap (λ (x : State). x.delegated) whole;
          entries = λ node there.
              (from_filter (λ (n : HeldNode). not (is_forgotten now n)) s.table.entries node
              (subst (λ (list : List HeldNode). Contains list node) (ap (λ (x : State). x.table.entries) whole) there)).0;
        }

pub calm_tick : CalmLaws → CalmTick
calm_tick laws now s after router begun quiet changes_none tick = rested laws s now router begun quiet changes_none after tick

pub calm_tick_leaves_ages : CalmLaws → CalmTickLeavesAges
calm_tick_leaves_ages laws now s after router begun quiet changes_none tick = leaves laws s now router begun quiet changes_none after tick
