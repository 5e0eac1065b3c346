-- A tick does nothing if and only if each part of it leaves the router as it is.
use Rattle.hn_base.proofs.Names.{◌≡◌, ◌∙◌, ◌↔◌, ℕ, ◌-◌, ◌^◌, ◌<◌, ◌≤◌, ◌+◌, Bool, true, false, List, [], ◌∷◌, ◌++◌, map, filter, nat_lt, Option, Some, None, refl, sym, ap, subst, arith, All, list_any}
use Rattle.hn_base.proofs.Names.{option_map_or, or_parts, lt-leb, IsStrictlySortedBy, All-contains, All-filter, node_cmp, Begins}
use Rattle.hn_rules.proofs.Names.{nat_le, Contains, all_of, NodeId, Held, Entry, IsPortUndue, IsIdleAt, PackingIsNotEmpty, UnduePortIsIdle, IsReachable, NoneEnds, links_of, delegated_after}
use Rattle.hn_rules.proofs.Names.{has_ended_one, ArePorts, OwnItems, OwnPrefix, is_among, is_forgotten, lost_after, loss_marked, marked_node, remembered, Nodes, HeldNode, Done, Running, State}
use Rattle.hn_rules.proofs.Names.{IsRunAssigned, IsAssigning, ending, nothing, IsLeft, UndueStays, NextDueStays, held_entry, own_entry, held_entries, nodes_of, IsReach, own_items, IsPublished}
use Rattle.hn_rules.proofs.Names.{IsRefresh, IsRouter, IsSole, begun_at, at_moment, AreHeard, IsExpiry, forgetting, IsPortsTick, IsTick}
use Rattle.hn_assign.specs.declared.ran.Ran.{Ran as Assigned}
use Rattle.hn_deleg.specs.Laws.{EndsOfLater}
use Rattle.hn_store.specs.Laws.{HeldIsOfAnEntry, NoneIsForgotten}
use Rattle.hn_rules.specs.Idle.{IsIdleTick}
use Rattle.hn_rules.specs.Laws.{UndueIsIdle, IdleIsUndue, TickOfNothingIsUndue, IdleUntilDue, IdleWhileUndue}
use Rattle.hn_rules.specs.Undue.{IsRouterUndue}
use Rattle.hn_rules.proofs.AssignRuns.{run_seen}
use Rattle.hn_rules.proofs.Forgetting.{IsMarked, stays}
use Rattle.hn_rules.proofs.RefreshChangesNothing.{marks_same, same_refresh}
use Rattle.hn_rules.proofs.Resting.{none_expire_at, only, ports_rest}
use Rattle.hn_rules.proofs.Refreshes.{refreshed-later, seen_marked}
use Rattle.hn_rules.proofs.ExactTicks.{exact_expiry}
use Rattle.hn_rules.proofs.PortsInTurn.{with_ports}
use Rattle.hn_rules.proofs.NoPeerExpired.{none_expired, expiry_ports}
use Rattle.hn_rules.proofs.PortsOfNothing.{all_idle, ticks_ports}
use Rattle.hn_rules.proofs.SeenWhileTimePasses.{due_later}
use Rattle.hn_rules.proofs.ComesToNothing.{CameToNothing, none_after, seen_again, refresh_of_nothing, nothing_came_walk}
use Rattle.hn_rules.proofs.Walk.{assigning_walk, ports_walk}

-- the laws of the crates below that they stand on
pub record UndueLaws : Type 0 where
  pub ending : NoneEnds
  pub forgetting : NoneIsForgotten
  pub port : UnduePortIsIdle

pub record IdleLaws : Type 0 where
  pub one_order : (xs ys : List NodeId) → IsStrictlySortedBy node_cmp xs → IsStrictlySortedBy node_cmp ys → ((x : NodeId) → Contains xs x ↔ Contains ys x) → xs ≡ ys
  pub ending : NoneEnds
  pub forgetting : NoneIsForgotten
  pub port : UnduePortIsIdle
  pub packing : PackingIsNotEmpty

-- ---- each part leaves the router as it is: the tick does nothing

module _ (laws : UndueLaws) (s : State) (now : ℕ) (router : IsRouter s) (begun : s.moment ≤ now) (still : IsRouterUndue now s) where
  abbrev r : Running
  r = begun_at now s

  ends : r ≡ ending r
  ends = ap (λ (list : List OwnPrefix). let x : Running = record r { state = record r.state { delegated = list } } in x) (sym ((laws.ending now s.delegated).1 still.lasting))

  forgets : r ≡ forgetting r
  forgets = ap (λ (table : Nodes). let x : Running = record r { state = record r.state { table = table } } in x) (sym ((laws.forgetting now s.table).1 still.kept))

  refreshes : IsRefresh r r
  refreshes = same_refresh r (record { refreshed = refreshed-later now s begun router.refreshed; reached = still.reached; young = still.young })

  assigns : IsAssigning r r
  assigns = record { ran = record { held = s.held; words = [] }; is_assigned = still.rests; gives = refl }

  undue_tick : IsIdleTick now s
  undue_tick =
      let expires = none_expire_at r router.well.ports still.heard in
      let ticks = ports_rest laws.port r router.well.ports still.ports in
      (r, (r, (r, expires, (r, ends, refreshes)), (r, forgets, (r, (r, assigns, refreshes), ticks))), refl, refl)

pub undue_idle : UndueLaws → UndueIsIdle
undue_idle laws s now router begun still = undue_tick laws s now router begun still

-- ---- a tick that does nothing: each part left the router as it is

-- the nodes are those of the table
nodes_by : (s t : State) → s.id ≡ t.id → own_entry s ≡ own_entry t → held_entries s ≡ held_entries t → nodes_of s ≡ nodes_of t
nodes_by s t id own entries =
    λ i. filter (λ n. nat_lt n.id.0 (id i).0) (entries i) ++ own i ∷ filter (λ n. nat_lt (id i).0 n.id.0) (entries i)

module _ (laws : IdleLaws) (s : State) (now : ℕ) (router : IsRouter s) (begun : s.moment ≤ now) where
  abbrev start : Running
  start = begun_at now s

  -- ---- silent peers and ended delegated prefixes

  -- nothing was lost where the own items stayed
  record IsKept (expired ended : Running) : Type 0 where
    heard : AreHeard now s
    lasting : has_ended_one now s.delegated ≡ false
    young : now - s.own.born < 2 ^ 32 - 2 ^ 16
    same : ended ≡ start

  kept_by : (expired ended : Running) → IsExpiry start expired → ended ≡ ending expired → IsPublished ended.state → IsKept expired ended
  kept_by expired ended expiry ends published =
      let ports = expired.state.ports in
      let state : ended.state ≡ (ending (with_ports start ports)).state =
      ap (λ (x : Running). x.state) ends ∙ ap (λ (x : State). let y : State = record x { delegated = delegated_after x.moment x.delegated } in y) (expiry_ports start expired expiry) in
      let fresh : IsPublished (ending (with_ports start ports)).state = subst IsPublished state published in
      let items : own_items (ending (with_ports start ports)).state ≡ own_items s = fresh.same ∙ sym router.refreshed.published in
      let links : links_of ports ≡ links_of s.ports = ap (λ (o : OwnItems). o.links) items in
      let delegated : delegated_after now s.delegated ≡ s.delegated = ap (λ (o : OwnItems). o.delegated) items in
      let heard = none_expired start expired router.well.ports expiry links in
      let none : expired ≡ start = only IsExpiry exact_expiry.sole start expired expiry (none_expire_at start router.well.ports heard) in
      record {
        heard = heard;
        lasting = (laws.ending now s.delegated).0 delegated;
        young = fresh.young;
        same = ends ∙ ap ending none ∙ ap (λ (list : List OwnPrefix). let x : Running = record start { state = record start.state { delegated = list } } in x) delegated;
      }

  -- ---- what comes after

  -- the states in between, by what they find
  abbrev lost : List NodeId → List ℕ → State
  lost reach net = seen_again reach net (at_moment now s)

  abbrev forgot : List NodeId → List ℕ → State
  forgot reach net = record (lost reach net) { table = remembered now (loss_marked reach now s.table) }

  abbrev assigned : List NodeId → List ℕ → Held → State
  assigned reach net held = record (forgot reach net) { held = held }

  -- the nodes that are left after marks
  abbrev left : List NodeId → List HeldNode
  left reach = filter (stays now) (map (marked_node reach now) s.table.entries)

  -- the last refresh found the nodes that were reachable, and nothing else of the nodes changed
  module _ (reach : List NodeId) (net : List ℕ) (held : Held) (again : List NodeId)
      (first : IsReach (at_moment now s) reach) (second : IsReach (assigned reach net held) again)
      (again_is : again ≡ s.reach) (seen : map (held_entry now) (left reach) ≡ map (held_entry now) s.table.entries) where
    same_nodes : nodes_of (assigned reach net held) ≡ nodes_of (at_moment now s)
    same_nodes = nodes_by (assigned reach net held) (at_moment now s) refl refl seen

    reached : IsReach (at_moment now s) s.reach
    reached =
        let exactly : (id : NodeId) → Contains again id ↔ IsReachable s.id.0 (nodes_of (at_moment now s)) id.0 = λ id.
        subst (λ (nodes : List Entry). Contains again id ↔ IsReachable s.id.0 nodes id.0) same_nodes (second.exactly id) in
        let whole : IsReach (at_moment now s) again = record { ascending = second.ascending; exactly = exactly } in
        subst (IsReach (at_moment now s)) again_is whole

    reach_is : reach ≡ s.reach
    reach_is =
        laws.one_order reach s.reach first.ascending reached.ascending
        (λ id. let p = first.exactly id in let q = reached.exactly id in (λ x. q.1 (p.0 x), λ y. p.1 (q.0 y)))

    unmarked : map (marked_node reach now) s.table.entries ≡ s.table.entries
    unmarked = ap (λ (ids : List NodeId). map (marked_node ids now) s.table.entries) reach_is ∙ marks_same s.reach now s.table.entries router.refreshed.lost

    -- but for the network state hash the router was as it is where prefixes were assigned
    forgot_is : filter (stays now) s.table.entries ≡ s.table.entries → forgot reach net ≡ record (at_moment now s) { net = net }
    forgot_is remains =
        ap (λ (nodes : List HeldNode). let x : State = record (at_moment now s) { reach = reach; net = net; table = record s.table { entries = filter (stays now) nodes } } in x) unmarked
        ∙ ap (λ (nodes : List HeldNode). let x : State = record (at_moment now s) { reach = reach; net = net; table = record s.table { entries = nodes } } in x) remains
        ∙ ap (λ (ids : List NodeId). let x : State = record (at_moment now s) { reach = ids; net = net } in x) reach_is

    rests : filter (stays now) s.table.entries ≡ s.table.entries → (ran : Assigned) → IsRunAssigned (forgot reach net) ran → ran.held ≡ s.held → ran.words ≡ []
        → IsRunAssigned (at_moment now s) (record { held = s.held; words = [] })
    rests remains ran was held_is words_are =
        let there : IsRunAssigned (record (at_moment now s) { net = net }) ran = subst (λ (x : State). IsRunAssigned x ran) (forgot_is remains) was in
        let here : IsRunAssigned (at_moment now s) ran = run_seen (at_moment now s) s.table net ran refl there in
        let same : ran ≡ record { held = s.held; words = [] } = λ i. record { held = held_is i; words = words_are i } in
        subst (IsRunAssigned (at_moment now s)) same here

  -- ---- a tick of which nothing came

  -- what its parts did
  record IsTickOfNothing (after : Running) : Type 0 where
    heard : AreHeard now s
    lasting : has_ended_one now s.delegated ≡ false
    young : now - s.own.born < 2 ^ 32 - 2 ^ 16
    reach : List NodeId
    net : List ℕ
    first : IsReach (at_moment now s) reach
    ran : Assigned
    is_assigned : IsRunAssigned (forgot reach net) ran
    untaken : ran.words ≡ []
    again : List NodeId
    net_again : List ℕ
    second : IsReach (assigned reach net ran.held) again
    settled : Running
    settled_is : settled.state ≡ seen_again again net_again (assigned reach net ran.held)
    ticks : IsPortsTick settled after

  tick_of_nothing : (after : Running) → IsTick start after → CameToNothing after → IsTickOfNothing after
  tick_of_nothing after (losing, (expired, expiry, (ended, ends, refreshes)), (forgetful, forgets, (settled, (settling, assigns, again), ticks))) came_none =
      let ran = assigns.ran in
      let settled_nothing_came : CameToNothing settled = nothing_came_walk IsPortsTick (λ P each. ports_walk [] P each) settled after ticks came_none in
      let last = refresh_of_nothing settling settled again settled_nothing_came in
      let settling_nothing_came : CameToNothing settling = sym last.done ∙ settled_nothing_came in
      let forgetful_nothing_came : CameToNothing forgetful = nothing_came_walk IsAssigning (λ P each. assigning_walk [] P each) forgetful settling assigns settling_nothing_came in
      let losing_nothing_came : CameToNothing losing = sym (ap (λ (x : Running). x.done) forgets) ∙ forgetful_nothing_came in
      let first = refresh_of_nothing ended losing refreshes losing_nothing_came in
      let kept = kept_by expired ended expiry ends first.published in
      let lost_is : losing.state ≡ lost first.reach first.net = first.gives ∙ ap (λ (x : Running). seen_again first.reach first.net x.state) kept.same in
      let state_forgot : forgetful.state ≡ forgot first.reach first.net =
      ap (λ (x : Running). x.state) forgets ∙ ap (λ (x : State). let y : State = record x { table = remembered x.moment x.table } in y) lost_is in
      let state_assigned : settling.state ≡ assigned first.reach first.net ran.held =
      ap (λ (x : Running). x.state) assigns.gives ∙ ap (λ (x : State). let y : State = record x { held = ran.held } in y) state_forgot in
      record {
        heard = kept.heard;
        lasting = kept.lasting;
        young = kept.young;
        reach = first.reach;
        net = first.net;
        first = subst (λ (x : Running). IsReach x.state first.reach) kept.same first.is_reach;
        ran = ran;
        is_assigned = subst (λ (x : State). IsRunAssigned x ran) state_forgot assigns.is_assigned;
        untaken = none_after forgetful.done.words ran.words (sym (ap (λ (x : Running). x.done.words) assigns.gives) ∙ ap (λ (d : Done). d.words) settling_nothing_came);
        again = last.reach;
        net_again = last.net;
        second = subst (λ (x : State). IsReach x last.reach) state_assigned last.is_reach;
        settled = settled;
        settled_is = last.gives ∙ ap (seen_again last.reach last.net) state_assigned;
        ticks = ticks;
      }

  -- what it leaves, but for the endpoints
  leaves : (after : Running) (parts : IsTickOfNothing after) → after.state ≡ record (seen_again parts.again parts.net_again (assigned parts.reach parts.net parts.ran.held))
      { ports = after.state.ports }
  leaves after parts = ticks_ports parts.settled after parts.ticks ∙ ap (λ (x : State). let y : State = record x { ports = after.state.ports } in y) parts.settled_is

  -- ---- where all is as it was in the end

  still_by : (after : Running) → IsTickOfNothing after → CameToNothing after → after.state ≡ at_moment now s → IsRouterUndue now s
  still_by after parts came_none same =
      let whole = sym (leaves after parts) ∙ same in
      let again_is : parts.again ≡ s.reach = ap (λ (x : State). x.reach) whole in
      let marked_is : map (marked_node parts.again now) (left parts.reach) ≡ s.table.entries = ap (λ (x : State). x.table.entries) whole in
      let seen : map (held_entry now) (left parts.reach) ≡ map (held_entry now) s.table.entries =
      sym (seen_marked parts.again now now (left parts.reach)) ∙ ap (λ (nodes : List HeldNode). map (held_entry now) nodes) marked_is in
      let there : map (marked_node parts.reach now) s.table.entries ≡ s.table.entries = unmarked parts.reach parts.net parts.ran.held parts.again parts.first parts.second again_is seen in
      let remains : filter (stays now) s.table.entries ≡ s.table.entries =
      sym (marks_same s.reach now (filter (stays now) s.table.entries) (All-filter (stays now) (IsMarked s.reach) s.table.entries router.refreshed.lost))
      ∙ ap (λ (ids : List NodeId). map (marked_node ids now) (filter (stays now) s.table.entries)) (sym again_is)
      ∙ ap (λ (nodes : List HeldNode). map (marked_node parts.again now) (filter (stays now) nodes)) (sym there)
      ∙ marked_is in
      let ports_are : parts.settled.state.ports ≡ s.ports = ap (λ (x : State). x.ports) parts.settled_is in
      let moment_is : parts.settled.state.moment ≡ now = ap (λ (x : State). x.moment) parts.settled_is in
      let idle = all_idle laws.packing parts.settled after (subst ArePorts (sym ports_are) router.well.ports) parts.ticks came_none (ap (λ (x : State). x.ports) same ∙ sym ports_are) in
      let idle_here : All (IsIdleAt now) s.ports = subst (All (IsIdleAt now)) ports_are (subst (λ (n : ℕ). All (IsIdleAt n) parts.settled.state.ports) moment_is idle) in
      record {
        heard = parts.heard;
        lasting = parts.lasting;
        young = parts.young;
        reached = reached parts.reach parts.net parts.ran.held parts.again parts.first parts.second again_is seen;
        kept = (laws.forgetting now s.table).0 (ap (λ (nodes : List HeldNode). let t : Nodes = record s.table { entries = nodes } in t) remains);
        rests = rests parts.reach parts.net parts.ran.held parts.again parts.first parts.second again_is seen remains parts.ran parts.is_assigned (ap (λ (x : State). x.held) whole) parts.untaken;
        ports = all_of (IsPortUndue now) s.ports (λ port there. (laws.port now port).1 (All-contains (IsIdleAt now) s.ports port idle_here there));
      }

  -- ---- where some parts are as they were

  -- who is not forgotten is not so either with a moment of loss that is found now
  unforgotten : (reachable : Bool) (lost : Option ℕ) → option_map_or (λ moment. nat_le (moment + 42000) now) lost false ≡ false
      → option_map_or (λ moment. nat_le (moment + 42000) now) (lost_after reachable now lost) false ≡ false
  unforgotten true lost none = refl
  unforgotten false None none = lt-leb (now + 42000) now (omega arith)
  unforgotten false (Some moment) none = none

  none_marked : (reach : List NodeId) (nodes : List HeldNode) → list_any (is_forgotten now) nodes ≡ false → list_any (is_forgotten now) (map (marked_node reach now) nodes) ≡ false
  none_marked reach [] none = refl
  none_marked reach (node ∷ nodes) none =
      let both = or_parts (is_forgotten now node) (list_any (is_forgotten now) nodes) none in
      let here = unforgotten (is_among reach node.id.0) node.stored.lost both.0 in
      let more = none_marked reach nodes both.1 in
      rw (here, more) refl

  pub still_from : (after : Running) → IsTick start after → CameToNothing after → after.state.reach ≡ s.reach → after.state.held ≡ s.held → list_any (is_forgotten now) s.table.entries ≡ false
      → All (IsPortUndue now) s.ports → IsRouterUndue now s
  still_from after tick came_none same_reach same_held none undue_ports =
      let parts = tick_of_nothing after tick came_none in
      let whole = leaves after parts in
      let found : after.state.reach ≡ parts.again = ap (λ (x : State). x.reach) whole in
      let holds : after.state.held ≡ parts.ran.held = ap (λ (x : State). x.held) whole in
      let again_is : parts.again ≡ s.reach = sym found ∙ same_reach in
      let held_is : parts.ran.held ≡ s.held = sym holds ∙ same_held in
      let table : Nodes = loss_marked parts.reach now s.table in
      let remain : remembered now table ≡ table = (laws.forgetting now table).1 (none_marked parts.reach s.table.entries none) in
      let seen : map (held_entry now) (left parts.reach) ≡ map (held_entry now) s.table.entries =
      ap (λ (nodes : Nodes). map (held_entry now) nodes.entries) remain ∙ seen_marked parts.reach now now s.table.entries in
      let remains : filter (stays now) s.table.entries ≡ s.table.entries = ap (λ (nodes : Nodes). nodes.entries) ((laws.forgetting now s.table).1 none) in
      record {
        heard = parts.heard;
        lasting = parts.lasting;
        young = parts.young;
        reached = reached parts.reach parts.net parts.ran.held parts.again parts.first parts.second again_is seen;
        kept = none;
        rests = rests parts.reach parts.net parts.ran.held parts.again parts.first parts.second again_is seen remains parts.ran parts.is_assigned held_is parts.untaken;
        ports = undue_ports;
      }

pub idle_undue : IdleLaws → IdleIsUndue
idle_undue laws s now router begun (after, tick, same, came_none) =
    still_by laws s now router begun after (tick_of_nothing laws s now router begun after tick came_none) came_none same

pub nothing_came_undue : IdleLaws → TickOfNothingIsUndue
nothing_came_undue laws s now after router begun tick came_none left = still_from laws s now router begun after tick came_none left.reach left.held left.kept left.ports

-- ---- a tick that ran

-- over no words a tick has one result
pub one_tick : IsSole IsTick → (r a b : Running) → IsTick r a → IsTick r b → CameToNothing a → CameToNothing b → a ≡ b
one_tick sole r a b h k nothing_came_a nothing_came_b =
    let words_a : a.done.words ≡ [] = ap (λ (d : Done). d.words) nothing_came_a in
    let words_b : b.done.words ≡ [] = ap (λ (d : Done). d.words) nothing_came_b in
    let stream : ℕ → ℕ = λ i. 0 in
    let none : Begins [] stream = λ i less. absurd (omega arith) in
    sole.one stream r a b h k (subst (λ (words : List ℕ). Begins words stream) (sym words_a) none) (subst (λ (words : List ℕ). Begins words stream) (sym words_b) none)

-- so one that ran where each part leaves the router as it is did nothing
pub ran_idle : UndueIsIdle → IsSole IsTick → (s : State) (now : ℕ) (after : Running) → IsRouter s → s.moment ≤ now → IsTick (begun_at now s) after
    → after.done ≡ nothing → IsRouterUndue now s → after.state ≡ at_moment now s
ran_idle is_idle sole s now after router begun tick came_none still =
    let (other, other_tick, same, other_nothing_came) = is_idle s now router begun still in
    ap (λ (r : Running). r.state) (one_tick sole (begun_at now s) after other tick other_tick came_none other_nothing_came) ∙ same

pub is_idle_where_left : UndueIsIdle → IdleIsUndue → TickOfNothingIsUndue → IsSole IsTick → (s : State) (now : ℕ) (after : Running) → IsRouter s
    → s.moment ≤ now → IsTick (begun_at now s) after → after.done ≡ nothing
    → IsLeft now s after.state ↔ ((after.state ≡ at_moment now s) × (after.done ≡ nothing))
is_idle_where_left is_idle is_router_undue nothing_came_is_undue sole s now after router begun tick came_none = (
  λ left. (ran_idle is_idle sole s now after router begun tick came_none (nothing_came_is_undue s now after router begun tick came_none left), came_none),
  λ (same, _). let still = is_router_undue s now router begun (after, tick, same, came_none) in
      record { reach = ap (λ (x : State). x.reach) same; held = ap (λ (x : State). x.held) same; kept = still.kept; ports = still.ports },
)

-- ---- until something is due

pub idle_until : UndueIsIdle → IdleIsUndue → UndueStays → NextDueStays → IdleUntilDue
idle_until is_idle is_router_undue stays_still stays_due s later due router begun before idle next =
    let still = is_router_undue s s.moment router (omega arith) idle in
    let still_later = stays_still s s.moment later router (omega arith) begun still (λ m is after. let first = next.least m is after in omega (arith, first, before)) in
    (is_idle s later router begun still_later, stays_due s s.moment later due router (omega arith) begun before next)

pub idle_while : UndueIsIdle → IdleIsUndue → UndueStays → HeldIsOfAnEntry → EndsOfLater → IdleWhileUndue
idle_while is_idle is_router_undue stays_undue known ends s later until router begun before idle undue =
    let now_undue = is_router_undue s s.moment router (omega arith) idle in
    let later_undue = stays_undue s s.moment later router (omega arith) begun now_undue (λ m is after. let first = undue m is after in omega (arith, first, before)) in (
      is_idle s later router begun later_undue,
      λ m is after. undue m ((due_later known s s.moment later router.well.past (omega arith) begun ends m after).1 is) (omega (arith, begun, after)),
    )
