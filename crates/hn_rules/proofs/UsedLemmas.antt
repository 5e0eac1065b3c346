-- What a router used and wanted where a tick assigned prefixes, by what it uses and wants afterwards.
use Rattle.hn_base.proofs.Names.{◌≡◌, ◌≢◌, ◌∙◌, ◌↔◌, ◌⊎◌, ◌-◌, ◌*◌, ◌^◌, ◌<◌, ◌≤◌, ℕ, List, map, Bool, true, false, cond, Option, Some, None, Contains, inl, inr, refl, sym, ap, subst, arith, cases_lt}
use Rattle.hn_base.proofs.Names.{leb-false, ne_eqb, PlainPrefix}
use Rattle.hn_rules.proofs.Names.{nat_le, slice_get, Contains-map, Contains-from_map, any_from, contains_at, part_at, part_stands, NodeId, PlainView, IsPreferred, remaining, IsAnnouncedPrefix}
use Rattle.hn_rules.proofs.Names.{AreUsable, IsUnwanted, prefixes_of, Delegated, has_ended, seconds_left, links_of, PlainData, has_ended_one, ArePorts, endpoints_of, OwnItems, OwnPrefix, marked_node}
use Rattle.hn_rules.proofs.Names.{HeldNode, Running, State, KeepsRouter, RouterStaysLater, RefreshMakesRouter, AssigningKeeps, held_entry, own_items, network_state_hash, IsPortReset, IsPublishing}
use Rattle.hn_rules.proofs.Names.{IsHashing, IsRefresh, IsUntouched, IsJustRefreshed, IsRouter, AtPort, seen_by, at_moment, IsKeptUndue, forgetting, IsPortTick, IsPortsTick, IsTick}
use Rattle.hn_deleg.specs.Candidates.{SameCandidatesSameUsed, PreferredIsAnnounced, PreferredWasSo}
use Rattle.hn_rules.specs.KeptAtRest.{UsedWhereAssigned}
use Rattle.hn_rules.proofs.Announcing.{AnnouncingLaws, AreTwins, Lives, candidate_too, preferred_too}
use Rattle.hn_rules.proofs.NothingKeptIsDue.{CalmLaws, start, forgot, nothing_lost, just_refreshed_forgot, same_view}
use Rattle.hn_rules.proofs.SeenWhileTimePasses.{view_later}
use Rattle.hn_rules.proofs.Leads.{keeps_each}
use Rattle.hn_rules.proofs.Refreshes.{Kept, kept_self, keeps_kept_at, refreshed_refresh, just_refreshed_untouched, reset_keeps, tick_keeps, untouched_same}

-- ---- lifetimes

-- what is left of a lifetime in seconds that does not last for ever
left_is : (age seconds : ℕ) → seconds ≢ 4294967295 → remaining age seconds ≡ 1000 * seconds - age
left_is age seconds other = ap (λ (b : Bool). cond b (2 ^ 64 - 1) (1000 * seconds - age)) (ne_eqb seconds 4294967295 other)

-- data published now say it only of a lifetime that has not ended
not_ended : (now : ℕ) (end : Option ℕ) → 0 < remaining 0 (seconds_left now end) → has_ended now end ≡ false
not_ended now None lives = refl
not_ended now (Some end) lives = elim (cases_lt now end) [
  | inl after ↦ not_come (nat_le end now) refl after
  | inr past ↦
      let none : seconds_left now (Some end) ≡ 0 = omega (arith, past) in
      let left = left_is 0 (seconds_left now (Some end)) (omega (arith, none)) in
      absurd (omega (arith, none, left, lives))
]
  where
    not_come : (b : Bool) → nat_le end now ≡ b → now < end → b ≡ false
    not_come false is after = refl
    not_come true is after = absurd (grind (arith, is, after))

-- and data that are younger than 2^32 - 2^16 ms say it of each
still_left : (born now : ℕ) (end : Option ℕ) → born ≤ now → now - born < 2 ^ 32 - 2 ^ 16 → has_ended now end ≡ false → 0 < remaining (now - born) (seconds_left born end)
still_left born now None before young lasts = omega arith
still_left born now (Some end) before young lasts =
    let after : now < end = leb-false end now lasts in
    let seconds = seconds_left born (Some end) in
    let fewer : seconds ≢ 4294967295 = omega arith in
    let left = left_is (now - born) seconds fewer in
    let enough : now - born < 1000 * seconds = omega (arith, after, before, young) in
    omega (arith, left, enough)

none_ended : (now : ℕ) (list : List OwnPrefix) → has_ended_one now list ≡ false → (own : OwnPrefix) → Contains list own → has_ended now own.valid_until ≡ false
none_ended now list none own there = by_test (has_ended now own.valid_until) refl
  where
    by_test : (b : Bool) → has_ended now own.valid_until ≡ b → b ≡ false
    by_test false is = refl
    by_test true is = let one = any_from (λ (p : OwnPrefix). has_ended now p.valid_until) list own there is in absurd cc

-- ---- rules keep the identifier

-- a refresh, after what it publishes
record IsLeft (before after : State) : Type 0 where
  pub net : List ℕ
  pub untouched : IsUntouched (record before { net = net }) after

hashing_leaves : (r a : Running) → ArePorts r.state.ports → IsHashing r a → IsLeft r.state a.state
hashing_leaves r a are (inl (same, is)) = record { net = r.state.net; untouched = untouched_same r.state a.state (ap (λ (x : Running). x.state) is) }
hashing_leaves r a are (inr (other, resets)) =
    let hashed : Running = record r { state = record r.state { net = network_state_hash r.state } } in
    let kept : Kept hashed.state a = keeps_each (Kept hashed.state) (λ at. AtPort at IsPortReset)
    (λ at. keeps_kept_at hashed.state at IsPortReset reset_keeps) (endpoints_of r.state.ports) hashed a resets (kept_self hashed.state are) in
    record { net = network_state_hash r.state; untouched = kept.untouched }

ticks_leave : (r a : Running) → ArePorts r.state.ports → IsPortsTick r a → IsUntouched r.state a.state
ticks_leave r a are ticks =
    let kept : Kept r.state a = keeps_each (Kept r.state) (λ at. AtPort at IsPortTick) (λ at. keeps_kept_at r.state at IsPortTick tick_keeps)
    (endpoints_of r.state.ports) r a ticks (kept_self r.state are) in
    kept.untouched

-- ---- what a tick publishes

-- the own data are as they were, or they are of this moment and of the own items
record IsPublishedFrom (before after : State) : Type 0 where
  pub gives : after ≡ record before { number = after.number; own = after.own }
  pub when : (after.own ≡ before.own) ⊎ ((after.own.born ≡ before.moment) × (after.own.items ≡ own_items before))

published_from : (r a : Running) → IsPublishing r a → IsPublishedFrom r.state a.state
published_from r a (inl (published, is)) =
    let same : a.state ≡ r.state = ap (λ (x : Running). x.state) is in
    subst (IsPublishedFrom r.state) (sym same) (record { gives = refl; when = inl refl })
published_from r a (inr (other, is)) =
    let same : a.state ≡ record r.state { number = a.state.number; own = is.own } = subst (λ (x : Running). x.state ≡ record r.state { number = x.state.number; own = is.own }) (sym is.gives) refl in
    let own : a.state.own ≡ is.own = ap (λ (x : State). x.own) same in
    record {
      gives = same ∙ ap (λ (data_is : PlainData). let x : State = record r.state { number = a.state.number; own = data_is } in x) (sym own);
      when = inr (ap (λ (x : PlainData). x.born) own ∙ is.born_is, ap (λ (x : PlainData). x.items) own ∙ is.items_are);
    }

pub record UsedLaws : Type 0 where
  pub calm : CalmLaws
  pub announcing : AnnouncingLaws
  pub used : SameCandidatesSameUsed
  pub preferred : PreferredIsAnnounced
  pub was : PreferredWasSo
  pub later : RouterStaysLater
  pub forgetting : KeepsRouter (λ b a. a ≡ forgetting b)
  pub assigning : AssigningKeeps
  pub refreshing : RefreshMakesRouter
  pub ticking : KeepsRouter IsPortsTick

module _ (laws : UsedLaws) (s : State) (now : ℕ) (router : IsRouter s) (begun : s.moment ≤ now) (quiet : IsKeptUndue now s) where
  abbrev before : State
  before = forgot laws.calm s now router begun quiet

  before_router : IsRouter before
  before_router =
      let r = start laws.calm s now router begun quiet in
      laws.forgetting r (forgetting r) refl (laws.later now s router begun)

  before_refreshed : IsJustRefreshed before
  before_refreshed = just_refreshed_forgot laws.calm s now router begun quiet

  -- what a tick leaves, as far as others and the router itself see it announced
  record IsAfter (after : State) : Type 0 where
    pub router_is : IsRouter after
    pub fresh : IsJustRefreshed after
    pub id : after.id ≡ s.id
    pub moment : after.moment ≡ now
    pub links : after.own.items.links ≡ s.own.items.links
    pub delegated : after.own.items.delegated ≡ s.own.items.delegated
    pub reach : List NodeId
    pub table : after.table.entries ≡ map (marked_node reach now) before.table.entries
    pub when : (after.own ≡ s.own) ⊎ (after.own.born ≡ now)

  after_is : (after : Running) → IsTick (start laws.calm s now router begun quiet) after → IsAfter after.state
  after_is after (lost, losing, (forgetful, forgets, (settled, (assigned, assigns, (published, publishes, (reached, reaches, hashing))), ticks))) =
      let r = start laws.calm s now router begun quiet in
      let none : forgetful ≡ forgetting r = forgets ∙ ap forgetting (nothing_lost laws.calm s now router begun quiet lost losing) in
      let assigned_is : assigned.state ≡ record before { held = assigns.ran.held } =
      ap (λ (x : Running). x.state) assigns.gives ∙ ap (λ (x : Running). let y : State = record x.state { held = assigns.ran.held } in y) none in
      let forgetful_router : IsRouter forgetful.state = subst (λ (x : Running). IsRouter x.state) (sym none) before_router in
      let assigned_well = laws.assigning forgetful assigned assigns forgetful_router in
      let refresh : IsRefresh assigned settled = (published, publishes, (reached, reaches, hashing)) in
      let settled_router = laws.refreshing assigned settled refresh assigned_well in
      let settled_refreshed = refreshed_refresh assigned settled refresh assigned_well.ports in
      let ticked = ticks_leave settled after settled_router.well.ports ticks in
      let from = published_from assigned published publishes in
      let published_is : published.state ≡ record before { held = assigns.ran.held; number = published.state.number; own = published.state.own } =
      from.gives ∙ ap (λ (x : State). let y : State = record x { number = published.state.number; own = published.state.own } in y) assigned_is in
      let reached_is : reached.state ≡ record published.state { reach = reaches.reach; table = reached.state.table } =
      subst (λ (x : Running). x.state ≡ record published.state { reach = reaches.reach; table = x.state.table }) (sym reaches.gives) refl in
      let table_is : reached.state.table.entries ≡ map (marked_node reaches.reach published.state.moment) published.state.table.entries = ap (λ (x : Running). x.state.table.entries) reaches.gives in
      let ports_are : reached.state.ports ≡ s.ports = ap (λ (x : State). x.ports) reached_is ∙ ap (λ (x : State). x.ports) published_is in
      let hashed = hashing_leaves reached settled (subst ArePorts (sym ports_are) router.well.ports) hashing in
      let whole : after.state ≡ record reached.state { net = hashed.net; ports = after.state.ports } =
      ticked.gives ∙ ap (λ (x : State). let y : State = record x { ports = after.state.ports } in y) hashed.untouched.gives in
      let own_is : after.state.own ≡ published.state.own = ap (λ (x : State). x.own) whole ∙ ap (λ (x : State). x.own) reached_is in
      record {
        router_is = laws.ticking settled after ticks settled_router;
        fresh = just_refreshed_untouched settled.state after.state ticked settled_refreshed;
        id = ap (λ (x : State). x.id) whole ∙ ap (λ (x : State). x.id) reached_is ∙ ap (λ (x : State). x.id) published_is;
        moment = ap (λ (x : State). x.moment) whole ∙ ap (λ (x : State). x.moment) reached_is ∙ ap (λ (x : State). x.moment) published_is;
        links = ap (λ (x : PlainData). x.items.links) own_is ∙ by_links assigned.state published.state (ap (λ (x : State). x.own) assigned_is) (ap (λ (x : State). x.ports) assigned_is) from.when;
        delegated = ap (λ (x : PlainData). x.items.delegated) own_is
            ∙ by_delegated assigned.state published.state (ap (λ (x : State). x.own) assigned_is) (ap (λ (x : State). x.delegated) assigned_is) from.when;
        reach = reaches.reach;
        table =
            ap (λ (x : State). x.table.entries) whole ∙ table_is
            ∙ ap (λ (m : ℕ). map (marked_node reaches.reach m) published.state.table.entries) (ap (λ (x : State). x.moment) published_is)
            ∙ ap (λ (nodes : List HeldNode). map (marked_node reaches.reach now) nodes) (ap (λ (x : State). x.table.entries) published_is);
        when = elim from.when [
          | inl same ↦ inl (own_is ∙ same ∙ ap (λ (x : State). x.own) assigned_is)
          | inr (born, items) ↦ inr (ap (λ (x : PlainData). x.born) own_is ∙ born ∙ ap (λ (x : State). x.moment) assigned_is)
        ];
      }
    where
      by_links : (m p : State) → m.own ≡ s.own → m.ports ≡ s.ports → (p.own ≡ m.own) ⊎ ((p.own.born ≡ m.moment) × (p.own.items ≡ own_items m)) → p.own.items.links ≡ s.own.items.links
      by_links m p own ports (inl same) = ap (λ (x : PlainData). x.items.links) (same ∙ own)
      by_links m p own ports (inr (born, items)) = ap (λ (x : OwnItems). x.links) items ∙ ap links_of ports ∙ ap (λ (x : OwnItems). x.links) router.refreshed.published

      by_delegated : (m p : State) → m.own ≡ s.own → m.delegated ≡ s.delegated → (p.own ≡ m.own)
          ⊎ ((p.own.born ≡ m.moment) × (p.own.items ≡ own_items m)) → p.own.items.delegated ≡ s.own.items.delegated
      by_delegated m p own delegated (inl same) = ap (λ (x : PlainData). x.items.delegated) (same ∙ own)
      by_delegated m p own delegated (inr (born, items)) = ap (λ (x : OwnItems). x.delegated) items ∙ delegated ∙ ap (λ (x : OwnItems). x.delegated) router.refreshed.published

  module _ (after : State) (is : IsAfter after) where
    twins : AreTwins before after
    twins = record {
      router = before_router;
      other_router = is.router_is;
      fresh = before_refreshed;
      other_refreshed = is.fresh;
      id = is.id;
      moment = is.moment;
      links = is.links;
      delegated = is.delegated;
      holds = λ node there. (
        marked_node is.reach now node,
        subst (λ (nodes : List HeldNode). Contains nodes (marked_node is.reach now node))
            (sym is.table) (Contains-map (marked_node is.reach now) before.table.entries node there),
        refl,
      );
    }

    twins_back : AreTwins after before
    twins_back = record {
      router = is.router_is;
      other_router = before_router;
      fresh = is.fresh;
      other_refreshed = before_refreshed;
      id = sym is.id;
      moment = sym is.moment;
      links = sym is.links;
      delegated = sym is.delegated;
      holds = λ node there.
          let found = Contains-from_map (marked_node is.reach now) before.table.entries node (subst (λ (nodes : List HeldNode). Contains nodes node) is.table there) in
          (found.0, found.1, ap (held_entry after.moment) found.2);
    }

    born_before : s.own.born ≤ now
    born_before = let past = router.well.past.born in omega (arith, past, begun)

    own_lasts : (own : OwnPrefix) → Contains s.own.items.delegated own → has_ended now own.valid_until ≡ false
    own_lasts own there = none_ended now s.delegated quiet.lasting own
        (subst (λ (list : List OwnPrefix). Contains list own) (sym (ap (λ (x : OwnItems). x.delegated) router.refreshed.published)) there)

    -- where the data are the same
    same_left : (end : OwnPrefix → Option ℕ) → after.own ≡ s.own → (own : OwnPrefix)
        → remaining (after.moment - after.own.born) (seconds_left after.own.born (end own)) ≡ remaining (now - s.own.born) (seconds_left s.own.born (end own))
    same_left end same own =
        ap (λ (m : ℕ). remaining (m - after.own.born) (seconds_left after.own.born (end own))) is.moment
        ∙ ap (λ (x : PlainData). remaining (now - x.born) (seconds_left x.born (end own))) same

    -- where they are of this moment
    new_left : (end : OwnPrefix → Option ℕ) → after.own.born ≡ now → (own : OwnPrefix)
        → remaining (after.moment - after.own.born) (seconds_left after.own.born (end own)) ≡ remaining 0 (seconds_left now (end own))
    new_left end born own =
        let none : after.moment - after.own.born ≡ 0 = (let moment = is.moment in omega (arith, moment, born)) in
        ap (λ (age : ℕ). remaining age (seconds_left after.own.born (end own))) none ∙ ap (λ (b : ℕ). remaining 0 (seconds_left b (end own))) born

    lives_back : (end : OwnPrefix → Option ℕ) → Lives end after before
    lives_back end own there left = elim is.when [
      | inl same ↦ subst (λ (n : ℕ). 0 < n) (same_left end same own) left
      | inr born ↦ still_left s.own.born now (end own) born_before quiet.young (not_ended now (end own) (subst (λ (n : ℕ). 0 < n) (new_left end born own) left))
    ]

    lives_on : Lives (λ own. own.valid_until) before after
    lives_on own there left = elim is.when [
      | inl same ↦ subst (λ (n : ℕ). 0 < n) (sym (same_left (λ (o : OwnPrefix). o.valid_until) same own)) left
      | inr born ↦
          let now_left : 0 < remaining (now - now) (seconds_left now own.valid_until) = still_left now now own.valid_until (omega arith) (omega arith) (own_lasts own there) in
          let none : now - now ≡ 0 = omega arith in
          subst (λ (n : ℕ). 0 < n) (sym (new_left (λ (o : OwnPrefix). o.valid_until) born own)) (subst (λ (age : ℕ). 0 < remaining age (seconds_left now own.valid_until)) none now_left)
    ]

    same_candidates : (p : PlainPrefix) → IsAnnouncedPrefix (seen_by before) p ↔ IsAnnouncedPrefix (seen_by after) p
    same_candidates p = (candidate_too laws.announcing before after twins lives_on p, candidate_too laws.announcing after before twins_back (lives_back (λ (o : OwnPrefix). o.valid_until)) p)

    was_preferred : (p : PlainPrefix) → IsPreferred (seen_by after) p → IsPreferred (seen_by before) p
    was_preferred p = preferred_too laws.announcing after before twins_back (lives_back (λ (o : OwnPrefix). o.valid_until)) (lives_back (λ (o : OwnPrefix). o.preferred_until)) p

    module _ (was at then_used : List Delegated) (are_was : AreUsable (seen_by s) was) (are_at : AreUsable (seen_by (at_moment now s)) at) (are_then : AreUsable (seen_by after) then_used)
        (same : prefixes_of was ≡ prefixes_of then_used) (unwanted : (place : ℕ) → IsUnwanted was place → IsUnwanted then_used place) where
      view_is : seen_by before ≡ seen_by (at_moment now s)
      view_is = same_view laws.calm s now router begun quiet

      are_before : AreUsable (seen_by before) at
      are_before = subst (λ (view : PlainView). AreUsable view at) (sym view_is) are_at

      at_then : prefixes_of at ≡ prefixes_of then_used
      at_then = laws.used (seen_by before) (seen_by after) at then_used same_candidates are_before are_then

      used_at : prefixes_of at ≡ prefixes_of was
      used_at = at_then ∙ sym same

      -- one that had ended has ended
      still_ended : (u v : Delegated) → Contains was u → Contains at v → v.prefix ≡ u.prefix → u.preferred ≡ 0 → v.preferred ≡ 0
      still_ended u v u_in v_in prefix ended = elim (cases_lt 0 v.preferred) [
        | inl some ↦
            let later = (laws.preferred (seen_by (at_moment now s)) at v are_at v_in).0 some in
            let early : IsPreferred (seen_by s) v.prefix = laws.was (seen_by s) (seen_by (at_moment now s)) v.prefix
            (view_later laws.announcing.known s s.moment now router.well.past (omega arith) begun) later in
            let left = (laws.preferred (seen_by s) was u are_was u_in).1 (subst (IsPreferred (seen_by s)) prefix early) in
            absurd (omega (arith, left, ended))
        | inr none ↦ omega (arith, none)
      ]

      -- one that has not ended afterwards had not ended there
      had_left : (u : Delegated) → Contains then_used u → 0 < u.preferred → (v : Delegated) × Contains at v × (0 < v.preferred)
      had_left u u_in some =
          let p = was_preferred u.prefix ((laws.preferred (seen_by after) then_used u are_then u_in).0 some) in
          let among : Contains (prefixes_of at) u.prefix = subst (λ (ps : List PlainPrefix). Contains ps u.prefix) (sym at_then) (Contains-map (λ (x : Delegated). x.prefix) then_used u u_in) in
          let found = Contains-from_map (λ (x : Delegated). x.prefix) at u.prefix among in
          (found.0, found.1, (laws.preferred (seen_by before) at found.0 are_before found.1).1 (subst (IsPreferred (seen_by before)) (sym found.2) p))

      unwanted_at : (place : ℕ) → IsUnwanted was place → IsUnwanted at place
      unwanted_at place un =
          let after_un = unwanted place un in
          let prefix_at : slice_get (prefixes_of at) place ≡ Some (un.deprecated).prefix =
          ap (λ (ps : List PlainPrefix). slice_get ps place) used_at ∙ part_stands (λ (x : Delegated). x.prefix) was place un.deprecated un.at in
          let (v, v_at, v_is) = part_at (λ (x : Delegated). x.prefix) at place (un.deprecated).prefix prefix_at in
          let (other, other_in, left) = had_left after_un.other after_un.in_list after_un.preferred in
          record {
            deprecated = v;
            at = v_at;
            ended = still_ended un.deprecated v (contains_at was place un.deprecated un.at) (contains_at at place v v_at) v_is un.ended;
            other = other;
            in_list = other_in;
            preferred = left;
          }

pub used_where_assigned : UsedLaws → UsedWhereAssigned
used_where_assigned laws now s after was at then_used router begun quiet tick are_was are_at are_then same unwanted =
    let is = after_is laws s now router begun quiet after tick in (
      used_at laws s now router begun quiet after.state is was at then_used are_was are_at are_then same unwanted,
      unwanted_at laws s now router begun quiet after.state is was at then_used are_was are_at are_then same unwanted,
    )
