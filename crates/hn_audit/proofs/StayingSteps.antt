-- A settled and quiet router stays so when time passes, and when a router ticks.
use Rattle.hn_base.proofs.Names.{◌≡◌, ◌≢◌, ◌∙◌, ◌⊎◌, ℕ, zero, suc, Bool, cond, get_or, List, [], ◌∷◌, Some, slice_get, inl, inr, refl, sym, ap, subst, arith, ◌==◌, ◌&&◌, count_by, cases_eq}
use Rattle.hn_base.proofs.Names.{All-contains, sum_by-set, get_or_from_slice_get, same_Some, slice_get_within}
use Rattle.hn_audit.proofs.Names.{slice_set, NodeId, Name, PlainView, AreUsable, Done, Note, Running, State, IsKeptAtRest, begun_at, seen_by, IsTick, Tick, MomentIsNow, Traced, WEvent, Member, Parts}
use Rattle.hn_audit.proofs.Names.{WorldHasItsTrace, WorldHasItsVersion, IsReplayed, IsSoundMember, Does, IsQuietByRules, runs_as, IsRunning, IsReached, UseSame, IsSettledByRules, IsMemberAt, IsCalmTick}
use Rattle.hn_audit.proofs.Names.{KeepAssignments}
use Rattle.hn_rules.specs.KeptAtRest.{KeepsId}
use Rattle.hn_router.specs.Act.{Happened}
use Rattle.hn_world.specs.declared.event.WEvent.TheVariants as event
use Rattle.hn_world.specs.Laws.{EachEventIsAStep}
use Rattle.hn_world.specs.Step.{Step}
use Rattle.hn_audit.specs.Calm.{QuietStaysOverDeliveries}
use Rattle.hn_audit.specs.Staying.{QuietStays, QuietHomesStay, QuietHomesAlwaysStay}
use Rattle.hn_audit.proofs.BridgeSets.{itself}
use Rattle.hn_audit.proofs.BridgeWorlds.{WorldLaws, known_of}
use Rattle.hn_audit.proofs.FrontWorlds.{replayed}
use Rattle.hn_audit.proofs.StayingRests.{RestLaws, kept_at_rest, rests_next}
use Rattle.hn_audit.proofs.StayingSets.{IsKept, IsSeenAsBefore, AreSeenAsBefore, settled_now, quiet_now, kept_now}

-- ---- an element in place of another

pub put_there : {A : Type 0} (xs : List A) (i : ℕ) (x y : A) → slice_get xs i ≡ Some x → slice_get (slice_set xs i y) i ≡ Some y
put_there [] i x y at = absurd cc
put_there (z ∷ zs) zero x y at = refl
put_there (z ∷ zs) (suc i) x y at = put_there zs i x y at

pub put_elsewhere : {A : Type 0} (xs : List A) (i k : ℕ) (y : A) → k ≢ i → slice_get (slice_set xs i y) k ≡ slice_get xs k
put_elsewhere [] i k y other = refl
put_elsewhere (z ∷ zs) zero zero y other = absurd (other refl)
put_elsewhere (z ∷ zs) zero (suc k) y other = refl
put_elsewhere (z ∷ zs) (suc i) zero y other = refl
put_elsewhere (z ∷ zs) (suc i) (suc k) y other = put_elsewhere zs i k y (λ same. other (ap (λ (n : ℕ). suc n) same))

pub count_put : {A : Type 0} (p : A → Bool) (xs : List A) (i : ℕ) (x y : A) → slice_get xs i ≡ Some x → p y ≡ p x → count_by p (slice_set xs i y) ≡ count_by p xs
count_put {A} p xs i x y at same =
    let f = λ (z : A). cond (p z) 1 0 in
    let whole = sum_by-set f xs i y x (slice_get_within xs i x at) in
    let was : f (get_or xs i x) ≡ f x = ap f (get_or_from_slice_get xs i x x at) in
    let now : f y ≡ f x = ap (λ (b : Bool). cond b 1 0) same in
    omega (arith, whole, was, now)

-- ---- time passes

module _ (before after : Parts) (same : after.members ≡ before.members) (r : Member) (settled : IsSettledByRules before r) (quiet : IsQuietByRules before r) where
  same_at : (place : ℕ) → slice_get after.members place ≡ slice_get before.members place
  same_at place = ap (λ (members : List Member). slice_get members place) same

  itself_at : (place : ℕ) (m next : Member) → IsMemberAt place before after m next → m ≡ next
  itself_at place m next at = same_Some m next (sym at.was ∙ sym (same_at place) ∙ at.is)

  still_itself : (m : Member) → IsReached before r m → IsSeenAsBefore m.router m.router
  still_itself m is = record { number = refl; own = refl; reach = refl; known = λ id there. refl; used = settled.used m m is is; assigned = refl; rests = quiet m is }

  pub still_later : AreSeenAsBefore before after r
  still_later = record {
    kept = λ place m next at. subst (IsKept m) (itself_at place m next at) (record { running = refl; attachments = refl; id = refl });
    still = λ place m next at is. subst (λ (n : Member). IsSeenAsBefore m.router n.router) (itself_at place m next at) (still_itself m is);
    was = λ place next at. (next, record { was = sym (same_at place) ∙ at; is = at });
    count = λ id. ap (count_by (runs_as id)) same;
  }

-- ---- a router ticks

module _ (before after : Parts) (place : ℕ) (x : Member) (n : State) (there : slice_get before.members place ≡ Some x)
    (gives : after.members ≡ slice_set before.members place (record x { router = n }))
    (r : Member) (settled : IsSettledByRules before r) (quiet : IsQuietByRules before r) where
  abbrev next_x : Member
  next_x = record x { router = n }

  pub now_there : slice_get after.members place ≡ Some next_x
  now_there = ap (λ (members : List Member). slice_get members place) gives ∙ put_there before.members place x next_x there

  pub now_elsewhere : (k : ℕ) → k ≢ place → slice_get after.members k ≡ slice_get before.members k
  now_elsewhere k other = ap (λ (members : List Member). slice_get members k) gives ∙ put_elsewhere before.members place k next_x other

  -- the router at a place is the one that ticks, or one that does not
  pub which : (k : ℕ) (m next : Member) → IsMemberAt k before after m next → ((m ≡ x) × (next ≡ next_x)) ⊎ (m ≡ next)
  which k m next at = elim (cases_eq k place) [
    | inl is ↦ inl (
      same_Some m x (sym at.was ∙ ap (slice_get before.members) is ∙ there),
      same_Some next next_x (sym at.is ∙ ap (slice_get after.members) is ∙ now_there),
    )
    | inr other ↦ inr (same_Some m next (sym at.was ∙ sym (now_elsewhere k other) ∙ at.is))
  ]

  module _ (id : n.id ≡ x.router.id) (x_still : IsReached before r x → IsSeenAsBefore x.router n) where
    kept_tick : (k : ℕ) (m next : Member) → IsMemberAt k before after m next → IsKept m next
    kept_tick k m next at = elim (which k m next at) [
      | inl (was, is) ↦
          let kept : IsKept x next_x = record { running = refl; attachments = refl; id = id } in
          subst (λ (a : Member). IsKept a next) (sym was) (subst (IsKept x) (sym is) kept)
      | inr same ↦ subst (IsKept m) same (record { running = refl; attachments = refl; id = refl })
    ]

    undue_tick : (k : ℕ) (m next : Member) → IsMemberAt k before after m next → IsReached before r m → IsSeenAsBefore m.router next.router
    undue_tick k m next at reached = elim (which k m next at) [
      | inl (was, is) ↦
          let still : IsSeenAsBefore x.router n = x_still (subst (IsReached before r) was reached) in
          subst (λ (a : Member). IsSeenAsBefore a.router next.router) (sym was) (subst (λ (b : Member). IsSeenAsBefore x.router b.router) (sym is) still)
      | inr same ↦
          let still : IsSeenAsBefore m.router m.router =
          record { number = refl; own = refl; reach = refl; known = λ id there. refl; used = settled.used m m reached reached; assigned = refl; rests = quiet m reached }
          in
          subst (λ (b : Member). IsSeenAsBefore m.router b.router) same still
    ]

    was_tick : (k : ℕ) (next : Member) → slice_get after.members k ≡ Some next → (m : Member) × IsMemberAt k before after m next
    was_tick k next at = elim (cases_eq k place) [
      | inl is ↦ (x, record { was = ap (slice_get before.members) is ∙ there; is = at })
      | inr other ↦ (next, record { was = sym (now_elsewhere k other) ∙ at; is = at })
    ]

    pub tick_undue : AreSeenAsBefore before after r
    tick_undue = record {
      kept = kept_tick;
      still = undue_tick;
      was = was_tick;
      count = λ some. ap (count_by (runs_as some)) gives ∙ count_put (runs_as some) before.members place x next_x there (ap (λ (i : NodeId). x.running && i.0 == some.0) id);
    }

-- what a tick of a router is
pub record IsTicked (now : ℕ) (s next : State) : Type 0 where
  pub after : Running
  pub tick : IsTick (begun_at now s) after
  pub due : ℕ
  pub is : next ≡ record after.state { due = due }

pub ticked : (now : ℕ) (s next : State) (done : Done) → Happened now Tick s next done → IsTicked now s next
unfolding Happened
ticked now s next done (after, inl (refused, _), _, _) = absurd cc
ticked now s next done (after, inr (_, tick), (due, _, is), _) = record { after = after; tick = tick; due = due; is = is }

-- the laws of the crates below on which it rests
pub record StayLaws : Type 0 where
  pub worlds : WorldLaws
  pub rests : RestLaws
  pub id : KeepsId IsTick
  pub moment : MomentIsNow

module _ (laws : StayLaws) (before after : Parts) (replays : IsReplayed before) (place : ℕ) (r next : Member) (here : IsMemberAt place before after r next)
    (runs : IsRunning before r) (settled : IsSettledByRules before r) (quiet : IsQuietByRules before r) where
  -- where the set is still, the router stays
  pub stays_where_still : AreSeenAsBefore before after r → IsSettledByRules after next × IsQuietByRules after next × KeepAssignments before after r next
  stays_where_still are =
      let self = itself before r (known_of laws.worlds before r replays runs settled) in (
        settled_now laws.rests.unique before after r next place here are self settled,
        quiet_now laws.rests.unique before after r next place here are self settled,
        kept_now laws.rests.unique before after r next place here are self settled,
      )

  -- a router of the set whose tick is calm is still
  module _ (x : Member) (n : State) (done : Done) (reached : IsReached before r x) (happened : Happened before.moment Tick x.router n done) (calm_tick : IsCalmTick before.moment x.router n) where
    pub x_still : IsSeenAsBefore x.router n
    x_still =
        let now = before.moment in
        let s = x.router in
        let sound = All-contains (IsSoundMember now) before.members x (laws.worlds.sound before replays) reached.runs.there in
        let run = ticked now s n done happened in
        let used = calm_tick.used in
        let seen : seen_by n ≡ seen_by run.after.state = ap seen_by run.is in
        let same : UseSame s run.after.state = record {
          one = used.one;
          is_one = used.is_one;
          other = used.other;
          is_other = subst (λ (view : PlainView). AreUsable view used.other) seen used.is_other;
          same = used.same;
        } in
        let rest = quiet x reached in
        let was = kept_at_rest laws.rests now s sound.router sound.past calm_tick.undue rest run.after run.tick same in
        let with_due : IsKeptAtRest s (record run.after.state { due = run.due }) = record {
          id = was.id;
          number = was.number;
          own = was.own;
          private = was.private;
          endpoints = was.endpoints;
          reach = was.reach;
          known = was.known;
          assigned = was.assigned;
        } in
        let left : IsKeptAtRest s n = subst (IsKeptAtRest s) (sym run.is) with_due in
        let moment = laws.moment now Tick s n done happened in
        record {
          number = left.number;
          own = left.own;
          reach = left.reach;
          known = left.known;
          used = used;
          assigned = left.assigned;
          rests = rests_next laws.rests now s sound.router sound.past calm_tick.undue rest run.after run.tick same n used left moment;
        }

-- a router ticks, and if it is of the set, the tick is calm
stays_tick : StayLaws → (name : Name) (words : List ℕ) (notes : List Note) (before between after : Parts) → IsReplayed before → after.members ≡ between.members
    → Does (event.Tick name) words notes before between → QuietStays (event.Tick name) before after
stays_tick laws name words notes before between after replays same does place r next here runs settled quiet calm =
    let acts = does.acts in
    let x = acts.member in
    let n = acts.next in
    let gives : after.members ≡ slice_set before.members does.place (record x { router = n }) = same ∙ ap (λ (w : Parts). w.members) acts.gives in
    let run = ticked before.moment x.router n acts.done acts.happened in
    let id : n.id ≡ x.router.id = ap (λ (s : State). s.id) run.is ∙ laws.id (begun_at before.moment x.router) run.after run.tick in
    let at : IsMemberAt does.place before after x (record x { router = n }) = record {
      was = acts.is_member;
      is = ap (λ (members : List Member). slice_get members does.place) gives ∙ put_there before.members does.place x (record x { router = n }) acts.is_member;
    } in
    let still : IsReached before r x → IsSeenAsBefore x.router n = λ reached.
    x_still laws before after replays place r next here runs settled quiet x n acts.done reached acts.happened (calm does.place x (record x { router = n }) does.is_place at reached)
    in
    stays_where_still laws before after replays place r next here runs settled quiet (tick_undue before after does.place x n acts.is_member gives r settled quiet id still)

-- the laws of a quiet home, and that it stays over deliveries
stays_by : StayLaws → QuietStaysOverDeliveries → (event : WEvent) (words : List ℕ) (notes : List Note) (before after : Parts) → IsReplayed before
    → Step (record { event = event; words = words }) notes before after → QuietStays event before after
stays_by laws over (event.Time moment) words notes before after replays step place r next here runs settled quiet calm =
    let same : after.members ≡ before.members = ap (λ (w : Parts). w.members) step.gives ∙ ap (λ (w : Parts). w.members) step.does.gives in
    stays_where_still laws before after replays place r next here runs settled quiet (still_later before after same r settled quiet)
stays_by laws over (event.Tick name) words notes before after replays step place r next here runs settled quiet calm =
    stays_tick laws name words notes before step.between after replays (ap (λ (w : Parts). w.members) step.gives) step.does place r next here runs settled quiet calm
stays_by laws over (event.Deliver copy) words notes before after replays step place r next here runs settled quiet calm =
    over copy words notes before after replays step place r next here runs settled quiet calm
stays_by laws over _ words notes before after replays step place r next here runs settled quiet calm = absurd calm

pub quiet_stays : StayLaws → QuietStaysOverDeliveries → QuietHomesStay
quiet_stays laws over t notes before after replays step = stays_by laws over t.event t.words notes before after replays step

-- ---- over each event of a trace

pub always_stays : WorldHasItsTrace → WorldHasItsVersion → EachEventIsAStep → QuietHomesStay → QuietHomesAlwaysStay
always_stays traces versions steps stays w is past future t split =
    let (before, after, leads, leads_on, stepped) = steps w is past future t split in
    let traced : Traced = record { event = t.event; words = stepped.words } in
    (before, after, leads, leads_on, stays traced stepped.notes before after (replayed traces versions w.version past before leads) stepped.step)
