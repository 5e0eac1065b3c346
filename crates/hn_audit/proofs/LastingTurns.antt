-- A home that lasts until a moment is steady over turns until then.
use Rattle.hn_base.proofs.Names.{◌≡◌, ◌∙◌, ◌⊎◌, ◌<◌, ◌≤◌, ◌-◌, ◌+◌, ℕ, true, List, [], ◌∷◌, length, None, Some, slice_get, inl, inr, refl, sym, ap, subst, arith, All-contains, same_Some}
use Rattle.hn_base.proofs.Names.{slice_get-get_or}
use Rattle.hn_audit.proofs.Names.{IsTrue, slice_set, contains_at, Passing, Note, State, MailCopy, Traced, WEvent, Member, Parts, refusal, IsReplayed, IsSoundMember, Does, IsResting, origin_of}
use Rattle.hn_audit.proofs.Names.{AreHeardSince, ArePeersLinked, AreSendsHeardSince, GoesInTurns, GoesLossless, HasTicked, IsCalmSince, IsLosslessEvent, IsSteady, IsLastingUntil, IsReached, IsRunning}
use Rattle.hn_audit.proofs.Names.{UseSame, IsMemberAt, AreAgesUndue}
use Rattle.hn_world.specs.declared.event.WEvent.TheVariants as event
use Rattle.hn_audit.specs.Lasting.{GoesInTimelyTurns, GoesTimely, IsLastingHome, IsTimelyEvent, LastingGoesInTurns, TicksAmong}
use Rattle.hn_audit.proofs.AcceptedRuns.{receives_running, ticks_running}
use Rattle.hn_audit.proofs.BridgeWorlds.{known_of}
use Rattle.hn_audit.proofs.CalmDeliveries.{only_passing}
use Rattle.hn_audit.proofs.HeardOnwards.{none_has_expired}
use Rattle.hn_audit.proofs.LastingRouters.{LastsOn, UntilLaws, lasts_over_passing, lasts_over_tick, younger}
use Rattle.hn_audit.proofs.RestsOnwards.{GoesOn}
use Rattle.hn_audit.proofs.RoundsRenewed.{one_round, replays_all, rests_now, which_at}
use Rattle.hn_audit.proofs.StayingSteps.{put_there}
use Rattle.hn_audit.proofs.TurnsOfTicks.{TurnLaws, turns_over}
use Rattle.hn_audit.proofs.NextWorlds.{replays_more}

pub record LastingLaws : Type 0 where
  pub turns : TurnLaws
  pub until : UntilLaws

-- ---- one event

-- it is without loss, and each of the set lasts on
record LastsOver (until heard since : ℕ) (event : WEvent) (before after : Parts) (r : Member) : Type 0 where
  pub lossless : IsLosslessEvent heard since event before after r
  pub each : (k : ℕ) (m then : Member) → IsMemberAt k before after m then → IsReached before r m → IsLastingUntil until then.router

-- where no router changes
same_last : (until : ℕ) (before after : Parts) (r : Member) → after.members ≡ before.members → IsLastingHome until before r
    → (k : ℕ) (m then : Member) → IsMemberAt k before after m then → IsReached before r m → IsLastingUntil until then.router
same_last until before after r same home k m then at reached =
    let one : m ≡ then = same_Some m then (sym at.was ∙ ap (λ (members : List Member). slice_get members k) (sym same) ∙ at.is) in
    subst (λ (x : Member). IsLastingUntil until x.router) one (home.each m reached)

-- where one does
one_lasts : (until : ℕ) (before after : Parts) (a : ℕ) (m0 next_x : Member) → slice_get before.members a ≡ Some m0 → after.members ≡ slice_set before.members a next_x
    → (r : Member) → IsLastingHome until before r → IsLastingUntil until next_x.router
    → (k : ℕ) (m then : Member) → IsMemberAt k before after m then → IsReached before r m → IsLastingUntil until then.router
one_lasts until before after a m0 next_x there gives r home lasts k m then at reached = elim (which_at before after a m0 next_x there gives k m then at) [
  | inl (is, was, now) ↦ subst (λ (x : Member). IsLastingUntil until x.router) (sym now) lasts
  | inr (other, same) ↦ subst (λ (x : Member). IsLastingUntil until x.router) same (home.each m reached)
]

-- the routers of a place are these
these_at : (P : Member → Member → Type 0) (a : ℕ) (before after : Parts) (x next : Member) → IsMemberAt a before after x next → P x next
    → (y then : Member) → IsMemberAt a before after y then → P y then
these_at P a before after x next at holds y then there =
    subst (λ (m : Member). P m then) (same_Some x y (sym at.was ∙ there.was)) (subst (P x) (same_Some next then (sym at.is ∙ there.is)) holds)

lasts_by : LastingLaws → (until heard since : ℕ) (event : WEvent) (words : List ℕ) (notes : List Note) (before between after : Parts) → IsReplayed before
    → refusal before event ≡ None → after.members ≡ between.members → Does event words notes before between → (r : Member) → IsResting since before r
    → AreHeardSince heard before r → IsLastingHome until before r → IsTimelyEvent until heard since event before → LastsOver until heard since event before after r
lasts_by laws until heard since (event.Time moment) words notes before between after replays accepted same does r rest peers home timely =
    record { lossless = tt; each = same_last until before after r (same ∙ ap (λ (w : Parts). w.members) does.gives) home }
lasts_by laws until heard since (event.Drop copy) words notes before between after replays accepted same does r rest peers home timely =
    record { lossless = λ mail y there to reached. timely mail there; each = same_last until before after r (same ∙ ap (λ (w : Parts). w.members) does.quietly.gives) home }
lasts_by laws until heard since (event.Tick name) words notes before between after replays accepted same does r rest peers home timely =
    let acts = does.acts in
    let x = acts.member in
    let n = acts.next in
    let next_x : Member = record x { router = n } in
    let gives : after.members ≡ slice_set before.members does.place next_x = same ∙ ap (λ (w : Parts). w.members) acts.gives in
    let at_x : IsMemberAt does.place before after x next_x = record {
      was = acts.is_member;
      is = ap (λ (members : List Member). slice_get members does.place) gives ∙ put_there before.members does.place x next_x acts.is_member;
    } in
    let worlds = laws.turns.rounds.heard.resting.calm.stay.worlds in
    let among = contains_at before.members does.place x acts.is_member in
    let sound : IsSoundMember before.moment x = All-contains (IsSoundMember before.moment) before.members x (worlds.sound before replays) among in
    let reached : IsReached before r x = home.all x (record { there = among; running = ticks_running name before does.place x accepted does.is_place acts.is_member }) in
    let known = known_of worlds before r replays rest.runs rest.settled in
    let on : LastsOn until before.moment x.router n =
    lasts_over_tick laws.until until before.moment x.router sound.router sound.past timely.1 (rest.quiet x reached) (home.each x reached) n acts.done acts.happened
    (none_has_expired laws.turns.rounds.heard.interval before r known x reached heard before.moment peers timely.0) in
    record {
      lossless = λ place y then is there reached_y.
          let place_is : does.place ≡ place = same_Some does.place place (sym does.is_place ∙ is) in
          let here : IsMemberAt does.place before after y then = subst (λ (k : ℕ). IsMemberAt k before after y then) (sym place_is) there in
          these_at (λ (a b : Member). (before.moment < heard + 42000) × IsSteady before.moment a.router b.router) does.place before after x next_x at_x (timely.0, on.steady) y then here;
      each = one_lasts until before after does.place x next_x acts.is_member gives r home on.lasts;
    }
lasts_by laws until heard since (event.Deliver copy) words notes before between after replays accepted same does r rest peers home timely =
    let acts = does.acts in
    let mail = does.mail in
    let x = acts.member in
    let n = acts.next in
    let next_x : Member = record x { router = n } in
    let gives : after.members ≡ slice_set before.members mail.to.place next_x =
    same ∙ ap (λ (w : Parts). w.members) does.gives ∙ ap (λ (w : Parts). w.members) acts.gives in
    let at_x : IsMemberAt mail.to.place before after x next_x = record {
      was = acts.is_member;
      is = ap (λ (members : List Member). slice_get members mail.to.place) gives ∙ put_there before.members mail.to.place x next_x acts.is_member;
    } in
    let calm = laws.turns.rounds.heard.resting.calm in
    let among = contains_at before.members mail.to.place x acts.is_member in
    let sound : IsSoundMember before.moment x = All-contains (IsSoundMember before.moment) before.members x (calm.stay.worlds.sound before replays) among in
    let reached : IsReached before r x = home.all x (record { there = among; running = receives_running copy before mail x accepted does.is_copy acts.is_member }) in
    let comes = timely.0 mail does.is_copy in
    let counts : (mail.waiting ≡ true) ⊎ (since ≤ copy - 1) = elim comes [ inl waits ↦ inl waits | inr less ↦ inr (omega (arith, less)) ] in
    let current = rest.current (copy - 1) mail x counts does.is_copy acts.is_member reached in
    let young = younger before.moment until x.router timely.1 (home.each x reached).young in
    let passes = calm.updates (origin_of mail) mail.bytes before.moment x.router sound.router sound.past young current in
    let p : Passing = record { endpoint = mail.to.endpoint; heard = Some (current.node, current.endpoint) } in
    let only = only_passing calm.one before.moment (origin_of mail) mail.bytes x.router n acts.done p passes acts.happened in
    let on : LastsOn until before.moment x.router n =
    lasts_over_passing laws.until until before.moment x.router sound.router sound.past timely.1 (rest.quiet x reached) (home.each x reached) p n only.0 in
    let id : n.id ≡ x.router.id = ap (λ (s : State). s.id) only.0 in
    record {
      lossless = λ other y then is there.
          let one : mail ≡ other = same_Some mail other (sym does.is_copy ∙ is) in
          let here : IsMemberAt mail.to.place before after y then = subst (λ (c : MailCopy). IsMemberAt c.to.place before after y then) (sym one) there in
          these_at (λ (a b : Member). (b.router.id ≡ a.router.id)
          × (IsReached before r a → ((other.waiting ≡ true) ⊎ (since < copy)) × AreAgesUndue before.moment a.router × UseSame a.router b.router))
          mail.to.place before after x next_x at_x (id, λ reached_x. (timely.0 other is, on.steady.young, on.steady.used)) y then here;
      each = one_lasts until before after mail.to.place x next_x acts.is_member gives r home on.lasts;
    }
lasts_by laws until heard since _ words notes before between after replays accepted same does r rest peers home timely = absurd timely

-- ---- a turn

-- the set is all running routers, and lasts, after an event too
home_on : (until heard since place : ℕ) (event : WEvent) (before after : Parts) (r : Member) (goes : GoesOn since place before after r) → IsLastingHome until before r
    → LastsOver until heard since event before after r → IsLastingHome until after goes.next
home_on until heard since place event before after r goes home over = record {
  each = λ y reached.
      let (k, within, is) = reached.runs.there in
      let at_k : slice_get after.members k ≡ Some y = slice_get-get_or after.members k y within ∙ ap Some is in
      let (m, both) = goes.was k y at_k in
      over.each k m y both ((goes.keeps k m y both).0.1 reached);
  all = λ y runs.
      let (k, within, is) = runs.there in
      let at_k : slice_get after.members k ≡ Some y = slice_get-get_or after.members k y within ∙ ap Some is in
      let (m, both) = goes.was k y at_k in
      let ran_before : IsRunning before m = record { there = contains_at before.members k m both.was; running = subst IsTrue (goes.kept k m y both).running runs.running } in
      (goes.keeps k m y both).0.0 (home.all m ran_before);
}

pub record GoesLasting (until heard since place : ℕ) (before : Parts) (ts : List Traced) (after : Parts) (timely : GoesTimely until heard since before ts after) : Type 0 where
  pub goes : GoesLossless heard since place before ts after
  pub ticked : (moment k : ℕ) → TicksAmong moment k until heard since before ts after timely → HasTicked moment k heard since place before ts after goes
  pub home : (next : Member) → slice_get after.members place ≡ Some next → IsLastingHome until after next

pub turn_lasts : LastingLaws → (start until heard since place : ℕ) (ts : List Traced) (before after : Parts) (r : Member) → IsReplayed before → slice_get before.members place ≡ Some r
    → IsResting since before r → AreHeardSince heard before r → heard ≤ before.moment → ArePeersLinked before r → AreSendsHeardSince start before r → IsLastingHome until before r
    → (timely : GoesTimely until heard since before ts after) → GoesLasting until heard since place before ts after timely
turn_lasts laws start until heard since place [] before after r replays at rest peers later linked sends home is = record {
  goes = is;
  ticked = λ moment k none. absurd none;
  home = λ next there.
      let at_end : slice_get after.members place ≡ Some r = ap (λ (w : Parts). slice_get w.members place) is ∙ at in
      subst (IsLastingHome until after) (same_Some r next (sym at_end ∙ there)) (subst (λ (w : Parts). IsLastingHome until w r) (sym is) home);
}
turn_lasts laws start until heard since place (t ∷ ts) before after r replays at rest peers later linked sends home (between, (notes, step), timely, more) =
    let over = lasts_by laws until heard since t.event t.words notes before step.between between replays step.accepted (ap (λ (w : Parts). w.members) step.gives) step.does r rest peers home timely in
    let one = one_round laws.turns.rounds start heard since t notes before between replays step place r at rest peers later linked sends over.lossless in
    let on = one.heard_on in
    let goes = on.goes in
    let further = turn_lasts laws start until heard since place ts between after goes.next
    (replays_more laws.turns.rounds.heard.resting.next t notes before between replays step) goes.here.is goes.resting
    on.peers on.later one.linked one.sends (home_on until heard since place t.event before between r goes home over) more in
    record {
      goes = (
        between,
        (notes, step),
        λ other there. subst (IsLosslessEvent heard since t.event before between) (same_Some r other (sym at ∙ there)) over.lossless,
        further.goes,
      );
      ticked = λ moment k ticks. elim ticks [ inl here ↦ inl here | inr later_on ↦ inr (further.ticked moment k later_on) ];
      home = further.home;
    }

-- ---- turns

record LastTurns (until heard place : ℕ) (before : Parts) (turns : List (List Traced × ℕ)) (after : Parts) : Type 0 where
  pub goes : GoesInTurns heard place before turns after
  pub home : (next : Member) → slice_get after.members place ≡ Some next → IsLastingHome until after next

turns_last : LastingLaws → (turns : List (List Traced × ℕ)) (until heard place : ℕ) (before after : Parts) (r : Member) → IsReplayed before → slice_get before.members place ≡ Some r
    → IsCalmSince heard before r → IsLastingHome until before r → GoesInTimelyTurns until heard before turns after → LastTurns until heard place before turns after
turns_last laws [] until heard place before after r replays at calm home is = record {
  goes = is;
  home = λ next there.
      let at_end : slice_get after.members place ≡ Some r = ap (λ (w : Parts). slice_get w.members place) is ∙ at in
      subst (IsLastingHome until after) (same_Some r next (sym at_end ∙ there)) (subst (λ (w : Parts). IsLastingHome until w r) (sym is) home);
}
turns_last laws (turn ∷ turns) until heard place before after r replays at calm home (between, timely, ticked, none, past, more) =
    let one = turn_lasts laws 0 until heard (length before.copies) place turn.0 before between r replays at (rests_now before r calm.runs calm.settled calm.quiet calm.current)
    calm.peers calm.later calm.linked calm.sends home timely in
    let ticks : (k : ℕ) (s x : Member) → slice_get before.members place ≡ Some s → slice_get before.members k ≡ Some x → IsReached before s x
    → HasTicked turn.1 k heard (length before.copies) place before turn.0 between one.goes = λ k s x at_s at_x reached. one.ticked turn.1 k (ticked k x at_x reached.runs.running) in
    let empty : (next : Member) (k : ℕ) (mail : MailCopy) (y : Member) → slice_get between.members place ≡ Some next → slice_get between.copies k ≡ Some mail
    → slice_get between.members mail.to.place ≡ Some y → IsReached between next y → mail.waiting ≡ true → ⊥ = λ next k mail y here there to reached waits. none k mail there waits in
    let first : GoesInTurns heard place before (turn ∷ []) between = (between, one.goes, ticks, empty, past, refl) in
    let end = turns_over laws.turns (turn ∷ []) heard place before between r replays at calm first in
    let next = (end.over).next in
    let further = turns_last laws turns until (turn.1 - 19999) place between after next
    (replays_all laws.turns.rounds heard (length before.copies) place turn.0 before between replays one.goes) (end.over).here.is end.calm (one.home next (end.over).here.is) more in
    record { goes = (between, one.goes, ticks, empty, past, further.goes); home = further.home }

pub lasting_goes_in_turns : LastingLaws → LastingGoesInTurns
lasting_goes_in_turns laws before replays turns until heard place after r at calm home goes =
    let last = turns_last laws turns until heard place before after r replays at calm home goes in
    let all = turns_over laws.turns turns heard place before after r replays at calm last.goes in
    ((all.over).next, (all.over).here, all.calm, (all.over).keeps, last.home (all.over).next (all.over).here.is)
