-- Turns in which each router ticks keep a home at rest.
use Rattle.hn_base.proofs.Names.{◌≡◌, ◌∙◌, ◌⊎◌, ◌<◌, ◌≤◌, ◌-◌, ◌+◌, ℕ, true, List, [], ◌∷◌, length, Some, Contains, slice_get, inl, inr, refl, sym, ap, subst, arith, All-contains, same_Some}
use Rattle.hn_base.proofs.Names.{slice_get-get_or}
use Rattle.hn_audit.proofs.Names.{slice_set, contains_at, Port, port_at, Passing, Note, State, after_passing, Traced, WEvent, Member, Parts, IsReplayed, IsSoundMember, Does, IsCalmArrival, IsResting}
use Rattle.hn_audit.proofs.Names.{IsCalmSinceCopies, AreHeardSince, ArePeersLinked, IsCalmSince, AreSendsHeardSince, GoesLossless, AreDelivered, HasTicked, GoesInTurns, IsReached, IsMemberAt, IsCalmTick}
use Rattle.hn_rules.specs.Updates.{TicksHaveSent}
use Rattle.hn_world.specs.declared.event.WEvent.TheVariants as event
use Rattle.hn_audit.specs.Heard.{heard_after, TicksAt, RestGoesInTurns}
use Rattle.hn_audit.proofs.CalmDeliveries.{passed}
use Rattle.hn_audit.proofs.RestsHeard.{calm_by, time_by}
use Rattle.hn_audit.proofs.RestsOnwards.{GoesOn, ran}
use Rattle.hn_audit.proofs.RoundsRenewed.{RoundLaws, GoesOver, rests_now, steady_of, one_round, one_whole, heard_since, still_waiting, replays_all, none_goes, more_rounds, which_at}
use Rattle.hn_audit.proofs.SendsHeard.{same_port, ports_by}
use Rattle.hn_audit.proofs.StayingSteps.{put_there}
use Rattle.hn_audit.proofs.NextWorlds.{replays_more}

pub record TurnLaws : Type 0 where
  pub rounds : RoundLaws
  pub sent : TicksHaveSent

-- ---- when endpoints sent, over an event

abbrev SentOn : Parts → Member → Member → Type 0
SentOn before m then = (p : Port) → Contains then.router.ports p → (was : Port) × Contains m.router.ports was × ((p.sent ≡ was.sent) ⊎ (p.sent ≡ before.moment))

abbrev EachSentOn : Parts → Parts → Member → Type 0
EachSentOn before after r = (k : ℕ) (m then : Member) → IsMemberAt k before after m then → IsReached before r m → SentOn before m then

same_on : (before : Parts) (m then : Member) → m ≡ then → SentOn before m then
same_on before m then same p there = (p, subst (λ (x : Member). Contains x.router.ports p) (sym same) there, inl refl)

one_on : (before after : Parts) (a : ℕ) (m0 next_x : Member) (there : slice_get before.members a ≡ Some m0) (gives : after.members ≡ slice_set before.members a next_x) (r : Member)
    → (IsReached before r m0 → SentOn before m0 next_x) → EachSentOn before after r
one_on before after a m0 next_x there gives r one k m then at reached = elim (which_at before after a m0 next_x there gives k m then at) [
  | inl (is, was, now) ↦
      subst (λ (x : Member). SentOn before x then) (sym was) (subst (λ (x : Member). SentOn before m0 x) (sym now) (one (subst (IsReached before r) was reached)))
  | inr (other, same) ↦ same_on before m then same
]

sent_by : TurnLaws → (since : ℕ) (event : WEvent) (words : List ℕ) (notes : List Note) (before between after : Parts) → IsReplayed before → after.members ≡ between.members
    → Does event words notes before between → (r : Member) → IsResting since before r → IsCalmSinceCopies since event before after r → EachSentOn before after r
sent_by laws since (event.Time moment) words notes before between after replays same does r rest calm = λ k m then at reached.
    same_on before m then (same_Some m then (sym at.was ∙ ap (λ (members : List Member). slice_get members k) (sym (same ∙ ap (λ (w : Parts). w.members) does.gives)) ∙ at.is))
sent_by laws since (event.Drop copy) words notes before between after replays same does r rest calm = λ k m then at reached.
    same_on before m then (same_Some m then (sym at.was ∙ ap (λ (members : List Member). slice_get members k) (sym (same ∙ ap (λ (w : Parts). w.members) does.quietly.gives)) ∙ at.is))
sent_by laws since (event.Tick name) words notes before between after replays same does r rest calm =
    let acts = does.acts in
    let x = acts.member in
    let n = acts.next in
    let next_x : Member = record x { router = n } in
    let gives : after.members ≡ slice_set before.members does.place next_x = same ∙ ap (λ (w : Parts). w.members) acts.gives in
    let at_x : IsMemberAt does.place before after x next_x = record {
      was = acts.is_member;
      is = ap (λ (members : List Member). slice_get members does.place) gives ∙ put_there before.members does.place x next_x acts.is_member;
    } in
    let run = ran before.moment x.router n acts.done acts.happened in
    let sound : IsSoundMember before.moment x =
    All-contains (IsSoundMember before.moment) before.members x (laws.rounds.heard.resting.calm.stay.worlds.sound before replays) (contains_at before.members does.place x acts.is_member) in
    one_on before after does.place x next_x acts.is_member gives r (λ reached p p_in.
    let calm_tick : IsCalmTick before.moment x.router n = calm does.place x next_x does.is_place at_x reached in
    let there : Contains run.after.state.ports p = subst (λ (s : State). Contains s.ports p) run.is p_in in
    let moved = laws.rounds.heard.peers before.moment x.router run.after sound.router sound.past calm_tick.undue run.tick p there in (
      moved.was,
      moved.there,
      elim moved.sent [
        | inl still ↦ inl still
        | inr (is_now, send, among, here) ↦ inr is_now
      ],
    ))
sent_by laws since (event.Deliver copy) words notes before between after replays same does r rest calm =
    let acts = does.acts in
    let mail = does.mail in
    let x = acts.member in
    let n = acts.next in
    let next_x : Member = record x { router = n } in
    let gives : after.members ≡ slice_set before.members mail.to.place next_x =
    same ∙ ap (λ (w : Parts). w.members) does.gives ∙ ap (λ (w : Parts). w.members) acts.gives in
    let at_x : IsMemberAt mail.to.place before after x next_x = record {
      was = acts.is_member;
      is = ap (λ (members : List Member). slice_get members mail.to.place) gives ∙ put_there before.members mail.to.place x next_x acts.is_member;
    } in
    let sound : IsSoundMember before.moment x =
    All-contains (IsSoundMember before.moment) before.members x (laws.rounds.heard.resting.calm.stay.worlds.sound before replays) (contains_at before.members mail.to.place x acts.is_member) in
    let found = calm mail x next_x does.is_copy at_x in
    one_on before after mail.to.place x next_x acts.is_member gives r (λ reached p p_in.
    let premise = found.1 reached in
    let counts : (mail.waiting ≡ true) ⊎ (since ≤ copy - 1) = elim premise.0 [ inl waits ↦ inl waits | inr less ↦ inr (omega (arith, less)) ] in
    let arrival : IsCalmArrival before.moment mail x.router n =
    record { current = rest.current (copy - 1) mail x counts does.is_copy acts.is_member reached; young = premise.1; used = premise.2 } in
    let o = passed laws.rounds.heard.resting.calm before.moment x mail n acts.done sound acts.happened arrival in
    let ports_are : n.ports ≡ ports_by before.moment x.router mail.to.endpoint o.sender (port_at mail.to.endpoint x.router.ports) =
    ap (λ (s : State). s.ports) o.is ∙ ap (λ (q : Passing). (after_passing q before.moment x.router).ports) o.heard in
    let h = same_port before.moment x.router mail.to.endpoint o.sender (port_at mail.to.endpoint x.router.ports) refl p (subst (λ (list : List Port). Contains list p) ports_are p_in) in
    (h.was, h.there, inl h.sent))
sent_by laws since _ words notes before between after replays same does r rest calm = absurd calm

-- ---- an endpoint that sent lately

-- each endpoint of the router of a place sent less than 20 s before that moment, or later
abbrev pub AreLate : ℕ → ℕ → Parts → Member → Type 0
AreLate moment k w r = (x : Member) (p : Port) → slice_get w.members k ≡ Some x → IsReached w r x → Contains x.router.ports p → moment < p.sent + 20000

late_on : (moment k since place : ℕ) (before after : Parts) (r : Member) (goes : GoesOn since place before after r) → EachSentOn before after r → moment ≤ before.moment
    → AreLate moment k before r → AreLate moment k after goes.next
late_on moment k since place before after r goes each later late x p at reached p_in =
    let (m, both) = goes.was k x at in
    let was : IsReached before r m = (goes.keeps k m x both).0.1 reached in
    let (old, old_in, sent) = each k m x both was p p_in in
    let less = late m old both.was was old_in in
    elim sent [
      | inl same ↦ omega (arith, same, less)
      | inr now ↦ omega (arith, now, later)
    ]

-- after its tick
late_tick : TurnLaws → (moment k since place : ℕ) (event : WEvent) (words : List ℕ) (notes : List Note) (before between after : Parts) → IsReplayed before → after.members ≡ between.members
    → Does event words notes before between → (r : Member) (goes : GoesOn since place before after r) → TicksAt moment k event before → (moment ≤ before.moment) × AreLate moment k after goes.next
late_tick laws moment k since place (event.Tick name) words notes before between after replays same does r goes (is_place, later) = (later, late)
  where
    late : AreLate moment k after goes.next
    late y p at reached p_in =
        let acts = does.acts in
        let n = acts.next in
        let next_x : Member = record acts.member { router = n } in
        let place_is : does.place ≡ k = same_Some does.place k (sym does.is_place ∙ is_place) in
        let gives : after.members ≡ slice_set before.members does.place next_x = same ∙ ap (λ (w : Parts). w.members) acts.gives in
        let here : slice_get after.members k ≡ Some next_x =
        ap (slice_get after.members) (sym place_is) ∙ ap (λ (members : List Member). slice_get members does.place) gives ∙ put_there before.members does.place acts.member next_x acts.is_member in
        let y_is : y ≡ next_x = same_Some y next_x (sym at ∙ here) in
        let run = ran before.moment acts.member.router n acts.done acts.happened in
        let sound : IsSoundMember before.moment acts.member =
        All-contains (IsSoundMember before.moment) before.members acts.member (laws.rounds.heard.resting.calm.stay.worlds.sound before replays)
        (contains_at before.members does.place acts.member acts.is_member) in
        let mine : Contains n.ports p = subst (λ (m : Member). Contains m.router.ports p) y_is p_in in
        let there : Contains run.after.state.ports p = subst (λ (s : State). Contains s.ports p) run.is mine in
        let less = laws.sent before.moment acts.member.router run.after sound.router sound.past run.tick p there in
        omega (arith, less, later)
late_tick laws moment k since place _ words notes before between after replays same does r goes ticks = absurd ticks

-- ---- a turn

pub record EndsLate (moment k place : ℕ) (after : Parts) : Type 0 where
  pub next : Member
  pub here : slice_get after.members place ≡ Some next
  pub late : AreLate moment k after next

pub ends_late : TurnLaws → (start moment k heard since place : ℕ) (ts : List Traced) (before after : Parts) (r : Member) → IsReplayed before
    → slice_get before.members place ≡ Some r → IsResting since before r
    → AreHeardSince heard before r → heard ≤ before.moment → ArePeersLinked before r → AreSendsHeardSince start before r → (goes : GoesLossless heard since place before ts after)
    → ((moment ≤ before.moment) × AreLate moment k before r) ⊎ HasTicked moment k heard since place before ts after goes → EndsLate moment k place after
ends_late laws start moment k heard since place [] before after r replays at rest peers later linked sends is known = elim known [
  | inl now ↦ subst (EndsLate moment k place) (sym is) (record { next = r; here = at; late = now.1 })
  | inr none ↦ absurd none
]
ends_late laws start moment k heard since place (t ∷ ts) before after r replays at rest peers later linked sends (between, (notes, step), lossless, more) known =
    let first = one_round laws.rounds start heard since t notes before between replays step place r at rest peers later linked sends (lossless r at) in
    let one = first.heard_on in
    let goes = one.goes in
    let same : between.members ≡ (step.between).members = ap (λ (w : Parts). w.members) step.gives in
    let calm = calm_by laws.rounds.heard heard since t.event before between r replays rest peers (steady_of heard since t.event before between r (lossless r at)) in
    let each = sent_by laws since t.event t.words notes before step.between between replays same step.does r rest calm in
    let on = time_by since t.event t.words notes before step.between between step.accepted step.does r calm in
    let moment_is : between.moment ≡ (step.between).moment = ap (λ (w : Parts). w.moment) step.gives in
    let still : moment ≤ before.moment → moment ≤ between.moment = λ le. omega (arith, le, on, moment_is) in
    let now_late : (moment ≤ before.moment) × AreLate moment k between goes.next
    → ((moment ≤ between.moment) × AreLate moment k between goes.next) ⊎ HasTicked moment k heard since place between ts after more = λ both. inl (still both.0, both.1) in
    let next : ((moment ≤ between.moment) × AreLate moment k between goes.next) ⊎ HasTicked moment k heard since place between ts after more =
    elim known [
      | inl now ↦ now_late (now.0, late_on moment k since place before between r goes each now.0 now.1)
      | inr ticks ↦ elim ticks [
        | inl here ↦ now_late (late_tick laws moment k since place t.event t.words notes before step.between between replays same step.does r goes here)
        | inr further ↦ inr further
      ]
    ] in
    ends_late laws start moment k heard since place ts between after goes.next (replays_more laws.rounds.heard.resting.next t notes before between replays step) goes.here.is goes.resting
    one.peers one.later first.linked first.sends more next

pub record CalmOver (heard place : ℕ) (before after : Parts) (r : Member) : Type 0 where
  pub over : GoesOver place before after r
  pub calm : IsCalmSince heard after over.next

pub turns_over : TurnLaws → (turns : List (List Traced × ℕ)) (heard place : ℕ) (before after : Parts) (r : Member) → IsReplayed before → slice_get before.members place ≡ Some r
    → IsCalmSince heard before r → GoesInTurns heard place before turns after → CalmOver (heard_after heard turns) place before after r
turns_over laws [] heard place before after r replays at calm is = subst (λ (w : Parts). CalmOver heard place before w r) (sym is) (record {
  over = none_goes place before r at calm.settled calm.quiet;
  calm = calm;
})
turns_over laws (turn ∷ turns) heard place before after r replays at calm (between, goes, ticked, none, past, more) =
    let all = one_whole laws.rounds 0 heard turn.0 place before between r replays at calm.runs calm.settled calm.quiet calm.current calm.later calm.peers calm.linked calm.sends goes in
    let one = (all.heard_on).goes in
    let delivered : AreDelivered (turn.1 - 19999) between one.next = record {
      none_waits = λ k mail y there to reached waits. none one.next k mail y one.here.is there to reached waits;
      sends = λ x p reached p_in.
          let (k, within, is) = reached.runs.there in
          let at_k : slice_get between.members k ≡ Some x = slice_get-get_or between.members k x within ∙ ap Some is in
          let (m, both) = one.was k x at_k in
          let was : IsReached before r m = (one.keeps k m x both).0.1 reached in
          let end = ends_late laws 0 turn.1 k heard (length before.copies) place turn.0 before between r replays at
          (rests_now before r calm.runs calm.settled calm.quiet calm.current) calm.peers calm.later calm.linked calm.sends goes (inr (ticked k r m at both.was was)) in
          let next_is : one.next ≡ end.next = same_Some one.next end.next (sym one.here.is ∙ end.here) in
          let less = end.late x p at_k (subst (λ (z : Member). IsReached between z x) next_is reached) p_in in
          omega (arith, less);
    } in
    let since = heard_since 0 between one.next all.linked all.sends (turn.1 - 19999) (omega arith) delivered in
    let rest = turns_over laws turns (turn.1 - 19999) place between after one.next (replays_all laws.rounds heard (length before.copies) place turn.0 before between replays goes) one.here.is
    (record {
      runs = one.resting.runs;
      settled = one.resting.settled;
      quiet = one.resting.quiet;
      current = still_waiting (length before.copies) between one.next one.resting;
      later = omega (arith, past);
      peers = since;
      linked = all.linked;
      sends = all.sends;
    }) more in
    record { over = more_rounds (length before.copies) place before between after r at one rest.over; calm = rest.calm }

pub rest_goes_in_turns : TurnLaws → RestGoesInTurns
rest_goes_in_turns laws turns heard place before after r replays at calm goes =
    let all = turns_over laws turns heard place before after r replays at calm goes in
    ((all.over).next, (all.over).here, all.calm, (all.over).keeps)
