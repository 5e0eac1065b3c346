-- A home whose peers were heard goes on resting over steady events.
use Rattle.hn_base.proofs.Names.{◌≡◌, ◌∙◌, ◌⊎◌, ◌≤◌, ◌-◌, ℕ, true, List, [], ◌∷◌, length, Some, None, Contains, slice_get, inl, inr, refl, sym, ap, subst, arith, All-contains, same_Some}
use Rattle.hn_base.proofs.Names.{slice_get-get_or, slice_get_within}
use Rattle.hn_audit.proofs.Names.{slice_set, contains_at, NodeId, Neighbour, Note, State, OwnIntervalIsDefault, Traced, WEvent, Member, Parts, refusal, IsReplayed, IsSoundMember, Does, Step}
use Rattle.hn_audit.proofs.Names.{AreCurrent, IsCalmArrival, IsResting, IsCalmSinceCopies, AreHeardSince, IsSteadyEvent, IsReached, IsMemberAt, IsCalmTick}
use Rattle.hn_rules.specs.Updates.{CalmTickMovesPorts}
use Rattle.hn_world.specs.declared.event.WEvent.TheVariants as event
use Rattle.hn_audit.specs.Heard.{GoesSteadily, RestLastsWhileHeard}
use Rattle.hn_audit.proofs.AcceptedRuns.{time_goes_on}
use Rattle.hn_audit.proofs.BridgeWorlds.{known_of}
use Rattle.hn_audit.proofs.CalmDeliveries.{passed}
use Rattle.hn_audit.proofs.HeardOnwards.{none_has_expired, HeardOn, heard_itself, passing_heard}
use Rattle.hn_audit.proofs.RestsOnwards.{RestingLaws, GoesOn, ran, one_event, nothing_goes, both_go}
use Rattle.hn_audit.proofs.StayingSteps.{put_there, which}
use Rattle.hn_audit.proofs.NextWorlds.{replays_more}

pub record HeardLaws : Type 0 where
  pub resting : RestingLaws
  pub interval : OwnIntervalIsDefault
  pub peers : CalmTickMovesPorts

-- ---- a steady event is a calm one

pub calm_by : HeardLaws → (heard since : ℕ) (event : WEvent) (before after : Parts) (r : Member) → IsReplayed before → IsResting since before r → AreHeardSince heard before r
    → IsSteadyEvent heard since event before after r → IsCalmSinceCopies since event before after r
calm_by laws heard since (event.Time moment) before after r replays rest heard_since steady = tt
calm_by laws heard since (event.Drop copy) before after r replays rest heard_since steady = tt
calm_by laws heard since (event.Tick name) before after r replays rest heard_since steady = λ place x next is at reached.
    let known = known_of laws.resting.calm.stay.worlds before r replays rest.runs rest.settled in
    let (soon, holds) = steady place x next is at reached in
    record {
      undue = record {
        heard = none_has_expired laws.interval before r known x reached heard before.moment heard_since soon;
        lasting = holds.lasting;
        young = holds.young.young;
        leads = holds.young.leads;
      };
      used = holds.used;
    }
calm_by laws heard since (event.Deliver copy) before after r replays rest heard_since steady = steady
calm_by laws heard since _ before after r replays rest heard_since steady = absurd steady

-- ---- who was heard

-- each of the set hears on
abbrev pub HearOn : Parts → Parts → Member → Type 0
HearOn before after r = (k : ℕ) (m then : Member) → IsMemberAt k before after m then → IsReached before r m → HeardOn before.moment m.router then.router

same_hear : (before after : Parts) (r : Member) → after.members ≡ before.members → HearOn before after r
same_hear before after r same k m then at reached =
    let one : m ≡ then = same_Some m then (sym at.was ∙ ap (λ (members : List Member). slice_get members k) (sym same) ∙ at.is) in
    subst (λ (x : Member). HeardOn before.moment m.router x.router) one (heard_itself before.moment m.router)

one_hears : (before after : Parts) (place : ℕ) (x : Member) (n : State) (there : slice_get before.members place ≡ Some x)
    (gives : after.members ≡ slice_set before.members place (record x { router = n }))
    (since : ℕ) (r : Member) (rest : IsResting since before r) → (IsReached before r x → HeardOn before.moment x.router n) → HearOn before after r
one_hears before after place x n there gives since r rest hears k m then at reached = elim (which before after place x n there gives r rest.settled rest.quiet k m then at) [
  | inl (was, is) ↦
      let one : HeardOn before.moment x.router n = hears (subst (IsReached before r) was reached) in
      subst (λ (a : Member). HeardOn before.moment a.router then.router) (sym was) (subst (λ (b : Member). HeardOn before.moment x.router b.router) (sym is) one)
  | inr same ↦ subst (λ (b : Member). HeardOn before.moment m.router b.router) same (heard_itself before.moment m.router)
]

pub hears_by : HeardLaws → (since : ℕ) (event : WEvent) (words : List ℕ) (notes : List Note) (before between after : Parts) → IsReplayed before → after.members ≡ between.members
    → Does event words notes before between → (r : Member) → IsResting since before r → IsCalmSinceCopies since event before after r → HearOn before after r
hears_by laws since (event.Time moment) words notes before between after replays same does r rest calm = same_hear before after r (same ∙ ap (λ (w : Parts). w.members) does.gives)
hears_by laws since (event.Drop copy) words notes before between after replays same does r rest calm = same_hear before after r (same ∙ ap (λ (w : Parts). w.members) does.quietly.gives)
hears_by laws since (event.Tick name) words notes before between after replays same does r rest calm =
    let acts = does.acts in
    let x = acts.member in
    let n = acts.next in
    let next_x : Member = record x { router = n } in
    let gives : after.members ≡ slice_set before.members does.place next_x = same ∙ ap (λ (w : Parts). w.members) acts.gives in
    let at_x : IsMemberAt does.place before after x next_x = record {
      was = acts.is_member;
      is = ap (λ (members : List Member). slice_get members does.place) gives ∙ put_there before.members does.place x next_x acts.is_member;
    } in
    let run = ran before.moment x.router n acts.done acts.happened in
    let sound : IsSoundMember before.moment x =
    All-contains (IsSoundMember before.moment) before.members x (laws.resting.calm.stay.worlds.sound before replays) (contains_at before.members does.place x acts.is_member) in
    one_hears before after does.place x n acts.is_member gives since r rest (λ reached q peer q_in peer_in.
    let calm_tick : IsCalmTick before.moment x.router n = calm does.place x next_x does.is_place at_x reached in
    let there : Contains run.after.state.ports q = subst (λ (s : State). Contains s.ports q) run.is q_in in
    let moved = laws.peers before.moment x.router run.after sound.router sound.past calm_tick.undue run.tick q there in
    record {
      was = moved.was;
      there = moved.there;
      id = moved.id;
      old = peer;
      met = subst (λ (list : List Neighbour). Contains list peer) moved.peers peer_in;
      node = refl;
      endpoint = refl;
      contact = inl refl;
    })
hears_by laws since (event.Deliver copy) words notes before between after replays same does r rest calm =
    let acts = does.acts in
    let mail = does.mail in
    let x = acts.member in
    let n = acts.next in
    let next_x : Member = record x { router = n } in
    let gives : after.members ≡ slice_set before.members mail.to.place next_x =
    same ∙ ap (λ (w : Parts). w.members) does.gives ∙ ap (λ (w : Parts). w.members) acts.gives in
    let at_x : IsMemberAt mail.to.place before after x next_x = record {
      was = acts.is_member;
      is = ap (λ (members : List Member). slice_get members mail.to.place) gives ∙ put_there before.members mail.to.place x next_x acts.is_member;
    } in
    let sound : IsSoundMember before.moment x =
    All-contains (IsSoundMember before.moment) before.members x (laws.resting.calm.stay.worlds.sound before replays) (contains_at before.members mail.to.place x acts.is_member) in
    let found = calm mail x next_x does.is_copy at_x in
    one_hears before after mail.to.place x n acts.is_member gives since r rest (λ reached.
    let premise = found.1 reached in
    let counts : (mail.waiting ≡ true) ⊎ (since ≤ copy - 1) = elim premise.0 [ inl waits ↦ inl waits | inr less ↦ inr (omega (arith, less)) ] in
    let arrival : IsCalmArrival before.moment mail x.router n =
    record { current = rest.current (copy - 1) mail x counts does.is_copy acts.is_member reached; young = premise.1; used = premise.2 } in
    let over = passed laws.resting.calm before.moment x mail n acts.done sound acts.happened arrival in
    subst (HeardOn before.moment x.router) (sym over.is) (passing_heard over.p before.moment x.router))
hears_by laws since _ words notes before between after replays same does r rest calm = absurd calm

-- time does not go back
pub time_by : (since : ℕ) (event : WEvent) (words : List ℕ) (notes : List Note) (before between after : Parts) → refusal before event ≡ None → Does event words notes before between
    → (r : Member) → IsCalmSinceCopies since event before after r → before.moment ≤ between.moment
time_by since (event.Time moment) words notes before between after accepted does r calm =
    let later = time_goes_on moment before accepted in
    let is : between.moment ≡ moment = ap (λ (w : Parts). w.moment) does.gives in
    omega (arith, later, is)
time_by since (event.Drop copy) words notes before between after accepted does r calm =
    let is : between.moment ≡ before.moment = ap (λ (w : Parts). w.moment) does.quietly.gives in omega (arith, is)
time_by since (event.Tick name) words notes before between after accepted does r calm =
    let is : between.moment ≡ before.moment = ap (λ (w : Parts). w.moment) does.acts.gives in omega (arith, is)
time_by since (event.Deliver copy) words notes before between after accepted does r calm =
    let is : between.moment ≡ before.moment = ap (λ (w : Parts). w.moment) does.gives ∙ ap (λ (w : Parts). w.moment) does.acts.gives in omega (arith, is)
time_by since _ words notes before between after accepted does r calm = absurd calm

-- ---- events one after another

pub record GoesHeard (heard since place : ℕ) (before after : Parts) (r : Member) : Type 0 where
  pub goes : GoesOn since place before after r
  pub peers : AreHeardSince heard after goes.next
  pub later : heard ≤ after.moment

pub one_heard : HeardLaws → (heard since : ℕ) (t : Traced) (notes : List Note) (before after : Parts) → IsReplayed before → Step t notes before after
    → (place : ℕ) (r : Member) → slice_get before.members place ≡ Some r → IsResting since before r → AreHeardSince heard before r → heard ≤ before.moment
    → IsSteadyEvent heard since t.event before after r → GoesHeard heard since place before after r
one_heard laws heard since t notes before after replays step place r at rest heard_since later steady =
    let calm = calm_by laws heard since t.event before after r replays rest heard_since steady in
    let goes = one_event laws.resting since t notes before after replays step place r at rest calm in
    let hears = hears_by laws since t.event t.words notes before step.between after replays (ap (λ (w : Parts). w.members) step.gives) step.does r rest calm in
    let on = time_by since t.event t.words notes before step.between after step.accepted step.does r calm in
    let moment : after.moment ≡ (step.between).moment = ap (λ (w : Parts). w.moment) step.gives in
    record {
      goes = goes;
      peers = λ y q peer reached q_in peer_in.
          let (k, within, is) = reached.runs.there in
          let here : slice_get after.members k ≡ Some y = slice_get-get_or after.members k y within ∙ ap Some is in
          let (m, both) = goes.was k y here in
          let was : IsReached before r m = (goes.keeps k m y both).0.1 reached in
          let h = hears k m y both was q peer q_in peer_in in
          let (there, since_then) = heard_since m h.was h.old was h.there h.met in (
            subst (λ (ids : List NodeId). Contains ids peer.node) (sym goes.reach) (subst (Contains r.router.reach) (sym h.node) there),
            elim h.contact [
              | inl same ↦ omega (arith, same, since_then)
              | inr now ↦ omega (arith, now, later)
            ],
          );
      later = omega (arith, later, on, moment);
    }

all_heard : HeardLaws → (heard since place : ℕ) (ts : List Traced) (before after : Parts) (r : Member) → IsReplayed before → slice_get before.members place ≡ Some r → IsResting since before r
    → AreHeardSince heard before r → heard ≤ before.moment → GoesSteadily heard since place before ts after → GoesHeard heard since place before after r
all_heard laws heard since place [] before after r replays at rest peers later is =
    subst (λ (w : Parts). GoesHeard heard since place before w r) (sym is) (record { goes = nothing_goes since place before r at rest; peers = peers; later = later })
all_heard laws heard since place (t ∷ ts) before after r replays at rest peers later (between, (notes, step), steady, goes) =
    let first = one_heard laws heard since t notes before between replays step place r at rest peers later (steady r at) in
    let second = all_heard laws heard since place ts between after (first.goes).next (replays_more laws.resting.next t notes before between replays step) (first.goes).here.is
    (first.goes).resting first.peers first.later goes in
    record { goes = both_go since place before between after r first.goes second.goes; peers = second.peers; later = second.later }

pub rest_lasts_while_heard : HeardLaws → RestLastsWhileHeard
rest_lasts_while_heard laws heard ts place before after r replays at runs settled quiet waiting later peers goes =
    let start : AreCurrent (length before.copies) before r = λ k mail y counts there to reached. elim counts [
      | inl waits ↦ waiting k mail y waits there to reached
      | inr le ↦ let within = slice_get_within before.copies k mail there in absurd (omega (arith, le, within))
    ] in
    let all = all_heard laws heard (length before.copies) place ts before after r replays at (record { runs = runs; settled = settled; quiet = quiet; current = start }) peers later goes in
    ((all.goes).next, (all.goes).here, (all.goes).resting.settled, (all.goes).resting.quiet, (all.goes).keeps, all.peers)
