-- A settled and quiet router goes on resting over calm events.
use Rattle.hn_base.proofs.Names.{◌≡◌, ◌∙◌, ◌⊎◌, ◌<◌, ◌≤◌, ◌-◌, ◌^◌, ◌↔◌, ℕ, zero, suc, Bool, true, false, List, [], ◌∷◌, ◌++◌, length, Some, None, Contains, slice_get, inl, inr, refl, sym, ap, subst}
use Rattle.hn_base.proofs.Names.{arith, All, option_map, cases_eq, All-contains, same_Some, slice_get_within}
use Rattle.hn_audit.proofs.Names.{IsTrue, slice_set, nothing_in, contains_at, Name, ArePorts, endpoints_of, AreAssignmentsUnchanged, Done, Note, Outgoing, State, HashIsOfLeaves, IsRouter, Running}
use Rattle.hn_audit.proofs.Names.{begun_at, IsTick, IsStatusSend, Tick, MailCopy, Traced, WEvent, Attachment, Member, Parts, copies_of, is_of, refusal, IsReplayed, IsSoundMember, Does, Step}
use Rattle.hn_audit.proofs.Names.{IsCurrent, AreCurrent, IsCalmArrival, IsResting, IsCalmSinceCopies, IsQuietByRules, IsRunning, IsReached, IsSettledByRules, IsMemberAt, KeepAssignments}
use Rattle.std.specs.List.{find}
use Rattle.hn_typed.specs.Fields.{IsHash}
use Rattle.hn_rules.specs.Laws.{RouterIsHashed}
use Rattle.hn_rules.specs.Updates.{TicksSendUpdates}
use Rattle.hn_router.specs.Act.{Happened}
use Rattle.hn_world.specs.declared.event.WEvent.TheVariants as event
use Rattle.hn_audit.specs.Calm.{RestGoesOn, GoesCalmly, RestLasts}
use Rattle.hn_audit.proofs.AcceptedRuns.{ticks_running, receives_running}
use Rattle.hn_audit.proofs.BridgeSets.{IsKnown, itself, router_of}
use Rattle.hn_audit.proofs.BridgeWorlds.{known_of}
use Rattle.hn_audit.proofs.CalmDeliveries.{CalmLaws, passed, passed_still}
use Rattle.hn_audit.proofs.CopiesOnLinks.{IsCopyOf, copy_of}
use Rattle.hn_audit.proofs.CurrentCopies.{stays_current, sender_reached, is_current}
use Rattle.hn_audit.proofs.OneHash.{same_net}
use Rattle.hn_audit.proofs.StayingSets.{IsKept, IsSeenAsBefore, AreSeenAsBefore}
use Rattle.hn_audit.proofs.StayingSteps.{x_still, put_there, put_elsewhere, still_later, tick_undue, stays_where_still}
use Rattle.hn_audit.proofs.NextWorlds.{NextLaws, replays_more}

-- the laws of the crates below on which it rests
pub record RestingLaws : Type 0 where
  pub calm : CalmLaws
  pub hash : HashIsOfLeaves
  pub hashed : RouterIsHashed
  pub sends : TicksSendUpdates
  pub next : NextLaws

-- ---- elements of lists

front_or_new : {A : Type 0} (xs ys : List A) (k : ℕ) (z : A) → slice_get (xs ++ ys) k ≡ Some z → (slice_get xs k ≡ Some z) ⊎ Contains ys z
front_or_new [] ys k z at = inr (contains_at ys k z at)
front_or_new (x ∷ xs) ys zero z at = inl at
front_or_new (x ∷ xs) ys (suc k) z at = front_or_new xs ys k z at

put_or_old : {A : Type 0} (xs : List A) (i k : ℕ) (y z : A) → slice_get (slice_set xs i y) k ≡ Some z → ((k ≡ i) × (z ≡ y)) ⊎ (slice_get xs k ≡ Some z)
put_or_old [] i k y z at = inr at
put_or_old (x ∷ xs) zero zero y z at = inl (refl, sym (same_Some y z at))
put_or_old (x ∷ xs) zero (suc k) y z at = inr at
put_or_old (x ∷ xs) (suc i) zero y z at = inr at
put_or_old (x ∷ xs) (suc i) (suc k) y z at = elim (put_or_old xs i k y z at) [
  | inl both ↦ inl (ap (λ (n : ℕ). suc n) both.0, both.1)
  | inr old ↦ inr old
]

either_way : {P Q R : Type 0} → (P → Q) → P ⊎ R → Q ⊎ R
either_way f (inl p) = inl (f p)
either_way f (inr r) = inr r

-- ---- what an event leaves

-- a copy is the same, but that it may wait no longer
pub record IsSameBut (old mail : MailCopy) : Type 0 where
  pub is : mail ≡ record old { waiting = mail.waiting }
  pub waited : mail.waiting ≡ true → old.waiting ≡ true

the_same : (mail : MailCopy) → IsSameBut mail mail
the_same mail = record { is = refl; waited = λ waits. waits }

no_longer : (old mail : MailCopy) → mail ≡ record old { waiting = false } → IsSameBut old mail
no_longer old mail is =
    let gone : mail.waiting ≡ false = ap (λ (c : MailCopy). c.waiting) is in
    record {
      is = is ∙ ap (λ (b : Bool). let c : MailCopy = record old { waiting = b } in c) (sym gone);
      waited = λ waits. absurd (not_both mail.waiting waits gone);
    }
  where
    not_both : (b : Bool) → b ≡ true → b ≡ false → ⊥
    not_both true one other = cc
    not_both false one other = cc

-- the router of a place goes on resting, and each router was there before
pub record GoesOn (since place : ℕ) (before after : Parts) (r : Member) : Type 0 where
  pub next : Member
  pub here : IsMemberAt place before after r next
  pub resting : IsResting since after next
  pub keeps : KeepAssignments before after r next
  pub was : (k : ℕ) (then : Member) → slice_get after.members k ≡ Some then → (m : Member) × IsMemberAt k before after m then
  pub reach : next.router.reach ≡ r.router.reach
  pub kept : (k : ℕ) (m then : Member) → IsMemberAt k before after m then → IsKept m then
  pub on : (k : ℕ) (m : Member) → slice_get before.members k ≡ Some m → (then : Member) × (slice_get after.members k ≡ Some then)

module _ (laws : RestingLaws) (since place : ℕ) (before after : Parts) (replays : IsReplayed before) (replays_after : IsReplayed after) (r next : Member) (here : IsMemberAt place before after r next)
    (rest : IsResting since before r) (are : AreSeenAsBefore before after r) where
  stays : IsSettledByRules after next × IsQuietByRules after next × KeepAssignments before after r next
  stays = stays_where_still laws.calm.stay before after replays place r next here rest.runs rest.settled rest.quiet are

  runs_now : IsRunning after next
  runs_now = record { there = contains_at after.members place next here.is; running = subst IsTrue (sym (are.kept place r next here).running) rest.runs.running }

  pub known_after : IsKnown after next
  known_after = known_of laws.calm.stay.worlds after next replays_after runs_now stays.0

  known_before : IsKnown before r
  known_before = known_of laws.calm.stay.worlds before r replays rest.runs rest.settled

  pub reached_before : (k : ℕ) (m then : Member) → IsMemberAt k before after m then → IsReached after next then → IsReached before r m
  reached_before k m then at is = (stays.2 k m then at).0.1 is

  -- a copy that was there is still current
  old_current : (mail : MailCopy) (k : ℕ) (y : Member) → (mail.waiting ≡ true) ⊎ (since ≤ k) → slice_get before.copies k ≡ Some mail → slice_get after.members mail.to.place ≡ Some y
      → IsReached after next y → IsCurrent mail y.router
  old_current mail k y le there at reached =
      let (m, both) = are.was mail.to.place y at in
      let was : IsReached before r m = reached_before mail.to.place m y both reached in
      let still = are.still mail.to.place m y both was in
      let kept = are.kept mail.to.place m y both in
      let net = same_net laws.hash m.router y.router (router_of before r known_before m was) (router_of after next known_after y reached) kept.id still in
      stays_current mail m.router y.router kept.id still.own net (rest.current k mail m le there both.was was)

  -- each copy was there, but that it may wait no longer, or is current
  abbrev pub IsOldOrCurrent : Type 0
  IsOldOrCurrent =
      (k : ℕ) (mail : MailCopy) (y : Member) → slice_get after.copies k ≡ Some mail → slice_get after.members mail.to.place ≡ Some y → IsReached after next y
      → ((old : MailCopy) × (slice_get before.copies k ≡ Some old) × IsSameBut old mail) ⊎ IsCurrent mail y.router

  pub goes_on : ((k : ℕ) (m : Member) → slice_get before.members k ≡ Some m → (then : Member) × (slice_get after.members k ≡ Some then)) → IsOldOrCurrent → GoesOn since place before after r
  goes_on on each = record {
    next = next;
    here = here;
    resting = record { runs = runs_now; settled = stays.0; quiet = stays.1; current = current };
    keeps = stays.2;
    was = are.was;
    reach = (are.still place r next here (itself before r known_before)).reach;
    kept = are.kept;
    on = on;
  }
    where
      current : AreCurrent since after next
      current k mail y le there at reached = elim (each k mail y there at reached) [
        | inl (old, was, but) ↦
            let is = but.is in
            let counts : (old.waiting ≡ true) ⊎ (since ≤ k) = either_way but.waited le in
            let to : slice_get after.members old.to.place ≡ Some y = subst (λ (c : MailCopy). slice_get after.members c.to.place ≡ Some y) is at in
            let known : IsCurrent old y.router = old_current old k y counts was to reached in
            let waits : MailCopy = record old { waiting = mail.waiting } in
            let now : IsCurrent waits y.router = record {
              multicast = known.multicast;
              near = known.near;
              node = known.node;
              endpoint = known.endpoint;
              update = known.update;
              peer = known.peer;
              other = known.other;
              numbered = known.numbered;
            } in
            subst (λ (c : MailCopy). IsCurrent c y.router) (sym is) now
        | inr now ↦ now
      ]

-- ---- where no router changes

module _ (laws : RestingLaws) (since place : ℕ) (before after : Parts) (replays : IsReplayed before) (replays_after : IsReplayed after) (r : Member) (at : slice_get before.members place ≡ Some r)
    (rest : IsResting since before r) (same : after.members ≡ before.members) where
  unchanged : ((k : ℕ) (mail : MailCopy) → slice_get after.copies k ≡ Some mail → (old : MailCopy) × (slice_get before.copies k ≡ Some old) × IsSameBut old mail)
      → GoesOn since place before after r
  unchanged old =
      let here : IsMemberAt place before after r r = record { was = at; is = ap (λ (members : List Member). slice_get members place) same ∙ at } in
      let are = still_later before after same r rest.settled rest.quiet in
      goes_on laws since place before after replays replays_after r r here rest are (λ k m is. (m, ap (λ (members : List Member). slice_get members k) same ∙ is))
      (λ k mail y there to reached. inl (old k mail there))

-- ---- where a router changes

-- the router of a place, after one was changed
there_after : (before after : Parts) (at : ℕ) (x : Member) (n : State) → slice_get before.members at ≡ Some x → after.members ≡ slice_set before.members at (record x { router = n })
    → (place : ℕ) (r : Member) → slice_get before.members place ≡ Some r → (next : Member) × (slice_get after.members place ≡ Some next)
there_after before after at x n there gives place r is = elim (cases_eq place at) [
  | inl same ↦ (
    record x { router = n },
    ap (λ (members : List Member). slice_get members place) gives ∙ ap (slice_get (slice_set before.members at (record x { router = n }))) same
        ∙ put_there before.members at x (record x { router = n }) there,
  )
  | inr other ↦ (r, ap (λ (members : List Member). slice_get members place) gives ∙ put_elsewhere before.members at place (record x { router = n }) other ∙ is)
]

-- a copy of what a router sent, as it is where that router has changed
module _ (before after : Parts) (at : ℕ) (x : Member) (n : State) (r : Member) (are : AreSeenAsBefore before after r) where
  copy_after : (send : Outgoing) (mail : MailCopy) (y : Member) → IsCopyOf before.members at x send mail → slice_get after.members mail.to.place ≡ Some y
      → (copy : IsCopyOf after.members at (record x { router = n }) send mail) × (copy.receiver ≡ y)
  copy_after send mail y copy to =
      let (m, both) = are.was mail.to.place y to in
      let member : copy.receiver ≡ m = same_Some copy.receiver m (sym copy.is ∙ both.was) in
      let on_m = subst (λ (z : Member). option_map (λ (a : Attachment). a.link) (find (is_of mail.to.endpoint) z.attachments) ≡ Some copy.link) member copy.receiver_on in
      let on_y = subst (λ (list : List Attachment). option_map (λ (a : Attachment). a.link) (find (is_of mail.to.endpoint) list) ≡ Some copy.link)
      (sym (are.kept mail.to.place m y both).attachments) on_m in (
        record { link = copy.link; sender_on = copy.sender_on; receiver = y; is = to; receiver_on = on_y; apart = copy.apart; copy = copy.copy },
        refl,
      )

-- what came of a tick
pub record IsRun (now : ℕ) (s next : State) (done : Done) : Type 0 where
  pub after : Running
  pub tick : IsTick (begun_at now s) after
  pub due : ℕ
  pub is : next ≡ record after.state { due = due }
  pub done_is : done ≡ after.done

pub ran : (now : ℕ) (s next : State) (done : Done) → Happened now Tick s next done → IsRun now s next done
unfolding Happened
ran now s next done (after, inl (refused, _), _, _) = absurd cc
ran now s next done (after, inr (_, tick), (due, _, is), done_is) = record { after = after; tick = tick; due = due; is = is; done_is = done_is }

pub status_sends : RestingLaws → (now : ℕ) (s n : State) (done : Done) → Happened now Tick s n done → IsRouter n → All (IsStatusSend n.id n.net (endpoints_of n.ports)) done.sends
status_sends laws now s n done happened router =
    let run = ran now s n done happened in
    let hash : IsHash run.after.state.net = subst (λ (x : State). IsHash x.net) run.is (laws.hashed n router).hash in
    let id : run.after.state.id.0 < 2 ^ 32 = subst (λ (x : State). x.id.0 < 2 ^ 32) run.is router.well.numbered.own_id in
    let ports : ArePorts run.after.state.ports = subst (λ (x : State). ArePorts x.ports) run.is router.well.ports in
    let sent = laws.sends (begun_at now s) run.after hash id ports refl run.tick in
    let there : All (IsStatusSend n.id n.net (endpoints_of n.ports)) run.after.done.sends =
    subst (λ (x : State). All (IsStatusSend x.id x.net (endpoints_of x.ports)) run.after.done.sends) (sym run.is) sent in
    subst (λ (d : Done). All (IsStatusSend n.id n.net (endpoints_of n.ports)) d.sends) (sym run.done_is) there

-- a router ticks
goes_tick : RestingLaws → (since : ℕ) (name : Name) (words : List ℕ) (notes : List Note) (before between after : Parts) → IsReplayed before → IsReplayed after
    → refusal before (event.Tick name) ≡ None → after.members ≡ between.members → after.copies ≡ between.copies → Does (event.Tick name) words notes before between
    → (place : ℕ) (r : Member) → slice_get before.members place ≡ Some r → IsResting since before r → IsCalmSinceCopies since (event.Tick name) before after r → GoesOn since place before after r
goes_tick laws since name words notes before between after replays replays_after accepted same copies does place r at rest calm =
    let acts = does.acts in
    let x = acts.member in
    let n = acts.next in
    let next_x : Member = record x { router = n } in
    let gives : after.members ≡ slice_set before.members does.place next_x = same ∙ ap (λ (w : Parts). w.members) acts.gives in
    let made : after.copies ≡ before.copies ++ copies_of before.members does.place x acts.done.sends = copies ∙ ap (λ (w : Parts). w.copies) acts.gives in
    let run = ran before.moment x.router n acts.done acts.happened in
    let id : n.id ≡ x.router.id = ap (λ (s : State). s.id) run.is ∙ laws.calm.stay.id (begun_at before.moment x.router) run.after run.tick in
    let at_x : IsMemberAt does.place before after x next_x = record {
      was = acts.is_member;
      is = ap (λ (members : List Member). slice_get members does.place) gives ∙ put_there before.members does.place x next_x acts.is_member;
    } in
    let (next, is) = there_after before after does.place x n acts.is_member gives place r at in
    let here : IsMemberAt place before after r next = record { was = at; is = is } in
    let still : IsReached before r x → IsSeenAsBefore x.router n = λ reached.
    x_still laws.calm.stay before after replays place r next here rest.runs rest.settled rest.quiet x n acts.done reached acts.happened (calm does.place x next_x does.is_place at_x reached) in
    let are : AreSeenAsBefore before after r = tick_undue before after does.place x n acts.is_member gives r rest.settled rest.quiet id still in
    let known = known_after laws since place before after replays replays_after r next here rest are in
    let running = ticks_running name before does.place x accepted does.is_place acts.is_member in
    goes_on laws since place before after replays replays_after r next here rest are (there_after before after does.place x n acts.is_member gives)
    (λ k mail y there to reached. elim
    (front_or_new before.copies (copies_of before.members does.place x acts.done.sends) k mail (ap (λ (list : List MailCopy). slice_get list k) (sym made) ∙ there)) [
      | inl old ↦ inl (mail, old, the_same mail)
      | inr new ↦
          let (send, among, copy) = copy_of before.members does.place x acts.done.sends mail new in
          let (copy_now, receiver) = copy_after before after does.place x n r are send mail y copy to in
          let to_one : IsReached after next copy_now.receiver = subst (IsReached after next) (sym receiver) reached in
          let sender = sender_reached after replays_after next known laws.hash does.place next_x at_x.is running send mail copy_now to_one in
          let all = status_sends laws before.moment x.router n acts.done acts.happened (router_of after next known next_x sender) in
          let status = All-contains (IsStatusSend n.id n.net (endpoints_of n.ports)) acts.done.sends send all among in
          inr (subst (λ (z : Member). IsCurrent mail z.router) receiver
          (is_current after replays_after next known laws.hash does.place next_x at_x.is running send mail copy_now to_one status))
    ])

-- a copy is delivered
goes_delivery : RestingLaws → (since copy : ℕ) (words : List ℕ) (notes : List Note) (before between after : Parts) → IsReplayed before → IsReplayed after
    → refusal before (event.Deliver copy) ≡ None → after.members ≡ between.members → after.copies ≡ between.copies → Does (event.Deliver copy) words notes before between
    → (place : ℕ) (r : Member) → slice_get before.members place ≡ Some r → IsResting since before r → IsCalmSinceCopies since (event.Deliver copy) before after r → GoesOn since place before after r
goes_delivery laws since copy words notes before between after replays replays_after accepted same copies does place r at rest calm =
    let acts = does.acts in
    let mail = does.mail in
    let x = acts.member in
    let n = acts.next in
    let next_x : Member = record x { router = n } in
    let gives : after.members ≡ slice_set before.members mail.to.place next_x =
    same ∙ ap (λ (w : Parts). w.members) does.gives ∙ ap (λ (w : Parts). w.members) acts.gives in
    let gone : MailCopy = record mail { waiting = false } in
    let sent : List MailCopy = copies_of before.members mail.to.place x acts.done.sends in
    let made : after.copies ≡ slice_set (before.copies ++ sent) (copy - 1) gone =
    copies ∙ ap (λ (w : Parts). w.copies) does.gives ∙ ap (λ (w : Parts). slice_set w.copies (copy - 1) gone) acts.gives in
    let at_x : IsMemberAt mail.to.place before after x next_x = record {
      was = acts.is_member;
      is = ap (λ (members : List Member). slice_get members mail.to.place) gives ∙ put_there before.members mail.to.place x next_x acts.is_member;
    } in
    let (next, is) = there_after before after mail.to.place x n acts.is_member gives place r at in
    let here : IsMemberAt place before after r next = record { was = at; is = is } in
    let sound : IsSoundMember before.moment x =
    All-contains (IsSoundMember before.moment) before.members x (laws.calm.stay.worlds.sound before replays) (contains_at before.members mail.to.place x acts.is_member) in
    let found = calm mail x next_x does.is_copy at_x in
    let arrival : IsReached before r x → IsCalmArrival before.moment mail x.router n = λ reached.
    let premise = found.1 reached in
    let later : (mail.waiting ≡ true) ⊎ (since ≤ copy - 1) = elim premise.0 [ inl waits ↦ inl waits | inr less ↦ inr (omega (arith, less)) ] in
    record { current = rest.current (copy - 1) mail x later does.is_copy acts.is_member reached; young = premise.1; used = premise.2 } in
    let still : IsReached before r x → IsSeenAsBefore x.router n = λ reached.
    passed_still laws.calm before.moment x mail n acts.done sound acts.happened (arrival reached) (rest.quiet x reached) in
    let are : AreSeenAsBefore before after r = tick_undue before after mail.to.place x n acts.is_member gives r rest.settled rest.quiet found.0 still in
    let known = known_after laws since place before after replays replays_after r next here rest are in
    let running = receives_running copy before mail x accepted does.is_copy acts.is_member in
    goes_on laws since place before after replays replays_after r next here rest are (there_after before after mail.to.place x n acts.is_member gives)
    (λ k one y there to reached. elim (put_or_old (before.copies ++ sent) (copy - 1) k gone one (ap (λ (list : List MailCopy). slice_get list k) (sym made) ∙ there)) [
      | inl (is_place, is_gone) ↦ inl (
        mail,
        ap (slice_get before.copies) is_place ∙ does.is_copy,
        no_longer mail one is_gone,
      )
      | inr stood ↦ elim (front_or_new before.copies sent k one stood) [
        | inl old ↦ inl (one, old, the_same one)
        | inr new ↦
            let (send, among, copied) = copy_of before.members mail.to.place x acts.done.sends one new in
            let (copy_now, receiver) = copy_after before after mail.to.place x n r are send one y copied to in
            let to_one : IsReached after next copy_now.receiver = subst (IsReached after next) (sym receiver) reached in
            let sender = sender_reached after replays_after next known laws.hash mail.to.place next_x at_x.is running send one copy_now to_one in
            let was : IsReached before r x = reached_before laws since place before after replays replays_after r next here rest are mail.to.place x next_x at_x sender in
            let none = (passed laws.calm before.moment x mail n acts.done sound acts.happened (arrival was)).nothing_done in
            absurd (nothing_in send (subst (λ (d : Done). Contains d.sends send) none among))
      ]
    ])

goes_by : RestingLaws → (since : ℕ) (event : WEvent) (words : List ℕ) (notes : List Note) (before between after : Parts) → IsReplayed before → IsReplayed after
    → refusal before event ≡ None → after.members ≡ between.members → after.copies ≡ between.copies → Does event words notes before between
    → (place : ℕ) (r : Member) → slice_get before.members place ≡ Some r → IsResting since before r → IsCalmSinceCopies since event before after r → GoesOn since place before after r
goes_by laws since (event.Time moment) words notes before between after replays replays_after accepted same copies does place r at rest calm =
    unchanged laws since place before after replays replays_after r at rest (same ∙ ap (λ (w : Parts). w.members) does.gives)
    (λ k mail there. (mail, ap (λ (list : List MailCopy). slice_get list k) (sym (copies ∙ ap (λ (w : Parts). w.copies) does.gives)) ∙ there, the_same mail))
goes_by laws since (event.Drop copy) words notes before between after replays replays_after accepted same copies does place r at rest calm =
    let mail = does.mail in
    let gone : MailCopy = record mail { waiting = false } in
    let made : after.copies ≡ slice_set before.copies (copy - 1) gone = copies ∙ ap (λ (w : Parts). w.copies) does.quietly.gives in
    unchanged laws since place before after replays replays_after r at rest (same ∙ ap (λ (w : Parts). w.members) does.quietly.gives)
    (λ k one there. elim (put_or_old before.copies (copy - 1) k gone one (ap (λ (list : List MailCopy). slice_get list k) (sym made) ∙ there)) [
      | inl (is_place, is_gone) ↦ (
        mail,
        ap (slice_get before.copies) is_place ∙ does.is_copy,
        no_longer mail one is_gone,
      )
      | inr old ↦ (one, old, the_same one)
    ])
goes_by laws since (event.Tick name) words notes before between after replays replays_after accepted same copies does place r at rest calm =
    goes_tick laws since name words notes before between after replays replays_after accepted same copies does place r at rest calm
goes_by laws since (event.Deliver copy) words notes before between after replays replays_after accepted same copies does place r at rest calm =
    goes_delivery laws since copy words notes before between after replays replays_after accepted same copies does place r at rest calm
goes_by laws since _ words notes before between after replays replays_after accepted same copies does place r at rest calm = absurd calm

pub one_event : RestingLaws → (since : ℕ) (t : Traced) (notes : List Note) (before after : Parts) → IsReplayed before → Step t notes before after
    → (place : ℕ) (r : Member) → slice_get before.members place ≡ Some r → IsResting since before r → IsCalmSinceCopies since t.event before after r → GoesOn since place before after r
one_event laws since t notes before after replays step place r at rest calm =
    goes_by laws since t.event t.words notes before step.between after replays (replays_more laws.next t notes before after replays step) step.accepted
    (ap (λ (w : Parts). w.members) step.gives) (ap (λ (w : Parts). w.copies) step.gives) step.does place r at rest calm

pub rest_goes_on : RestingLaws → RestGoesOn
rest_goes_on laws since t notes before after replays step place r at rest calm =
    let goes = one_event laws since t notes before after replays step place r at rest calm in
    (goes.next, goes.here, goes.resting, goes.keeps)

-- ---- one event after another

abbrev pub nothing_goes : (since place : ℕ) (w : Parts) (r : Member) → slice_get w.members place ≡ Some r → IsResting since w r → GoesOn since place w w r
nothing_goes since place w r at rest = record {
  next = r;
  here = record { was = at; is = at };
  resting = rest;
  keeps = λ k s then both.
      let same : s ≡ then = same_Some s then (sym both.was ∙ both.is) in
      subst (λ (m : Member). (IsReached w r s ↔ IsReached w r m) × (IsReached w r s → AreAssignmentsUnchanged s.router.held.assigned m.router.held.assigned)) same
      ((λ is. is, λ is. is), λ _. refl);
  was = λ k then is. (then, record { was = is; is = is });
  reach = refl;
  kept = λ k m then both. subst (IsKept m) (same_Some m then (sym both.was ∙ both.is)) (record { running = refl; attachments = refl; id = refl });
  on = λ k m is. (m, is);
}

abbrev pub both_go : (since place : ℕ) (a b c : Parts) (r : Member) → (first : GoesOn since place a b r) → GoesOn since place b c first.next → GoesOn since place a c r
both_go since place a b c r first second = record {
  next = second.next;
  here = record { was = first.here.was; is = second.here.is };
  resting = second.resting;
  keeps = λ k s then both.
      let (m, later) = second.was k then both.is in
      let one = first.keeps k s m (record { was = both.was; is = later.was }) in
      let two = second.keeps k m then later in (
        (λ is. two.0.0 (one.0.0 is), λ is. one.0.1 (two.0.1 is)),
        λ is. two.1 (one.0.0 is) ∙ one.1 is,
      );
  was = λ k then is.
      let (m, later) = second.was k then is in
      let (s, sooner) = first.was k m later.was in
      (s, record { was = sooner.was; is = later.is });
  reach = second.reach ∙ first.reach;
  kept = λ k s then both.
      let (m, later) = second.was k then both.is in
      let one = first.kept k s m (record { was = both.was; is = later.was }) in
      let two = second.kept k m then later in
      record { running = two.running ∙ one.running; attachments = two.attachments ∙ one.attachments; id = two.id ∙ one.id };
  on = λ k s is. let (m, sooner) = first.on k s is in second.on k m sooner;
}

all_go : RestingLaws → (since place : ℕ) (ts : List Traced) (before after : Parts) (r : Member) → IsReplayed before → slice_get before.members place ≡ Some r → IsResting since before r
    → GoesCalmly since place before ts after → GoesOn since place before after r
all_go laws since place [] before after r replays at rest is = subst (λ (w : Parts). GoesOn since place before w r) (sym is) (nothing_goes since place before r at rest)
all_go laws since place (t ∷ ts) before after r replays at rest (between, (notes, step), calm, goes) =
    let first = one_event laws since t notes before between replays step place r at rest (calm r at) in
    both_go since place before between after r first
    (all_go laws since place ts between after first.next (replays_more laws.next t notes before between replays step) first.here.is first.resting goes)

pub rest_lasts : RestingLaws → RestLasts
rest_lasts laws ts place before after r replays at runs settled quiet waiting goes =
    let start : AreCurrent (length before.copies) before r = λ k mail y counts there to reached. elim counts [
      | inl waits ↦ waiting k mail y waits there to reached
      | inr le ↦ let within = slice_get_within before.copies k mail there in absurd (omega (arith, le, within))
    ] in
    let all = all_go laws (length before.copies) place ts before after r replays at (record { runs = runs; settled = settled; quiet = quiet; current = start }) goes in
    (all.next, all.here, all.resting.settled, all.resting.quiet, all.keeps)
