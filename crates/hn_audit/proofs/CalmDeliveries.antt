-- A settled and quiet router stays so over a calm delivery.
use Rattle.hn_base.proofs.Names.{◌≡◌, ◌∙◌, ℕ, get_or, List, Some, slice_get, inr, refl, sym, ap, subst, arith, if◌then◌else◌, All-contains, Begins}
use Rattle.hn_audit.proofs.Names.{IsTrue, slice_set, contains_at, EpId, NodeId, endpoints_of, is_attached, Passing, Done, State, after_passing, IsStatusUpdate, Tick, MailCopy, Member, Parts}
use Rattle.hn_audit.proofs.Names.{IsSoundMember, origin_of, IsCalmArrival, IsRouterAtRest, IsReached, UseSame, IsMemberAt}
use Rattle.std.specs.Prelude.{not, Bool, true, false}
use Rattle.hn_rules.specs.declared.running.Origin.{Origin}
use Rattle.hn_rules.specs.Done.{nothing}
use Rattle.hn_rules.specs.Passing.{IsLetPass}
use Rattle.hn_rules.specs.Updates.{PeersUpdatesPass}
use Rattle.hn_router.specs.Act.{Arrive, Happened, is_refused}
use Rattle.hn_router.specs.Laws.{EndpointsFollow, OneResult}
use Rattle.hn_audit.specs.Calm.{QuietStaysOverDeliveries}
use Rattle.hn_audit.proofs.RestOfPassed.{PassLaws, rests_passed}
use Rattle.hn_audit.proofs.StayingSets.{IsSeenAsBefore}
use Rattle.hn_audit.proofs.StayingSteps.{StayLaws, put_there, tick_undue, stays_where_still}

-- the laws of the crates below on which it rests
pub record CalmLaws : Type 0 where
  pub stay : StayLaws
  pub pass : PassLaws
  pub follow : EndpointsFollow
  pub updates : PeersUpdatesPass
  pub one : OneResult

-- ---- what is let pass is all that happens

no_tick : (from : Origin) (bytes : List ℕ) → Arrive from bytes ≡ Tick → ⊥
no_tick from bytes is = cc

passing_happened : (now : ℕ) (from : Origin) (bytes : List ℕ) (s : State) (p : Passing) → IsLetPass from bytes now s p → Happened now (Arrive from bytes) s (after_passing p now s) nothing
unfolding Happened
passing_happened now from bytes s p passes = (
  passes.after,
  inr (ap not passes.attached, inr (inr (record { near = passes.near; tlvs = passes.tlvs; list = passes.list; arrives = passes.arrives }))),
  (0, inr (λ nothing_done. no_tick from bytes nothing_done.0, refl), ap (λ (x : State). let a : State = record x { due = 0 } in a) (sym passes.state)),
  sym passes.done,
)

pub only_passing : OneResult → (now : ℕ) (from : Origin) (bytes : List ℕ) (s n : State) (done : Done) (p : Passing) → IsLetPass from bytes now s p
    → Happened now (Arrive from bytes) s n done → (n ≡ after_passing p now s) × (done ≡ nothing)
only_passing one now from bytes s n done p passes happened =
    let stream : ℕ → ℕ = λ i. get_or done.words i 0 in
    let begins : Begins done.words stream = λ i within. refl in
    let none : Begins nothing.words stream = λ i within. absurd (omega (arith, within)) in
    one now (Arrive from bytes) s n (after_passing p now s) done nothing stream happened (passing_happened now from bytes s p passes) begins none

same_ends : (refused : Bool) (ends : List EpId) → (if refused then ends else ends) ≡ ends
same_ends true ends = refl
same_ends false ends = refl

-- what a calm arrival leaves
pub record IsPassed (now : ℕ) (mail : MailCopy) (s n : State) (done : Done) : Type 0 where
  pub p : Passing
  pub is : n ≡ after_passing p now s
  pub nothing_done : done ≡ nothing
  pub sender : NodeId × EpId
  pub heard : p ≡ record { endpoint = mail.to.endpoint; heard = Some sender }
  pub hash : List ℕ
  pub update : IsStatusUpdate mail.bytes sender.0 sender.1 hash
  pub attached : IsTrue (is_attached mail.to.endpoint s.ports)

module _ (laws : CalmLaws) (now : ℕ) (x : Member) (mail : MailCopy) (n : State) (done : Done) (sound : IsSoundMember now x)
    (happened : Happened now (Arrive (origin_of mail) mail.bytes) x.router n done) (calm : IsCalmArrival now mail x.router n) where
  pub passed : IsPassed now mail x.router n done
  passed =
      let passes = laws.updates (origin_of mail) mail.bytes now x.router sound.router sound.past calm.young calm.current in
      let only =
      only_passing laws.one now (origin_of mail) mail.bytes x.router n done (record { endpoint = mail.to.endpoint; heard = Some (calm.current.node, calm.current.endpoint) }) passes happened in
      record {
        p = record { endpoint = mail.to.endpoint; heard = Some (calm.current.node, calm.current.endpoint) };
        is = only.0;
        nothing_done = only.1;
        sender = (calm.current.node, calm.current.endpoint);
        heard = refl;
        hash = x.router.net;
        update = calm.current.update;
        attached = passes.attached;
      }

  module _ (rest : IsRouterAtRest x.router) where
    next : State
    next = after_passing passed.p now x.router

    ends : endpoints_of (after_passing passed.p now x.router).ports ≡ endpoints_of x.router.ports
    ends =
        subst (λ (m : State). endpoints_of m.ports ≡ endpoints_of x.router.ports) passed.is
        (laws.follow now (Arrive (origin_of mail) mail.bytes) x.router n done happened ∙ same_ends (is_refused (Arrive (origin_of mail) mail.bytes) x.router) (endpoints_of x.router.ports))

    used : UseSame x.router (after_passing passed.p now x.router)
    used = subst (UseSame x.router) passed.is calm.used

    -- the router is as others see it, and at rest
    pub passed_still : IsSeenAsBefore x.router n
    passed_still = subst (IsSeenAsBefore x.router) (sym passed.is) (record {
      number = refl;
      own = refl;
      reach = refl;
      known = λ id there. refl;
      used = used;
      assigned = refl;
      rests = rests_passed laws.pass now x.router passed.p sound.router sound.past rest ends used;
    })

pub stays_over : CalmLaws → QuietStaysOverDeliveries
stays_over laws copy words notes before after replays step place r next here runs settled quiet calm =
    let does = step.does in
    let acts = does.acts in
    let mail = does.mail in
    let x = acts.member in
    let n = acts.next in
    let gives : after.members ≡ slice_set before.members mail.to.place (record x { router = n }) =
    ap (λ (w : Parts). w.members) step.gives ∙ ap (λ (w : Parts). w.members) does.gives ∙ ap (λ (w : Parts). w.members) acts.gives in
    let at : IsMemberAt mail.to.place before after x (record x { router = n }) = record {
      was = acts.is_member;
      is = ap (λ (members : List Member). slice_get members mail.to.place) gives ∙ put_there before.members mail.to.place x (record x { router = n }) acts.is_member;
    } in
    let found = calm mail x (record x { router = n }) does.is_copy at in
    let sound : IsSoundMember before.moment x =
    All-contains (IsSoundMember before.moment) before.members x (laws.stay.worlds.sound before replays) (contains_at before.members mail.to.place x acts.is_member) in
    let still : IsReached before r x → IsSeenAsBefore x.router n = λ reached.
    passed_still laws before.moment x mail n acts.done sound acts.happened (found.1 reached) (quiet x reached) in
    stays_where_still laws.stay before after replays place r next here runs settled quiet (tick_undue before after mail.to.place x n acts.is_member gives r settled quiet found.0 still)
