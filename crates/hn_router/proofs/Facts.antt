-- What each event keeps: what is sent is short and of bytes, the limit of the table stays, and what is held and sent was published.
use Rattle.hn_base.proofs.Names.{◌≡◌, ◌<◌, ◌^◌, ◌⊎◌, ℕ, List, [], ◌++◌, inl, inr, refl, sym, ap, subst, arith, All, nat_eq, option_eq, cond_both, append-nil, All-nil}
use Rattle.hn_router.proofs.Names.{length, EpId, PlainTlv, Done, Running, State, EachKeeps, IsAttaching, detaching, RouterStaysLater, AttachingKeeps, KeepsWell, IsWell, IsRouter, begun_at, PlainEvent}
use Rattle.hn_router.proofs.Names.{Arrive, IsEventInRange, IsShortSend}
use Rattle.std.specs.Prelude.{◌≤◌}
use Rattle.hn_rules.specs.declared.answers.Answer.{Answer}
use Rattle.hn_rules.specs.declared.done.Outgoing.{Outgoing}
use Rattle.hn_rules.specs.declared.done.Publication.{Publication}
use Rattle.hn_own.specs.HeldPairs.{without_private}
use Rattle.hn_rules.specs.Genuine.{IsGenuine, TextsCollide, TlvsSayPublished, BytesSayPublished, IsGenuineAnswer, IsGenuineSoFar, IsGenuineOrCollides}
use Rattle.hn_rules.specs.Laws.{ChangesKeepLimit, RouterIsHashed, ChangesKeepShort, ChangesKeepBytes, ChangesKeepGenuine}
use Rattle.hn_rules.specs.Lengths.{most_answer, most_datagram, AreShort}
use Rattle.hn_rules.specs.Router.{IsHashed}
use Rattle.hn_rules.specs.Spelled.{IsSpelled, AreOfBytes}
use Rattle.hn_router.specs.Act.{Happened}
use Rattle.hn_router.specs.Laws.{IsTrusted, SendsAreShort, SendsAreBytes, LimitStays, GenuineStays}
use Rattle.hn_router.specs.Sends.{IsSendOfBytes}
use Rattle.hn_router.proofs.Changing.{ChangeLaws, IsFrom, given_keep, event_keeps}
use Rattle.hn_router.proofs.Edits.{EndpointsKeep, GivenKeep}

-- ---- the limit

limit_ends : (limit : ℕ) → EndpointsKeep (λ event. Unit {0}) (λ r. r.state.table.limit ≡ limit)
limit_ends limit = record {
  attaching = λ at r a ranged some room is same. subst (λ (x : Running). x.state.table.limit ≡ limit) (sym is.gives) same;
  detaching = λ at r same. same;
}

limit_given : (limit : ℕ) → GivenKeep (λ event. Unit {0}) (λ r. r.state.table.limit ≡ limit)
limit_given limit = record {
  delegating = λ prefix valid preferred r ranged may same. same;
  private = λ length r ranged same.
      cond_both (option_eq nat_eq length r.state.private) r (record r { state = record r.state { private = length; held = without_private r.state.held } })
      (λ (x : Running). x.state.table.limit ≡ limit) (λ _. same) (λ _. same);
  addressing = λ list r ranged may same. same;
}

pub limit_stays : ChangeLaws → ChangesKeepLimit → LimitStays
unfolding Happened
limit_stays laws keeps now event s next done (after, holds, (due, is_due, is_next), is_done) =
    subst (λ (x : State). x.table.limit ≡ s.table.limit) (sym is_next)
    (event_keeps laws (λ event. Unit {0}) (λ r. r.state.table.limit ≡ s.table.limit) (limit_ends s.table.limit) (limit_given s.table.limit)
    event tt (λ tlvs from. keeps tlvs s.table.limit) (begun_at now s) after holds refl)

-- ---- the network state hash, and lengths

-- the laws of a router, and of endpoints that come and go
pub record EndLaws : Type 0 where
  pub changes : ChangeLaws
  pub later : RouterStaysLater
  pub hashed : RouterIsHashed
  pub attaches : AttachingKeeps
  pub detaches : (at : EpId) → KeepsWell (λ b a. a ≡ detaching at b)

module _ (laws : EndLaws) where
  hashed_attached : (at : EpId) (r a : Running) → at.0 < 2 ^ 32 → 0 < at.0 → length r.state.ports < 16 → IsAttaching at r a → IsHashed r.state → IsHashed a.state
  hashed_attached at r a fits some room is hashed =
      let well = laws.attaches at r a some fits room is hashed.well in
      subst (λ (x : Running). IsHashed x.state) (sym is.gives) (record { well = subst (λ (x : Running). IsWell x.state) is.gives well; hash = hashed.hash })

  hashed_detached : (at : EpId) (r : Running) → IsHashed r.state → IsHashed (detaching at r).state
  hashed_detached at r hashed = record { well = laws.detaches at r (detaching at r) refl hashed.well; hash = hashed.hash }

  -- a fact of answers and sends, which each change keeps
  module _ (P : Running → Type 0) (same : (r a : Running) → a.answers ≡ r.answers → a.done.sends ≡ r.done.sends → P r → P a)
      (keeps : (tlvs : List PlainTlv) → EachKeeps tlvs (λ r. IsHashed r.state × P r)) where
    sending_ends : EndpointsKeep IsEventInRange (λ r. IsHashed r.state × P r)
    sending_ends = record {
      attaching = λ at r a fits some room is (hashed, so). (
        hashed_attached at r a fits some room is hashed,
        same r a (ap (λ (x : Running). x.answers) is.gives) (ap (λ (x : Running). x.done.sends) is.gives) so,
      );
      detaching = λ at r (hashed, so). (hashed_detached at r hashed, same r (detaching at r) refl refl so);
    }

    -- holds of the router in the middle of an event, at its end
    sent_at_end : (now : ℕ) (event : PlainEvent) (s next : State) (done : Done) → IsRouter s → s.moment ≤ now → IsEventInRange event → Happened now event s next done
        → P (begun_at now s) → (after : Running) × P after × (done ≡ after.done)
    unfolding Happened
    sent_at_end now event s next done router rises ranged (after, holds, (due, is_due, is_next), is_done) begun =
        let hashed : IsHashed (begun_at now s).state = laws.hashed (begun_at now s).state (laws.later now s router rises) in
        let given = given_keep laws.changes (λ r. IsHashed r.state × P r) (keeps []) in
        let kept =
        event_keeps laws.changes IsEventInRange (λ r. IsHashed r.state × P r) sending_ends given event ranged (λ tlvs from. keeps tlvs) (begun_at now s) after holds (hashed, begun) in
        (after, kept.1, is_done)

  pub sends_short : ChangesKeepShort → SendsAreShort
  sends_short keeps now event s next done router rises ranged holds =
      let none : AreShort (begun_at now s) =
      record { answers = All-nil (λ (a : Answer). length a.tlv ≤ most_answer); sends = All-nil (λ (o : Outgoing). length o.bytes ≤ most_datagram) } in
      let (after, short, is_done) = sent_at_end AreShort same keeps now event s next done router rises ranged holds none in
      subst (λ (d : Done). All IsShortSend d.sends) (sym is_done) short.sends
    where
      same : (r a : Running) → a.answers ≡ r.answers → a.done.sends ≡ r.done.sends → AreShort r → AreShort a
      same r a answers sends so = record {
        answers = subst (All (λ (x : Answer). length x.tlv ≤ most_answer)) (sym answers) so.answers;
        sends = subst (All (λ (o : Outgoing). length o.bytes ≤ most_datagram)) (sym sends) so.sends;
      }

  pub sends_bytes : ChangesKeepBytes → SendsAreBytes
  sends_bytes keeps now event s next done router rises ranged holds =
      let none : AreOfBytes (begun_at now s) = record { answers = All-nil IsSpelled; sends = All-nil IsSendOfBytes } in
      let (after, bytes, is_done) = sent_at_end AreOfBytes same keeps now event s next done router rises ranged holds none in
      subst (λ (d : Done). All IsSendOfBytes d.sends) (sym is_done) bytes.sends
    where
      same : (r a : Running) → a.answers ≡ r.answers → a.done.sends ≡ r.done.sends → AreOfBytes r → AreOfBytes a
      same r a answers sends so = record { answers = subst (All IsSpelled) (sym answers) so.answers; sends = subst (All IsSendOfBytes) (sym sends) so.sends }

  -- ---- what was published

  genuine_ends : (past : List Publication) → EndpointsKeep IsEventInRange (IsGenuineOrCollides past)
  genuine_ends past = record { attaching = attached; detaching = left }
    where
      attached : (at : EpId) (r a : Running) → at.0 < 2 ^ 32 → 0 < at.0 → length r.state.ports < 16 → IsAttaching at r a → IsGenuineOrCollides past r → IsGenuineOrCollides past a
      attached at r a fits some room is (inl (hashed, so)) =
          inl (
            hashed_attached at r a fits some room is hashed,
            subst (IsGenuineSoFar past) (sym is.gives) (record { state = record { own = so.state.own; others = so.state.others }; answers = so.answers; sends = so.sends }),
          )
      attached at r a fits some room is (inr collide) = inr (subst (λ (x : Running). TextsCollide (past ++ x.done.published)) (sym is.gives) collide)

      left : (at : EpId) (r : Running) → IsGenuineOrCollides past r → IsGenuineOrCollides past (detaching at r)
      left at r (inl (hashed, so)) =
          inl (hashed_detached at r hashed, record { state = record { own = so.state.own; others = so.state.others }; answers = so.answers; sends = so.sends })
      left at r (inr collide) = inr collide

  -- TLVs from which an event takes say what was published
  no_tlvs : (past : List Publication) → TlvsSayPublished past []
  no_tlvs past tlv (k, within, is) = absurd (omega arith)

  say_from : (past : List Publication) (event : PlainEvent) → IsTrusted past event → (tlvs : List PlainTlv) → IsFrom event tlvs → TlvsSayPublished past tlvs
  say_from past (Arrive from bytes) trusted tlvs (inl none) = subst (TlvsSayPublished past) (sym none) (no_tlvs past)
  say_from past (Arrive from bytes) trusted tlvs (inr list) = trusted tlvs list
  say_from past _ trusted tlvs none = subst (TlvsSayPublished past) (sym none) (no_tlvs past)

  begun_genuine : (past : List Publication) (now : ℕ) (s : State) → IsGenuine past s → IsGenuineSoFar past (begun_at now s)
  begun_genuine past now s genuine =
      let same : IsGenuine (past ++ []) s = subst (λ (list : List Publication). IsGenuine list s) (sym (append-nil past)) genuine in
      record {
        state = record { own = same.own; others = same.others };
        answers = All-nil (IsGenuineAnswer (past ++ []));
        sends = All-nil (λ (o : Outgoing). BytesSayPublished (past ++ []) o.bytes);
      }

  -- what an event leaves, by the router in the middle of it at its end
  abbrev IsLeftAtEnd : List Publication → State → Done → Type 0
  IsLeftAtEnd past next done =
      (IsGenuine (past ++ done.published) next × All (λ o. BytesSayPublished (past ++ done.published) o.bytes) done.sends) ⊎ TextsCollide (past ++ done.published)

  left_at_end : (past : List Publication) (due : ℕ) (r : Running) → IsGenuineOrCollides past r → IsLeftAtEnd past (record r.state { due = due }) r.done
  left_at_end past due r (inl (hashed, so)) = inl (record { own = so.state.own; others = so.state.others }, so.sends)
  left_at_end past due r (inr collide) = inr collide

  pub genuine_stays : ChangesKeepGenuine → GenuineStays
  unfolding Happened
  genuine_stays keeps past now event s next done router rises ranged genuine trusted (after, holds, (due, is_due, is_next), is_done) =
      let begun : IsHashed (begun_at now s).state = laws.hashed (begun_at now s).state (laws.later now s router rises) in
      let given = given_keep laws.changes (IsGenuineOrCollides past) (keeps past [] (no_tlvs past)) in
      let kept = event_keeps laws.changes IsEventInRange (IsGenuineOrCollides past) (genuine_ends past) given event ranged (λ tlvs from. keeps past tlvs (say_from past event trusted tlvs from))
      (begun_at now s) after holds (inl (begun, begun_genuine past now s genuine)) in
      subst (λ (x : State). IsLeftAtEnd past x done) (sym is_next) (subst (IsLeftAtEnd past (record after.state { due = due })) (sym is_done) (left_at_end past due after kept))
