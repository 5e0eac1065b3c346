-- A home is calm if no premise is missing, and only then.
use Rattle.hn_base.proofs.Names.{◌≡◌, ◌↔◌, ◌∙◌, ℕ, ◌-◌, ◌<◌, true, IsTrue, List, [], ◌∷◌, Option, None, Some, IfSome, All, All-contains, Contains, length, is_some, false≢true}
use Rattle.hn_base.proofs.Names.{inl, inr, refl, sym, ap, subst, arith, slice_get, slice_get_read, slice_get-get_or, slice_get_within, get_or, get_or_from_slice_get, position-Some}
use Rattle.hn_base.proofs.Elements.{all_of}
use Rattle.hn_base.proofs.PartsAtPlaces.{contains_at}
use Rattle.hn_base.proofs.PassingElements.{none_passes}
use Rattle.hn_dncp.specs.declared.peers.Neighbour.{Neighbour}
use Rattle.hn_dncp.specs.declared.port.Port.{Port}
use Rattle.hn_audit.specs.First.{IsFirstFound}
use Rattle.hn_audit.specs.Heard.{IsCalmSince, IsLinkedPeer}
use Rattle.hn_audit.specs.Lasting.{IsLastingHome}
use Rattle.hn_audit.specs.Quiet.{IsQuietByRules}
use Rattle.hn_audit.specs.Reached.{IsReached, IsRunning}
use Rattle.hn_audit.specs.Settled.{IsSettledByRules}
use Rattle.hn_rules.specs.Lasting.{IsLastingUntil}
use Rattle.hn_world.specs.Waiting.{first_waiting}
use Rattle.hn_world.specs.declared.copies.MailCopy.{MailCopy}
use Rattle.hn_world.specs.declared.member.Member.{Member}
use Rattle.hn_world.specs.declared.parts.Parts.{Parts}
use Rattle.hn_calm.specs.Home.{AreReached, FindsApart, FindsEnded, FindsUncalm, FindsWaiting, IsCalmBefore, LastBefore}
use Rattle.hn_calm.specs.Peers.{FindsAtPort, FindsAtRouter, FindsMissing, FindsPeer, FindsSent, FindsSentOf, IsHeardPeer}
use Rattle.hn_calm.specs.declared.uncalm.Uncalm.{Uncalm}

-- ---- copies

pub none_waits : (copies : List MailCopy) → first_waiting copies ≡ None → (k : ℕ) (mail : MailCopy) → slice_get copies k ≡ Some mail → mail.waiting ≡ true → ⊥
none_waits copies none k mail at waits =
    let fails = none_passes (λ (m : MailCopy). m.waiting) copies none k mail (slice_get_within copies k mail at) in
    false≢true (sym fails ∙ ap (λ (m : MailCopy). m.waiting) (get_or_from_slice_get copies k mail mail at) ∙ waits)

pub first_waits : (copies : List MailCopy) (place : ℕ) → first_waiting copies ≡ Some place → (mail : MailCopy) × (slice_get copies place ≡ Some mail) × (mail.waiting ≡ true)
first_waits [] place first = absurd cc
first_waits (c ∷ copies) place first =
    let found = position-Some (λ (m : MailCopy). m.waiting) (c ∷ copies) place c first in
    (get_or (c ∷ copies) place c, slice_get-get_or (c ∷ copies) place c found.0, found.1)

-- ---- peers

place_of : {X : Type 0} (xs : List X) (x : X) → Contains xs x → (k : ℕ) × (slice_get xs k ≡ Some x)
place_of xs x (k, within, is) = (k, slice_get_read xs (length xs) k x refl within (sym is))

module _ (w : Parts) (r y : Member) (q : Port) (peer : Neighbour) where
  -- the endpoint that a search found is a linked peer
  pub sent_linked : AreReached w r → (after : Option ℕ) (sent : ℕ) → IsFirstFound (FindsSentOf y q.id peer after) w.members (Some sent)
      → (l : IsLinkedPeer w r y q peer) × (sent ≡ l.port.sent) × IfSome after (λ a. a < l.port.sent)
  sent_linked reached after sent f =
      let x = f.one in
      let runs : IsRunning w x = record { there = contains_at w.members f.place x f.at; running = f.found.0 } in
      let g = f.found.1 in
      let at = g.found.0 in (
        record {
          x = x;
          reached = reached x runs;
          port = g.one;
          there = contains_at x.router.ports g.place g.one g.at;
          node = at.node;
          endpoint = at.endpoint;
          other = at.other;
          link = at.link;
        },
        g.found.2,
        g.found.1,
      )

  -- where it found none, no linked peer has sent
  pub none_linked : (after : Option ℕ) → IsFirstFound (FindsSentOf y q.id peer after) w.members None → (l : IsLinkedPeer w r y q peer) → IfSome after (λ a. a < l.port.sent) → ⊥
  none_linked after none l later =
      let of_x : All (λ p. FindsSent l.x y q.id peer after p None) l.x.router.ports =
      All-contains (λ x. FindsSentOf y q.id peer after x None) w.members l.x none l.reached.runs.there l.reached.runs.running in
      All-contains (λ p. FindsSent l.x y q.id peer after p None) l.x.router.ports l.port of_x l.there
      (record { node = l.node; endpoint = l.endpoint; other = l.other; link = l.link }) later

  -- a search that found one
  pub linked_if : AreReached w r → (after found : Option ℕ) → IsFirstFound (FindsSentOf y q.id peer after) w.members found → is_some found ≡ true → IsLinkedPeer w r y q peer
  linked_if reached after None f some = absurd cc
  linked_if reached after (Some sent) f some = (sent_linked reached after sent f).0

module _ (w : Parts) (r : Member) where
  -- each peer was heard
  pub heard_at : FindsMissing w r None → (y : Member) (q : Port) (peer : Neighbour) → IsReached w r y → Contains y.router.ports q → Contains q.peers peer → IsHeardPeer w r y q peer
  heard_at none y q peer reached of_y of_q =
      let at_y : All (λ p. FindsAtPort w r y p None) y.router.ports = All-contains (λ m. FindsAtRouter w r m None) w.members y none reached.runs.there reached.runs.running in
      let at_q : All (λ n. FindsPeer w r y q n None) q.peers = All-contains (λ p. FindsAtPort w r y p None) y.router.ports q at_y of_y in
      All-contains (λ n. FindsPeer w r y q n None) q.peers peer at_q of_q

  pub calm_since : IsRunning w r → IsSettledByRules w r → IsQuietByRules w r → first_waiting w.copies ≡ None → FindsMissing w r None → IsCalmSince (w.moment - 19999) w r
  calm_since runs settled quiet waits none = record {
    runs = runs;
    settled = settled;
    quiet = quiet;
    current = λ k mail y waiting at there reached. absurd (none_waits w.copies waits k mail at waiting);
    later = omega arith;
    peers = λ y q peer reached of_y of_q.
        let heard = heard_at none y q peer reached of_y of_q in
        let lately = heard.lately in
        (subst (λ node. Contains r.router.reach node) (sym heard.linked.node) heard.linked.reached.reached, omega (arith, lately));
    linked = λ y q peer reached of_y of_q. (heard_at none y q peer reached of_y of_q).linked;
    sends = λ i j x y p q peer at_x at_y reached_x reached_y of_x of_y of_q node endpoint other link later.
        inl ((heard_at none y q peer reached_y of_y of_q).last
        (record { x = x; reached = reached_x; port = p; there = of_x; node = node; endpoint = endpoint; other = other; link = link }));
  }

  -- ---- until when

  pub last_until : IsRunning w r → AreReached w r → (end : ℕ) → LastBefore r w.members end → (until : ℕ) → (until < end) ↔ IsLastingHome until w r
  last_until runs reached end last until = (
    λ before. record {
      each = λ x of_set. All-contains (λ m. IsTrue m.running → IsLastingUntil until m.router) w.members x ((last until).0 before).1 of_set.runs.there of_set.runs.running;
      all = reached;
    },
    λ home. (last until).1 (
      home.each r (home.all r runs),
      all_of (λ m. IsTrue m.running → IsLastingUntil until m.router) w.members (λ m there running. home.each m (home.all m (record { there = there; running = running }))),
    ),
  )

  pub last_later : IsRunning w r → (end : ℕ) → LastBefore r w.members end → IsFirstFound (FindsEnded w.moment) w.members None → w.moment < end
  last_later runs end last none = (last w.moment).1 (All-contains (λ m. FindsEnded w.moment m None) w.members r none runs.there runs.running, none)

  pub reached_all : IsFirstFound (FindsApart r.router.reach) w.members None → AreReached w r
  reached_all none x runs =
      record { runs = runs; reached = All-contains (λ m. FindsApart r.router.reach m None) w.members x none runs.there runs.running }

  pub calm_before : IsRunning w r → IsSettledByRules w r → IsQuietByRules w r → FindsUncalm w r None → (end : ℕ) → LastBefore r w.members end → IsCalmBefore end w r
  calm_before runs settled quiet none end last = record {
    calm = calm_since runs settled quiet none.1.0 none.1.1.0;
    none_waits = none_waits w.copies none.1.0;
    lasts = last_until runs (reached_all none.0) end last;
    later = last_later runs end last none.1.1.1;
  }

  -- ---- a premise that is missing

  module _ (end : ℕ) (calm : IsCalmBefore end w r) where
    home : IsLastingHome w.moment w r
    home = (calm.lasts w.moment).0 calm.later

    not_apart : (u : Uncalm) → IsFirstFound (FindsApart r.router.reach) w.members (Some u) → ⊥
    not_apart u f = f.found.1 (home.all f.one (record { there = contains_at w.members f.place f.one f.at; running = f.found.0 })).reached

    not_waiting : (u : Uncalm) → FindsWaiting w.copies (Some u) → ⊥
    not_waiting u (place, first, is) =
        let (mail, at, waits) = first_waits w.copies place first in calm.none_waits place mail at waits

    not_missing : (u : Uncalm) (y : Member) (q : Port) (peer : Neighbour) → IsReached w r y → Contains y.router.ports q → Contains q.peers peer → FindsPeer w r y q peer (Some u) → ⊥
    not_missing u y q peer reached of_y of_q (inl unlinked) = unlinked.unlinked (calm.calm.linked y q peer reached of_y of_q)
    not_missing u y q peer reached of_y of_q (inr (inl unheard)) =
        let since = (calm.calm.peers y q peer reached of_y of_q).1 in
        let long = unheard.long in
        omega (arith, since, long)
    not_missing u y q peer reached of_y of_q (inr (inr missed)) =
        let l = missed.linked in
        let i = place_of w.members l.x l.reached.runs.there in
        let j = place_of w.members y reached.runs.there in
        elim (calm.calm.sends i.0 j.0 l.x y l.port q peer i.1 j.1 l.reached reached l.there of_y of_q l.node l.endpoint l.other l.link (omega arith)) [
          | inl heard ↦ let since = missed.since in omega (arith, heard, since)
          | inr way ↦ calm.none_waits way.k way.mail way.there way.waits
        ]

    not_of_peers : (u : Uncalm) → FindsMissing w r (Some u) → ⊥
    not_of_peers u f =
        let y = f.one in
        let g = f.found.1 in
        let h = g.found in
        not_missing u y g.one h.one (home.all y (record { there = contains_at w.members f.place y f.at; running = f.found.0 })) (contains_at y.router.ports g.place g.one g.at)
        (contains_at g.one.peers h.place h.one h.at) h.found

    not_ended : (u : Uncalm) → IsFirstFound (FindsEnded w.moment) w.members (Some u) → ⊥
    not_ended u f = f.found.1 (home.each f.one (home.all f.one (record { there = contains_at w.members f.place f.one f.at; running = f.found.0 })))

    pub not_uncalm : (u : Uncalm) → FindsUncalm w r (Some u) → ⊥
    not_uncalm u (inl apart) = not_apart u apart
    not_uncalm u (inr (none, inl waits)) = not_waiting u waits
    not_uncalm u (inr (none, inr (none_waits, inl peers))) = not_of_peers u peers
    not_uncalm u (inr (none, inr (none_waits, inr (heard, ended)))) = not_ended u ended
