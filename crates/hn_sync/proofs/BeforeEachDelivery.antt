-- An exchange as it goes: what its two routers and its copies are before each delivery.
use Rattle.hn_base.proofs.Names.{◌≡◌, ◌≢◌, ◌∙◌, ◌<◌, ◌+◌, ◌-◌, ◌^◌, ℕ, suc, true, false, List, [], ◌∷◌, ◌++◌, length, map, slice_get, slice_set, position, is_some, Contains, Option, Some, None, sym}
use Rattle.hn_base.proofs.Names.{ap, subst, refl, arith, length-append, option_map_or, eq-eqb, All-contains, same_Some, slice_get_within, IsLinkLocal}
use Rattle.hn_sync.proofs.Names.{◌==◌, Contains-map, contains_at, EpId, NodeId, Port, has_peer, endpoints_of, is_attached, port_at, Arrive, Happened, Done, Running, State, begun_at, IsTable}
use Rattle.hn_sync.proofs.Names.{ListIsUnique, ListHasNoFirstFault, MailCopy, Target, Member, Parts, address_of_target, on_link, is_named, is_on, link_of, IsReplayed, IsSoundMember}
use Rattle.hn_router.specs.Laws.{MomentIsNow}
use Rattle.hn_sync.proofs.Arrivals.{has_arrived}
use Rattle.hn_sync.proofs.Between.{HasLaws, HasPorts}
use Rattle.hn_sync.proofs.NodeStatesSaid.{IsFit}
use Rattle.hn_sync.proofs.LeastJoint.{port_there}
use Rattle.hn_sync.proofs.WhatCopiesSay.{Letter, copy_of, map_letters, on_link_there}
use Rattle.hn_sync.proofs.ListsFromLists.{set_is, set_other}
use Rattle.hn_sync.proofs.FewRouters.{few_routers, near}
use Rattle.hn_sync.proofs.CopiesToDeliver.{get_after, set_after, ToAsker, ToAsked, AreLetters, PendingIn, WaitingIn, LearnsBy, opened}
use Rattle.hn_sync.proofs.NothingToRefresh.{IsQuiet}
use Rattle.hn_sync.proofs.Sayings.{Saying}
use Rattle.hn_sync.proofs.PeersSaid.{Ascend, knows_at, knows_from_signs}
use Rattle.hn_sync.proofs.AskedStays.{IsAskedAsBefore}
use Rattle.hn_sync.proofs.TurnsOfExchange.{TurnLaws, IsReplied, requests_arrive, IsTaught, states_arrive}

pub record GoingLaws : Type 0 where
  pub turns : TurnLaws
  pub world : HasLaws
  pub one_list : ListIsUnique
  pub no_fault : ListHasNoFirstFault
  pub moment : MomentIsNow

-- ---- an endpoint that knows a peer is attached

pub known_attached : (e : EpId) (node : NodeId) (f : EpId) (ports : List Port) → knows_at e node f ports ≡ true → is_attached e ports ≡ true
known_attached e node f ports knows = by_port (port_at e ports) refl knows
  where
    by_port : (o : Option Port) → port_at e ports ≡ o → option_map_or (λ port. has_peer node f port.peers) o false ≡ true → is_attached e ports ≡ true
    by_port None is h = absurd (cc)
    by_port (Some port) is h = ap (λ (o : Option Port). is_some o) is

pub known_there : (e : EpId) (node : NodeId) (f : EpId) (ports : List Port) → knows_at e node f ports ≡ true → Contains (endpoints_of ports) e
known_there e node f ports knows = by_port (port_at e ports) refl knows
  where
    by_port : (o : Option Port) → port_at e ports ≡ o → option_map_or (λ port. has_peer node f port.peers) o false ≡ true → Contains (endpoints_of ports) e
    by_port None is h = absurd (cc)
    by_port (Some port) is h = let at = port_there e ports port is in subst (λ (x : EpId). Contains (endpoints_of ports) x) at.1 (Contains-map (λ (p : Port). p.id) ports port at.0)

pub on_from_link : (link : ℕ) (m : Member) (e : EpId) → link_of e m ≡ Some link → is_on link m e ≡ true
on_from_link link m e is = ap (λ (o : Option ℕ). option_map_or (λ l. l == link) o false) is ∙ eq-eqb link link refl

-- ---- the two routers

pub record IsPair (here there : Target) (link : ℕ) (start before : State) : Type 0 where
  pub apart : here.place ≢ there.place
  pub fit : IsFit start
  pub quiet : IsQuiet start
  pub table : IsTable before.table
  pub up : Ascend before.ports
  pub id_fits : before.id.0 < 2 ^ 32
  pub here_fits : here.endpoint.0 < 2 ^ 32
  pub there_fits : there.endpoint.0 < 2 ^ 32
  pub knows_one : knows_at here.endpoint before.id there.endpoint start.ports ≡ true
  pub knows_other : knows_at there.endpoint start.id here.endpoint before.ports ≡ true

module _ (laws : GoingLaws) (here there : Target) (link : ℕ) (start before : State) (pair : IsPair here there link start before) (name other_name : List ℕ) where
  abbrev pub LearnsIn : List Letter → Running → List Saying → Type 0
  LearnsIn queue r rest = LearnsBy here there start before laws.turns.tables.of_entry laws.turns.tables.marks queue r rest

  -- before the delivery of a copy, of this number
  pub record IsGoing (n : ℕ) (w : Parts) : Type 0 where
    pub moment : start.moment ≡ w.moment
    pub place_one : position (is_named name) w.members ≡ Some here.place
    pub place_two : position (is_named other_name) w.members ≡ Some there.place
    pub one : Member
    pub two : Member
    pub is_one : slice_get w.members here.place ≡ Some one
    pub is_two : slice_get w.members there.place ≡ Some two
    pub link_one : link_of here.endpoint one ≡ Some link
    pub link_two : link_of there.endpoint two ≡ Some link
    pub front : List MailCopy
    pub size : suc (length front) ≡ n
    pub queue : List Letter
    pub copies : w.copies ≡ front ++ map copy_of queue
    pub letters : AreLetters here there start before queue
    pub still : IsAskedAsBefore start one.router
    pub learns : LearnsIn queue (begun_at w.moment two.router) []

  -- the copies after a delivery
  pub copies_taken : (n : ℕ) (front : List MailCopy) (l : Letter) (tail new : List Letter) (copies more : List MailCopy) (c : MailCopy)
      → suc (length front) ≡ n → copies ≡ front ++ map copy_of (l ∷ tail) → more ≡ map copy_of new
      → slice_set (copies ++ more) (n - 1) c ≡ (front ++ c ∷ []) ++ map copy_of (tail ++ new)
  copies_taken n front l tail new copies more c size is is_more =
      let place : n - 1 ≡ length front = omega (arith, size) in
      (λ i. slice_set (is i ++ is_more i) (place i) c) ∙ (set_after front l.copy (map copy_of tail) (map copy_of new) c
      ∙ ap (λ (xs : List MailCopy). (front ++ c ∷ []) ++ xs) (sym (map_letters tail new)))

  -- the letter that is delivered
  pub first_letter : (n : ℕ) (w : Parts) (h : IsGoing n w) (mail : MailCopy) → slice_get w.copies (n - 1) ≡ Some mail → (l : Letter) × ((tail : List Letter) × (h.queue ≡ l ∷ tail) × (mail ≡ l.copy))
  first_letter n w h mail at = by_queue h.queue refl (sym (ap (λ (xs : List MailCopy). slice_get xs (n - 1)) h.copies
      ∙ (ap (slice_get (h.front ++ map copy_of h.queue)) place ∙ get_after h.front (map copy_of h.queue))) ∙ at)
    where
      place : n - 1 ≡ length h.front
      place = let size = h.size in omega (arith, size)

      by_queue : (queue : List Letter) → h.queue ≡ queue → slice_get (map copy_of queue) 0 ≡ Some mail → (l : Letter) × ((tail : List Letter) × (h.queue ≡ l ∷ tail) × (mail ≡ l.copy))
      by_queue [] is none = absurd (cc)
      by_queue (l ∷ tail) is some = (l, (tail, is, sym (same_Some l.copy mail some)))

  -- who is at a place after a router was changed
  module _ (w : Parts) (place : ℕ) (m : Member) (s : State) (at : slice_get w.members place ≡ Some m) where
    pub here_then : slice_get (slice_set w.members place (record m { router = s })) place ≡ Some (record m { router = s })
    here_then = set_is w.members place m (record m { router = s }) at

    pub other_then : (k : ℕ) (x : Member) → k ≢ place → slice_get w.members k ≡ Some x → slice_get (slice_set w.members place (record m { router = s })) k ≡ Some x
    other_then k x apart is = set_other w.members place k (record m { router = s }) apart ∙ is

  -- an address of a router of the world is link-local
  pub near_at : (w : Parts) → IsReplayed w → (t : Target) (m : Member) → slice_get w.members t.place ≡ Some m → t.endpoint.0 < 2 ^ 32 → IsLinkLocal (address_of_target t).ip
  near_at w replayed t m at fits =
      let within = slice_get_within w.members t.place m at in
      let few = few_routers w replayed in
      near t (omega (arith, within, few)) fits

  pub ports_of : (w : Parts) → IsReplayed w → (m : Member) → Contains w.members m → HasPorts m
  ports_of w replayed m there_m = (All-contains (IsSoundMember w.moment) w.members m (laws.world.sound w replayed) there_m).router.well.ports

  pub on_link_of : (w : Parts) (t : Target) (m : Member) → slice_get w.members t.place ≡ Some m → Contains (endpoints_of m.router.ports) t.endpoint
      → link_of t.endpoint m ≡ Some link → Contains (on_link link 0 w.members) t
  on_link_of w t m at ends is =
      let got = on_link_there link 0 w.members t.place m t.endpoint at ends (on_from_link link m t.endpoint is) in
      let place : 0 + t.place ≡ t.place = omega arith in
      subst (λ (k : ℕ). Contains (on_link link 0 w.members) (record { place = k; endpoint = t.endpoint })) place got

  -- ---- a delivery to the router that is asked

  module _ (n : ℕ) (w : Parts) (replayed : IsReplayed w) (h : IsGoing n w) (l : Letter) (tail : List Letter) (queue_is : h.queue ≡ l ∷ tail) where
    pub knows_one : knows_at here.endpoint before.id there.endpoint h.one.router.ports ≡ true
    knows_one = knows_from_signs here.endpoint before.id there.endpoint h.one.router.ports start.ports h.still.signed ∙ pair.knows_one

    pub knows_two : knows_at there.endpoint start.id here.endpoint h.two.router.ports ≡ true
    knows_two = knows_from_signs there.endpoint start.id here.endpoint h.two.router.ports before.ports h.learns.signed ∙ pair.knows_other

    pub learns_here : LearnsIn (l ∷ tail) (begun_at w.moment h.two.router) []
    learns_here = subst (λ (q : List Letter). LearnsIn q (begun_at w.moment h.two.router) []) queue_is h.learns

    pub letters_here : AreLetters here there start before (l ∷ tail)
    letters_here = subst (AreLetters here there start before) queue_is h.letters

    pub is_front : suc (length (h.front ++ (record l.copy { waiting = false }) ∷ [])) ≡ suc n
    is_front = let size = h.size in let more = length-append h.front ((record l.copy { waiting = false }) ∷ []) in omega (arith, size, more)

    pub asked_then : ToAsked here there start before l → (next : State) (done : Done)
        → Happened w.moment (Arrive (record { endpoint = here.endpoint; from = address_of_target there; multicast = false }) l.copy.bytes) h.one.router next done
        → IsReplied start (record { endpoint = here.endpoint; from = address_of_target there; multicast = false }) l.group next done
    asked_then letter next done happened =
        requests_arrive laws.turns start pair.fit pair.quiet w.moment
        (record { endpoint = here.endpoint; from = address_of_target there; multicast = false }) before.id there.endpoint l.group h.one.router next done h.moment
        pair.id_fits pair.there_fits refl (ports_of w replayed h.one (contains_at w.members here.place h.one h.is_one)).ascending knows_one letter.all h.still
        (has_arrived laws.one_list laws.no_fault w.moment (record { endpoint = here.endpoint; from = address_of_target there; multicast = false }) l.copy.bytes _ h.one.router next done
        (near_at w replayed there h.two h.is_two pair.there_fits) (known_attached here.endpoint before.id there.endpoint h.one.router.ports knows_one) letter.says happened)

    pub taught_then : ToAsker here there start before l → l.to_asker ≡ true → (next : State) (done : Done) → next.id ≡ before.id
        → Happened w.moment (Arrive (record { endpoint = there.endpoint; from = address_of_target here; multicast = false }) l.copy.bytes) h.two.router next done
        → IsTaught laws.turns start before before.ports (PendingIn here there start before tail)
        (WaitingIn here there start before tail) pair.fit pair.table pair.up (record { endpoint = there.endpoint; from = address_of_target here; multicast = false }) next done
    taught_then letter goes next done named happened =
        states_arrive laws.turns start before before.ports (PendingIn here there start before tail) (WaitingIn here there start before tail) pair.fit pair.table pair.up w.moment
        (record { endpoint = there.endpoint; from = address_of_target here; multicast = false }) start.id here.endpoint l.group h.two.router next done
        pair.fit.numbered.own_id pair.here_fits refl pair.knows_other letter.all
        (opened here there start before laws.turns.tables.of_entry laws.turns.tables.marks l tail (begun_at w.moment h.two.router) goes refl learns_here) named
        (has_arrived laws.one_list laws.no_fault w.moment (record { endpoint = there.endpoint; from = address_of_target here; multicast = false }) l.copy.bytes _ h.two.router next done
        (near_at w replayed here h.one h.is_one pair.here_fits) (known_attached there.endpoint start.id here.endpoint h.two.router.ports knows_two) letter.says happened)
