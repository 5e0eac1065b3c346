-- The copies of an exchange go to and fro between its two endpoints.
use Rattle.hn_base.proofs.Names.{◌≡◌, ◌≢◌, ◌∙◌, ◌⊎◌, ◌<◌, ◌≤◌, ◌+◌, ◌-◌, ◌^◌, ℕ, suc, Bool, true, false, not, cond, List, [], ◌∷◌, ◌++◌, length, filter, slice_get, slice_set, Contains, is_some}
use Rattle.hn_base.proofs.Names.{Option, Some, None, sym, ap, subst, refl, inl, inr, arith, ◌||◌, is_none, nat_le, option_and_then, cases_lt, eqb-true, eq-eqb, All-contains, Contains-append_cases}
use Rattle.hn_base.proofs.Names.{same_Some, slice_get_within, slice_get_cases, name_text}
use Rattle.hn_sync.proofs.Names.{◌==◌, ◌&&◌, Addr, EpId, NodeId, Name, Version, nothing_in, Contains-tail, Contains-map, Contains-from_map, from_filter, passing_found, contains_at, Port, datagram_of}
use Rattle.hn_sync.proofs.Names.{ArePorts, endpoints_of, is_attached, is_port, Arrive, Note, Outgoing, State, MailCopy, Target, Traced, WEvent, Member, Parts, WorldHasItsTrace, WorldHasItsVersion}
use Rattle.hn_sync.proofs.Names.{address_of_target, on_link_at, on_link, gets, copy_for, copies_on, copies_of_send, copies_of, is_named, is_on, link_of, acting, names_nothing, is_stopped}
use Rattle.hn_sync.proofs.Names.{lacks_the_endpoint, lacks_a_copy, lacks_room, is_full_of_mail, first_code, refusal, empty_world, Goes, IsReplayed, IsSoundMember, ActsAt, RouterActs, DeliversCopy, Does, Step}
use Rattle.hn_sync.proofs.Names.{acted, entered, taken, request, IsQuestion, AreDeliveries, AreOfExchange, next_event, HasPeerAt}
use Rattle.std.proofs.lemmas.Bool.Decides.{eqb_tells}
use Rattle.hn_router.specs.Act.{is_refused}
use Rattle.hn_router.specs.Laws.{EndpointsFollow}
use Rattle.hn_world.specs.declared.event.WEvent.TheVariants as event
use Rattle.hn_world.specs.Laws.{WorldIsSound}
use Rattle.hn_world.specs.Refusal.{so_of, copy_at}
use Rattle.hn_world.specs.Replay.{Replays}
use Rattle.hn_sync.specs.Laws.{StopsForRoomAlone}
use Rattle.hn_sync.proofs.Answering.{GoesBack, answers_go_back}
use Rattle.hn_sync.proofs.Delivered.{goes_more, no_delivery, one_delivery}
use Rattle.hn_sync.proofs.LeastJoint.{port_there}
use Rattle.hn_sync.proofs.ListsFromLists.{set_is, set_other, set_cases, append_cases, flat_there, stands}
use Rattle.hn_sync.proofs.LeastPair.{same_endpoint}

-- ---- addresses

-- endpoints with one address are one
pub same_address : (t u : Target) → t.endpoint.0 < 2 ^ 32 → u.endpoint.0 < 2 ^ 32 → (address_of_target t).ip ≡ (address_of_target u).ip → t ≡ u
same_address t u fits too same =
    let place : t.place ≡ u.place = omega (arith, same) in
    let number : t.endpoint.0 ≡ u.endpoint.0 = omega (arith, same) in
    let endpoint = same_endpoint t.endpoint u.endpoint number in
    λ i. record { place = place i; endpoint = endpoint i }

pub has_this : (b : Bool) (p q : ℕ) → (p == q && b) ≡ true → p ≡ q
has_this b p q h = by_test (p == q) refl h
  where
    by_test : (t : Bool) → (p == q) ≡ t → (t && b) ≡ true → p ≡ q
    by_test true is _ = eqb-true p q is
    by_test false is none = absurd (cc)

abbrev pub HasPorts : Member → Type 0
HasPorts m = ArePorts m.router.ports

-- the endpoints of routers have 32 bits
pub endpoint_fits : (m : Member) (e : EpId) → HasPorts m → Contains (endpoints_of m.router.ports) e → e.0 < 2 ^ 32
endpoint_fits m e ports there =
    let port = Contains-from_map (λ (p : Port). p.id) m.router.ports e there in
    let fits = (All-contains (λ (p : Port). (0 < p.id.0) × (p.id.0 < 2 ^ 32)) m.router.ports port.0 ports.numbered port.1).1 in
    let is : port.0.id.0 ≡ e.0 = ap (λ (x : EpId). x.0) port.2 in
    omega (arith, fits, is)

pub target_fits : (link place : ℕ) (ms : List Member) (t : Target) → ((m : Member) → Contains ms m → HasPorts m) → Contains (on_link link place ms) t → t.endpoint.0 < 2 ^ 32
target_fits link place [] t ports there = absurd (nothing_in t there)
target_fits link place (m ∷ ms) t ports there = elim (Contains-append_cases (on_link_at link place m) (on_link link (suc place) ms) t there) [
  | inl here ↦
      let at = Contains-from_map (λ (e : EpId). record { place = place; endpoint = e }) (filter (is_on link m) (endpoints_of m.router.ports)) t here in
      let own = from_filter (is_on link m) (endpoints_of m.router.ports) at.0 at.1 in
      let fits = endpoint_fits m at.0 (ports m (contains_at (m ∷ ms) 0 m refl)) own.0 in
      let is : at.0.0 ≡ t.endpoint.0 = ap (λ (x : Target). x.endpoint.0) at.2 in
      omega (arith, fits, is)
  | inr later ↦ target_fits link (suc place) ms t (λ x in_rest. ports x (later_there x in_rest)) later
]
  where
    later_there : (x : Member) → Contains ms x → Contains (m ∷ ms) x
    later_there x in_rest = Contains-tail m ms x in_rest

-- ---- a router at an endpoint

-- it runs, and the endpoint is attached
record IsUp (ms : List Member) (t : Target) : Type 0 where
  m : Member
  is : slice_get ms t.place ≡ Some m
  runs : m.running ≡ true
  there : Contains (endpoints_of m.router.ports) t.endpoint

up_fits : (ms : List Member) (t : Target) → ((m : Member) → Contains ms m → HasPorts m) → IsUp ms t → t.endpoint.0 < 2 ^ 32
up_fits ms t ports up = endpoint_fits up.m t.endpoint (ports up.m (contains_at ms t.place up.m up.is)) up.there

-- where a router is up, and a copy is there, what arrives is refused for lack of room alone
for_room : (unknown stopped lacks no_copy full full_of_mail : Bool) (code : ℕ) → unknown ≡ false → stopped ≡ false → lacks ≡ false → no_copy ≡ false
    → first_code ((7, unknown) ∷ (8, false) ∷ (12, stopped) ∷ (11, lacks) ∷ (19, false) ∷ (14, false) ∷ (13, no_copy) ∷ (10, false) ∷ (9, full) ∷ (16, full_of_mail) ∷ []) ≡ Some code
    → (code ≡ 9) ⊎ (code ≡ 16)
for_room true stopped lacks no_copy full full_of_mail code unknown up there copy h = absurd cc
for_room false true lacks no_copy full full_of_mail code known up there copy h = absurd cc
for_room false false true no_copy full full_of_mail code known up there copy h = absurd cc
for_room false false false true full full_of_mail code known up there copy h = absurd cc
for_room false false false false true full_of_mail code known up there copy h = inl (sym (same_Some 9 code h))
for_room false false false false false true code known up there copy h = inr (sym (same_Some 16 code h))
for_room false false false false false false code known up there copy h = absurd cc

pub attached_there : (e : EpId) (ports : List Port) → Contains (endpoints_of ports) e → is_attached e ports ≡ true
attached_there e ports there =
    let port = Contains-from_map (λ (p : Port). p.id) ports e there in
    let is : port.0.id.0 ≡ e.0 = ap (λ (x : EpId). x.0) port.2 in
    let found = passing_found (is_port e) ports port.0 port.1 (eq-eqb port.0.id.0 e.0 is) in
    ap (λ (o : Option Port). is_some o) found.1

-- ---- what an arrival leaves

same_both : {A : Type 0} (b : Bool) (x : A) → cond b x x ≡ x
same_both true x = refl
same_both false x = refl

module _ (follow : EndpointsFollow) (t peer : Target) (multicast : Bool) (bytes words : List ℕ) (notes : List Note) (before after : Parts)
    (ports : (m : Member) → Contains before.members m → HasPorts m) (peer_fits : peer.endpoint.0 < 2 ^ 32)
    (h : ActsAt (λ m. m) t.place (Arrive (record { endpoint = t.endpoint; from = address_of_target peer; multicast = multicast }) bytes) words notes before after) where
  abbrev next_member : Member
  next_member = record h.member { router = h.next }

  same_endpoints : endpoints_of h.next.ports ≡ endpoints_of h.member.router.ports
  same_endpoints =
      let arrives = Arrive (record { endpoint = t.endpoint; from = address_of_target peer; multicast = multicast }) bytes in
      follow before.moment arrives h.member.router h.next h.done h.happened ∙ same_both (is_refused arrives h.member.router) (endpoints_of h.member.router.ports)

  up_then : (u : Target) → IsUp before.members u → IsUp (slice_set before.members t.place next_member) u
  up_then u up = by_place (eqb_tells u.place t.place)
    where
      by_place : ((u.place == t.place) ≡ true) × (u.place ≡ t.place) ⊎ ((u.place == t.place) ≡ false) × (u.place ≢ t.place) → IsUp (slice_set before.members t.place next_member) u
      by_place (inl here) =
          let one : up.m ≡ h.member = same_Some up.m h.member (sym up.is ∙ ap (slice_get before.members) here.1 ∙ h.is_member) in
          record {
            m = next_member;
            is = ap (slice_get (slice_set before.members t.place next_member)) here.1 ∙ set_is before.members t.place h.member next_member h.is_member;
            runs = sym (ap (λ (x : Member). x.running) one) ∙ up.runs;
            there = subst (λ (es : List EpId). Contains es u.endpoint) (ap (λ (x : Member). endpoints_of x.router.ports) one ∙ sym same_endpoints) up.there;
          }
      by_place (inr other) =
          record { m = up.m; is = set_other before.members t.place u.place next_member other.1 ∙ up.is; runs = up.runs; there = up.there }

  -- a copy of what it sends goes back
  copy_goes_back : (send : Outgoing) (c : MailCopy) → GoesBack (record { endpoint = t.endpoint; from = address_of_target peer; multicast = multicast }) send
      → Contains (copies_of_send before.members t.place h.member send) c → (c.to ≡ peer) × (c.from ≡ address_of_target t)
  copy_goes_back send c back there =
      by_link (link_of send.endpoint h.member) (subst (λ (to : Option Addr). Contains (copies_on before.members sender (record send { to = to }) (link_of send.endpoint h.member)) c) back.1 there)
    where
      sender : Target
      sender = record { place = t.place; endpoint = send.endpoint }

      by_link : (link : Option ℕ) → Contains (copies_on before.members (record { place = t.place; endpoint = send.endpoint }) (record send { to = Some (address_of_target peer) }) link) c
          → (c.to ≡ peer) × (c.from ≡ address_of_target t)
      by_link None k = absurd (nothing_in c k)
      by_link (Some link) k =
          let made = Contains-from_map (copy_for (record { place = t.place; endpoint = send.endpoint }) (Some (address_of_target peer)) send.bytes)
          (filter (gets (record { place = t.place; endpoint = send.endpoint }) (Some (address_of_target peer))) (on_link link 0 before.members)) c k in
          let got = from_filter (gets (record { place = t.place; endpoint = send.endpoint }) (Some (address_of_target peer))) (on_link link 0 before.members) made.0 made.1 in
          let same = has_this ((address_of_target made.0).port == (address_of_target peer).port) (address_of_target made.0).ip (address_of_target peer).ip got.1 in
          let is_peer = same_address made.0 peer (target_fits link 0 before.members made.0 ports got.0) peer_fits same in (
            sym (ap (λ (x : MailCopy). x.to) made.2) ∙ is_peer,
            sym (ap (λ (x : MailCopy). x.from) made.2) ∙ ap (λ (e : EpId). address_of_target (record { place = t.place; endpoint = e })) back.0,
          )

  copies_go_back : (k : ℕ) (c : MailCopy) → slice_get (before.copies ++ copies_of before.members t.place h.member h.done.sends) k ≡ Some c
      → (slice_get before.copies k ≡ Some c) ⊎ ((c.to ≡ peer) × (c.from ≡ address_of_target t))
  copies_go_back k c at = elim (append_cases before.copies (copies_of before.members t.place h.member h.done.sends) k c at) [
    | inl old ↦ inl old
    | inr new ↦
        let sent = flat_there (copies_of_send before.members t.place h.member) h.done.sends c new in
        let back = All-contains (GoesBack (record { endpoint = t.endpoint; from = address_of_target peer; multicast = multicast })) h.done.sends sent.0
        (answers_go_back before.moment (record { endpoint = t.endpoint; from = address_of_target peer; multicast = multicast }) bytes h.member.router h.next h.done h.happened) sent.1 in
        inr (copy_goes_back sent.0 c back sent.2)
  ]

-- ---- what holds along an exchange

pub record HasLaws : Type 0 where
  pub sound : WorldIsSound
  pub trace : WorldHasItsTrace
  pub version : WorldHasItsVersion
  pub endpoints : EndpointsFollow

pub replays_step : (version : Version) (ts : List Traced) (t : Traced) (before after : Parts) → Replays version ts before → (notes : List Note)
    × Step t notes before after → Replays version (ts ++ t ∷ []) after
unfolding Replays
replays_step version ts t before after h step = goes_more (empty_world version) before after ts t h step

pub replayed_then : WorldHasItsTrace → WorldHasItsVersion → (t : Traced) (before after : Parts) → IsReplayed before → (notes : List Note) × Step t notes before after → IsReplayed after
replayed_then has_trace has_version t before after h step =
    let then = replays_step before.version before.trace t before after h step in
    let trace = has_trace before.version (before.trace ++ t ∷ []) after then in
    let version = has_version before.version (before.trace ++ t ∷ []) after then in
    subst (λ (v : Version). Replays v after.trace after) (sym version) (subst (λ (ts : List Traced). Replays before.version ts after) (sym trace) then)

module _ (laws : HasLaws) (here there : Target) (count : ℕ) where
  pub replayed_more : (t : Traced) (before after : Parts) → IsReplayed before → (notes : List Note) × Step t notes before after → IsReplayed after
  replayed_more t before after h step = replayed_then laws.trace laws.version t before after h step

  abbrev IsBetween : MailCopy → Type 0
  IsBetween c = ((c.to ≡ here) × (c.from ≡ address_of_target there)) ⊎ ((c.to ≡ there) × (c.from ≡ address_of_target here))

  -- both endpoints are up, and each copy that was made since goes from one to the other
  record Holds (ms : List Member) (cs : List MailCopy) : Type 0 where
    one : IsUp ms here
    other : IsUp ms there
    news : (k : ℕ) (c : MailCopy) → count ≤ k → slice_get cs k ≡ Some c → IsBetween c

  pub ports_in : (w : Parts) → IsReplayed w → (m : Member) → Contains w.members m → HasPorts m
  ports_in w replayed m in_world = (All-contains (IsSoundMember w.moment) w.members m (laws.sound w replayed) in_world).router.well.ports

  -- a delivery keeps that
  module _ (n : ℕ) (before after : Parts) (words : List ℕ) (notes : List Note) (replayed : IsReplayed before) (holds : Holds before.members before.copies)
      (new : count < n) (h : DeliversCopy n words notes before after) where
    holds_by : (t peer : Target) → IsUp before.members peer → h.mail.to ≡ t → h.mail.from ≡ address_of_target peer
        → ((c : MailCopy) → (c.to ≡ peer) × (c.from ≡ address_of_target t) → IsBetween c) → IsBetween h.mail → Holds after.members after.copies
    holds_by t peer up to from between mail =
        let acts : ActsAt (λ m. m) t.place (Arrive (record { endpoint = t.endpoint; from = address_of_target peer; multicast = h.mail.multicast }) h.mail.bytes) words notes before h.between
        = subst (λ (x : Target). ActsAt (λ m. m) x.place
        (Arrive (record { endpoint = x.endpoint; from = address_of_target peer; multicast = h.mail.multicast }) h.mail.bytes) words notes before h.between) to
        (subst (λ (x : Addr). ActsAt (λ m. m) h.mail.to.place
        (Arrive (record { endpoint = h.mail.to.endpoint; from = x; multicast = h.mail.multicast }) h.mail.bytes) words notes before h.between) from h.acts) in
        let ports = ports_in before replayed in
        let fits = up_fits before.members peer ports up in
        let made : after ≡ taken n h.mail (acted (λ m. m) t.place acts.member acts.next acts.done before) = h.gives ∙ ap (λ (w : Parts). taken n h.mail w) acts.gives in
        let all : Holds (slice_set before.members t.place (record acts.member { router = acts.next }))
        (slice_set (before.copies ++ copies_of before.members t.place acts.member acts.done.sends) (n - 1) (record h.mail { waiting = false })) = record {
          one = up_then laws.endpoints t peer h.mail.multicast h.mail.bytes words notes before h.between ports fits acts here holds.one;
          other = up_then laws.endpoints t peer h.mail.multicast h.mail.bytes words notes before h.between ports fits acts there holds.other;
          news = λ k c since at. elim (set_cases (before.copies ++ copies_of before.members t.place acts.member acts.done.sends) (n - 1) k c (record h.mail { waiting = false }) at) [
            | inl is ↦ subst IsBetween (sym is) mail
            | inr rest ↦ elim (copies_go_back laws.endpoints t peer h.mail.multicast h.mail.bytes words notes before h.between ports fits acts k c rest) [
              | inl old ↦ holds.news k c since old
              | inr back ↦ between c back
            ]
          ];
        } in
        subst (λ (w : Parts). Holds w.members w.copies) (sym made) all

    holds_then : Holds after.members after.copies
    holds_then = by_mail (holds.news (n - 1) h.mail (omega (arith, new)) h.is_copy)
      where
        by_mail : IsBetween h.mail → Holds after.members after.copies
        by_mail (inl k) = holds_by here there holds.other k.0 k.1 (λ c back. inr back) (inl k)
        by_mail (inr k) = holds_by there here holds.one k.0 k.1 (λ c back. inl back) (inr k)

  -- and so do deliveries one after another
  holds_along : (n : ℕ) (w after : Parts) (ts : List Traced) → count < n → IsReplayed w → Holds w.members w.copies → Goes w ts after → AreDeliveries n ts → Holds after.members after.copies
  holds_along n w after [] new replayed holds goes are = subst (λ (x : Parts). Holds x.members x.copies) (sym goes) holds
  holds_along n w after (t ∷ ts) new replayed holds goes are =
      let step = goes.1.1 in
      let does : DeliversCopy n t.words goes.1.0 w step.between = subst (λ (e : WEvent). Does e t.words goes.1.0 w step.between) are.0 step.does in
      let then : Holds step.between.members step.between.copies = holds_then n w step.between t.words goes.1.0 replayed holds new does in
      let entered : Holds goes.0.members goes.0.copies = subst (λ (x : Parts). Holds x.members x.copies) (sym step.gives) then in
      holds_along (suc n) goes.0 after ts (omega (arith, new)) (replayed_more t w goes.0 replayed goes.1) entered goes.2 are.1

  -- a delivery is refused for lack of room alone
  delivery_for_room : (n : ℕ) (w : Parts) (code : ℕ) → count < n → n ≤ length w.copies → Holds w.members w.copies → refusal w (event.Deliver n) ≡ Some code → (code ≡ 9) ⊎ (code ≡ 16)
  delivery_for_room n w code new within holds h = elim (slice_get_cases w.copies (n - 1)).1 [
    | inl found ↦
        let copy = by_test found.0 (n == 0) refl found.2 in
        by_mail found.0 (holds.news (n - 1) found.0 (omega (arith, new)) found.2) copy
    | inr past ↦ absurd (let before = past.0 in omega (arith, new, within, before))
  ]
    where
      by_test : (c : MailCopy) (b : Bool) → (n == 0) ≡ b → slice_get w.copies (n - 1) ≡ Some c → cond b None (slice_get w.copies (n - 1)) ≡ Some c
      by_test c true none at = absurd (let zero_is = eqb-true n 0 none in omega (arith, new, zero_is))
      by_test c false some at = at

      at_target : (t : Target) (c : MailCopy) (up : IsUp w.members t) → c.to ≡ t → copy_at w n ≡ Some c → (code ≡ 9) ⊎ (code ≡ 16)
      at_target t c up to copy =
          let router : acting (event.Deliver n) w ≡ Some up.m =
          ap (option_and_then (λ (c : MailCopy). slice_get w.members c.to.place)) copy ∙ ap (λ (x : Target). slice_get w.members x.place) to ∙ up.is in
          let there : is_attached c.to.endpoint up.m.router.ports ≡ true =
          ap (λ (x : Target). is_attached x.endpoint up.m.router.ports) to ∙ attached_there t.endpoint up.m.router.ports up.there in
          let e = event.Deliver n in
          let r = acting e w in
          for_room (names_nothing e w r) (is_stopped e r) (lacks_the_endpoint e w r) (lacks_a_copy e w) (lacks_room e w r || nat_le 1000000 (length w.trace)) (is_full_of_mail w) code
          (λ i. is_some (copy i) && is_none (router i))
          ((λ i. so_of (λ (m : Member). not m.running) (router i)) ∙ ap not up.runs)
          ((λ i. so_of (λ (c : MailCopy). so_of (λ (m : Member). not (is_attached c.to.endpoint m.router.ports)) (router i)) (copy i)) ∙ ap not there)
          (ap is_none copy) h

      by_mail : (c : MailCopy) → IsBetween c → copy_at w n ≡ Some c → (code ≡ 9) ⊎ (code ≡ 16)
      by_mail c (inl k) copy = at_target here c holds.one k.0 copy
      by_mail c (inr k) copy = at_target there c holds.other k.0 copy

-- ---- an exchange

-- an endpoint of a router that has a peer there
pub endpoint_there : (s : State) (e : EpId) (node : NodeId) (f : EpId) → HasPeerAt s e node f → Contains (endpoints_of s.ports) e
endpoint_there s e node f h =
    let port = port_there e s.ports h.port h.is_port in
    subst (λ (x : EpId). Contains (endpoints_of s.ports) x) port.1 (Contains-map (λ (p : Port). p.id) s.ports h.port port.0)

module _ (laws : HasLaws) (a b : Name) (code : ℕ) (before : Parts) (replayed : IsReplayed before) (question : WEvent) (asks : IsQuestion a b before question) where
  abbrev asker : Target
  asker = record { place = asks.place; endpoint = asks.f }

  abbrev asking : WEvent
  asking = event.Inject a asks.e (address_of_target asker) false (datagram_of asks.two.router.id asks.f (request ∷ []))

  -- the question is refused for lack of room alone
  question_for_room : refusal before question ≡ Some code → (code ≡ 9) ⊎ (code ≡ 16)
  question_for_room h =
      let at : refusal before asking ≡ Some code = subst (λ (e : WEvent). refusal before e ≡ Some code) asks.gives h in
      let there = attached_there asks.e asks.one.router.ports (endpoint_there asks.one.router asks.e asks.two.router.id asks.f asks.least.joined.of_one) in
      let r = acting asking before in
      for_room (names_nothing asking before r) (is_stopped asking r) (lacks_the_endpoint asking before r) false
      (lacks_room asking before r || nat_le 1000000 (length before.trace)) (is_full_of_mail before) code
      (ap is_none asks.is_one)
      (ap (so_of (λ (m : Member). not m.running)) asks.is_one ∙ ap not asks.one_runs)
      (ap (so_of (λ (m : Member). not (is_attached asks.e m.router.ports))) asks.is_one ∙ ap not there)
      refl at

  -- after it, the two endpoints are up, and its copies go back
  module _ (t : Traced) (notes : List Note) (then : Parts) (is : t.event ≡ question) (step : Step t notes before then) where
    does_ask : RouterActs (λ m. m) a (Arrive (record { endpoint = asks.e; from = address_of_target asker; multicast = false })
        (datagram_of asks.two.router.id asks.f (request ∷ []))) t.words notes before step.between
    does_ask = subst (λ (e : WEvent). Does e t.words notes before step.between) (is ∙ asks.gives) step.does

    abbrev asked_at : Target
    asked_at = record { place = does_ask.place; endpoint = asks.e }

    holds_first : Holds laws asked_at asker (length before.copies) then.members then.copies
    holds_first =
        let acts = does_ask.acts in
        let bytes = datagram_of asks.two.router.id asks.f (request ∷ []) in
        let ports = ports_in laws asked_at asker (length before.copies) before replayed in
        let one : IsUp before.members asked_at = record {
          m = asks.one;
          is = stands (is_named (name_text a)) before.members does_ask.place asks.one does_ask.is_place asks.is_one;
          runs = asks.one_runs;
          there = endpoint_there asks.one.router asks.e asks.two.router.id asks.f asks.least.joined.of_one;
        } in
        let other : IsUp before.members asker = record {
          m = asks.two;
          is = stands (is_named (name_text b)) before.members asks.place asks.two asks.is_place asks.is_two;
          runs = asks.two_runs;
          there = endpoint_there asks.two.router asks.f asks.one.router.id asks.e asks.least.joined.of_other;
        } in
        let fits = up_fits before.members asker ports other in
        let all : Holds laws asked_at asker (length before.copies)
        (slice_set before.members does_ask.place (record acts.member { router = acts.next })) (before.copies ++ copies_of before.members does_ask.place acts.member acts.done.sends) = record {
          one = up_then laws.endpoints asked_at asker false bytes t.words notes before step.between ports fits acts asked_at one;
          other = up_then laws.endpoints asked_at asker false bytes t.words notes before step.between ports fits acts asker other;
          news = λ k c since at. elim (copies_go_back laws.endpoints asked_at asker false bytes t.words notes before step.between ports fits acts k c at) [
            | inl old ↦ absurd (let within = slice_get_within before.copies k c old in omega (arith, since, within))
            | inr back ↦ inr back
          ];
        } in
        let made : then ≡ entered t (acted (λ m. m) does_ask.place acts.member acts.next acts.done before) = step.gives ∙ ap (entered t) acts.gives in
        subst (λ (w : Parts). Holds laws asked_at asker (length before.copies) w.members w.copies) (sym made) all

  events_for_room : (ts : List Traced) (next : WEvent) (after : Parts) → Goes before ts after → AreOfExchange question (length before.copies) ts
      → Some next ≡ next_event question (length before.copies) (length ts) after → refusal after next ≡ Some code → (code ≡ 9) ⊎ (code ≡ 16)
  events_for_room [] next after goes events comes refused =
      let same : next ≡ question = same_Some next question comes in
      question_for_room (subst (λ (w : Parts). refusal w question ≡ Some code) goes (subst (λ (e : WEvent). refusal after e ≡ Some code) same refused))
  events_for_room (t ∷ ts) next after goes events comes refused =
      let copies = length before.copies in
      let at = asked_at t goes.1.0 goes.0 events.0 goes.1.1 in
      let first = holds_first t goes.1.0 goes.0 events.0 goes.1.1 in
      let then = replayed_more laws at asker copies t before goes.0 replayed goes.1 in
      let all = holds_along laws at asker copies (suc copies) goes.0 after ts (omega arith) then first goes.2 events.1 in
      let n = copies + suc (length ts) in
      elim (cases_lt (length after.copies) n) [
        | inl past ↦ absurd (let none : Some next ≡ None = comes ∙ no_delivery n after past in cc)
        | inr within ↦
            let same : next ≡ event.Deliver n = same_Some next (event.Deliver n) (comes ∙ one_delivery n after within) in
            delivery_for_room laws at asker copies n after code (omega arith) within all (subst (λ (e : WEvent). refusal after e ≡ Some code) same refused)
      ]

pub for_room_alone : HasLaws → StopsForRoomAlone
for_room_alone laws a b code told told_after before after replayed h =
    let far = h.comes.begun in
    events_for_room laws a b code before replayed far.question far.asks h.comes.ts h.next after far.goes far.events far.is_next h.refused
