-- The endpoints of the routers of a replayed world are those of their attachments, and no two attachments are to one link.
use Rattle.hn_base.proofs.Names.{◌≡◌, ◌≢◌, ◌∙◌, ◌<◌, ◌⊎◌, ◌↔◌, ℕ, Bool, true, false, not, cond, List, [], ◌∷◌, ◌++◌, Option, Some, None, Contains, length, map, filter, get_or, slice_get, nat_lt, inl}
use Rattle.hn_base.proofs.Names.{inr, refl, sym, ap, subst, arith, list_any, option_map_or, eqb-true, eqb-false, ltb-false, not-false, map-append, All-nil, All-push, All-set, Contains-append_left}
use Rattle.hn_base.proofs.Names.{Contains-append_right, Contains-append_cases, Contains-push, Contains-push_cases, all_pairs_push, same_Some, name_text}
use Rattle.hn_world.proofs.Names.{◌==◌, EpId, Name, Note, State, PlainEvent, Arrive, Tick, endpoints_of, WEvent, Traced, Version, Attachment, Member, Parts, is_named, router_place, link_place}
use Rattle.hn_world.proofs.Names.{member_named, is_of, refusal, routed, ActsAt, DoesElse, DoesAt, attached_to, beside, stopped, Replays, AreAttached}
use Rattle.std.proofs.Common.{◌||◌}
use Rattle.std.proofs.lemmas.List.Kept.{AllPairs-filter}
use Rattle.hn_base.proofs.AscendingLists.{Contains-head, Contains-tail, Contains-cases, Contains-map, Contains-from_map}
use Rattle.hn_base.proofs.Keys.{same_id}
use Rattle.hn_base.proofs.Elements.{in_filter, from_filter}
use Rattle.hn_router.specs.Act.{Attach, Detach, External, Withdraw, SetCaps, Private, Addresses, Restart, is_refused}
use Rattle.hn_router.specs.Laws.{endpoints_by, EndpointsFollow}
use Rattle.hn_own.specs.Ports.{is_attached}
use Rattle.hn_world.specs.declared.event.WEvent.TheVariants as event
use Rattle.hn_world.specs.Refusal.{so_of}
use Rattle.hn_world.specs.Step.{detached_from}
use Rattle.hn_world.specs.Replay.{IsAttachedMember}
use Rattle.hn_world.proofs.Accepted.{Accepts, accepts_at, is_there}
use Rattle.hn_world.proofs.DoneAsPlanned.{arrival_of}
use Rattle.hn_world.proofs.OneStep.{Any}
use Rattle.hn_world.proofs.ElementAtPlace.{found_at}
use Rattle.hn_world.proofs.SoundRouters.{all_at, replay_keeps}
use Rattle.hn_base.proofs.PassingElements.{each_fails}

-- ---- what an accepted event says

-- an endpoint may be attached to a link
record MayJoin (endpoint : EpId) (link : ℕ) (m : Member) : Type 0 where
  free : is_attached endpoint m.router.ports ≡ false
  apart : list_any (λ (a : Attachment). a.link == link) m.attachments ≡ false
  room : nat_lt (length m.router.ports) 16 ≡ true

-- the link is there
join_link : (w : Parts) (name link : Name) (endpoint : EpId) (place : ℕ) (m : Member) → router_place (name_text name) w ≡ Some place → slice_get w.members place ≡ Some m
    → refusal w (event.Attach name endpoint link) ≡ None → (at : ℕ) × (link_place (name_text link) w ≡ Some at)
join_link w name link endpoint place m is_place is_member accepted =
    let found : member_named (name_text name) w ≡ Some m = found_at (is_named (name_text name)) w.members place m is_place is_member in
    is_there (link_place (name_text link) w) (accepts_at w (event.Attach name endpoint link) m found accepted).known

may_join : (w : Parts) (name link : Name) (endpoint : EpId) (place at : ℕ) (m : Member) → router_place (name_text name) w ≡ Some place → slice_get w.members place ≡ Some m
    → link_place (name_text link) w ≡ Some at → refusal w (event.Attach name endpoint link) ≡ None → MayJoin endpoint at m
may_join w name link endpoint place at m is_place is_member is_link accepted =
    let found : member_named (name_text name) w ≡ Some m = found_at (is_named (name_text name)) w.members place m is_place is_member in
    let may : Accepts w (event.Attach name endpoint link) (Some m) = accepts_at w (event.Attach name endpoint link) m found accepted in
    record {
      free = may.endpoint;
      apart = sym (ap (so_of (λ (l : ℕ). list_any (λ (a : Attachment). a.link == l) m.attachments)) is_link) ∙ may.apart;
      room = not-false (nat_lt (length m.router.ports) 16) may.room;
    }

may_leave : (w : Parts) (name : Name) (endpoint : EpId) (place : ℕ) (m : Member) → router_place (name_text name) w ≡ Some place → slice_get w.members place ≡ Some m
    → refusal w (event.Detach name endpoint) ≡ None → is_attached endpoint m.router.ports ≡ true
may_leave w name endpoint place m is_place is_member accepted =
    let found : member_named (name_text name) w ≡ Some m = found_at (is_named (name_text name)) w.members place m is_place is_member in
    not-false (is_attached endpoint m.router.ports) (accepts_at w (event.Detach name endpoint) m found accepted).endpoint

-- ---- endpoints and attachments

-- the numbers of endpoints that are attached
abbrev numbers_of : List Attachment → List EpId
numbers_of attachments = map (λ a. a.endpoint) attachments

-- both have the same endpoints from number 1 on
abbrev Same : List EpId → List EpId → Type 0
Same ends numbers = (e : EpId) → 0 < e.0 → Contains ends e ↔ Contains numbers e

-- an endpoint more
in_attached : (at : EpId) (ends : List EpId) (e : EpId) → Contains (endpoints_by (Attach at) ends) e ↔ (Contains ends e ⊎ (at ≡ e))
in_attached at ends e = (
  λ there. elim (Contains-append_cases below (at ∷ above) e there) [
    | inl front ↦ inl (from_filter (λ (x : EpId). nat_lt x.0 at.0) ends e front).0
    | inr back ↦ elim (Contains-cases at above e back) [
      | inl same ↦ inr same
      | inr later ↦ inl (from_filter (λ (x : EpId). nat_lt at.0 x.0) ends e later).0
    ]
  ],
  λ there. elim there [
    | inl held ↦ by_below (nat_lt e.0 at.0) (nat_lt at.0 e.0) refl refl held
    | inr same ↦ subst (Contains (endpoints_by (Attach at) ends)) same here
  ],
)
  where
    below : List EpId
    below = filter (λ (x : EpId). nat_lt x.0 at.0) ends

    above : List EpId
    above = filter (λ (x : EpId). nat_lt at.0 x.0) ends

    here : Contains (endpoints_by (Attach at) ends) at
    here = Contains-append_right below (at ∷ above) at (Contains-head at above)

    by_below : (b c : Bool) → nat_lt e.0 at.0 ≡ b → nat_lt at.0 e.0 ≡ c → Contains ends e → Contains (endpoints_by (Attach at) ends) e
    by_below true c less more held = Contains-append_left below (at ∷ above) e (in_filter (λ (x : EpId). nat_lt x.0 at.0) ends e held less)
    by_below false true less more held =
        Contains-append_right below (at ∷ above) e (Contains-tail at above e (in_filter (λ (x : EpId). nat_lt at.0 x.0) ends e held more))
    by_below false false less more held =
        let low = ltb-false e.0 at.0 less in
        let high = ltb-false at.0 e.0 more in
        let same : at ≡ e = same_id at e (omega arith) in
        subst (Contains (endpoints_by (Attach at) ends)) same here

-- an endpoint less
in_detached : (at : EpId) (attachments : List Attachment) (e : EpId)
    → Contains (numbers_of (filter (λ (a : Attachment). not (is_of at a)) attachments)) e ↔ (Contains (numbers_of attachments) e × (not (e.0 == at.0) ≡ true))
in_detached at attachments e = (
  λ there.
      let from = Contains-from_map (λ (a : Attachment). a.endpoint) (filter (λ (a : Attachment). not (is_of at a)) attachments) e there in
      let held = from_filter (λ (a : Attachment). not (is_of at a)) attachments from.0 from.1 in
      (subst (Contains (numbers_of attachments)) from.2 (Contains-map (λ (a : Attachment). a.endpoint) attachments from.0 held.0), subst (λ (x : EpId). not (x.0 == at.0) ≡ true) from.2 held.1),
  λ there.
      let from = Contains-from_map (λ (a : Attachment). a.endpoint) attachments e there.0 in
      let other : not (is_of at from.0) ≡ true = subst (λ (x : EpId). not (x.0 == at.0) ≡ true) (sym from.2) there.1 in
      let kept = in_filter (λ (a : Attachment). not (is_of at a)) attachments from.0 from.1 other in
      subst (Contains (numbers_of (filter (λ (a : Attachment). not (is_of at a)) attachments))) from.2
      (Contains-map (λ (a : Attachment). a.endpoint) (filter (λ (a : Attachment). not (is_of at a)) attachments) from.0 kept),
)

same_attached : (at : EpId) (link : ℕ) (ends : List EpId) (attachments : List Attachment) → Same ends (numbers_of attachments)
    → Same (endpoints_by (Attach at) ends) (numbers_of (attachments ++ record { endpoint = at; link = link } ∷ []))
same_attached at link ends attachments same e some =
    let new : Attachment = record { endpoint = at; link = link } in
    let more : numbers_of (attachments ++ new ∷ []) ≡ numbers_of attachments ++ at ∷ [] = map-append (λ (a : Attachment). a.endpoint) attachments (new ∷ []) in
    subst (λ (es : List EpId). Contains (endpoints_by (Attach at) ends) e ↔ Contains es e) (sym more) (
      λ there. elim ((in_attached at ends e).0 there) [
        | inl held ↦ Contains-append_left (numbers_of attachments) (at ∷ []) e ((same e some).0 held)
        | inr is ↦ subst (Contains (numbers_of attachments ++ at ∷ [])) is (Contains-push (numbers_of attachments) at)
      ],
      λ there. elim (Contains-push_cases (numbers_of attachments) at e there) [
        | inl held ↦ (in_attached at ends e).1 (inl ((same e some).1 held))
        | inr is ↦ (in_attached at ends e).1 (inr is)
      ],
    )

-- an attachment of number 0, which a router refuses
same_refused : (at : EpId) (link : ℕ) (ends : List EpId) (attachments : List Attachment) → at.0 ≡ 0 → Same ends (numbers_of attachments)
    → Same ends (numbers_of (attachments ++ record { endpoint = at; link = link } ∷ []))
same_refused at link ends attachments none same e some =
    let new : Attachment = record { endpoint = at; link = link } in
    let more : numbers_of (attachments ++ new ∷ []) ≡ numbers_of attachments ++ at ∷ [] = map-append (λ (a : Attachment). a.endpoint) attachments (new ∷ []) in
    subst (λ (es : List EpId). Contains ends e ↔ Contains es e) (sym more) (
      λ there. Contains-append_left (numbers_of attachments) (at ∷ []) e ((same e some).0 there),
      λ there. elim (Contains-push_cases (numbers_of attachments) at e there) [
        | inl held ↦ (same e some).1 held
        | inr is ↦ absurd (zero_not is)
      ],
    )
  where
    zero_not : at ≡ e → ⊥
    zero_not is = let number : at.0 ≡ e.0 = ap (λ (x : EpId). x.0) is in absurd (omega arith)

same_detached : (at : EpId) (ends : List EpId) (attachments : List Attachment) → Same ends (numbers_of attachments)
    → Same (endpoints_by (Detach at) ends) (numbers_of (filter (λ (a : Attachment). not (is_of at a)) attachments))
same_detached at ends attachments same e some = (
  λ there. let held = from_filter (λ (x : EpId). not (x.0 == at.0)) ends e there in (in_detached at attachments e).1 ((same e some).0 held.0, held.1),
  λ there. let held = (in_detached at attachments e).0 there in in_filter (λ (x : EpId). not (x.0 == at.0)) ends e ((same e some).1 held.0) held.1,
)

-- ---- the routers

-- the endpoints after an event follow it
abbrev HasFollowed : PlainEvent → Member → State → Type 0
HasFollowed event m next =
    endpoints_of next.ports ≡ cond (is_refused event m.router) (endpoints_of m.router.ports) (endpoints_by event (endpoints_of m.router.ports))

-- an event that neither attaches nor detaches
attached_same : (event : PlainEvent) (m : Member) (next : State) → ((ends : List EpId) → endpoints_by event ends ≡ ends) → IsAttachedMember m → HasFollowed event m next
    → IsAttachedMember (record m { router = next })
attached_same event m next keeps is follows =
    let ends : List EpId = endpoints_of m.router.ports in
    let same : endpoints_of next.ports ≡ ends = follows ∙ either (is_refused event m.router) ends (endpoints_by event ends) (keeps ends) in
    record { endpoints = subst (λ (es : List EpId). Same es (numbers_of m.attachments)) (sym same) is.endpoints; apart = is.apart }
  where
    either : (b : Bool) (xs ys : List EpId) → ys ≡ xs → cond b xs ys ≡ xs
    either true xs ys same = refl
    either false xs ys same = same

-- an endpoint is attached
attached_joins : (endpoint : EpId) (at : ℕ) (m : Member) (next : State) → MayJoin endpoint at m → IsAttachedMember m → HasFollowed (Attach endpoint) m next
    → IsAttachedMember (attached_to at endpoint (record m { router = next }))
attached_joins endpoint at m next may is follows =
    let ends : List EpId = endpoints_of m.router.ports in
    let new : Attachment = record { endpoint = endpoint; link = at } in
    record {
      endpoints = subst (λ (es : List EpId). Same es (numbers_of (m.attachments ++ new ∷ []))) (sym follows) (by_number ends is.endpoints (endpoint.0 == 0) refl);
      apart =
          all_pairs_push (λ (a b : Attachment). a.link ≢ b.link) m.attachments new is.apart
          (λ k d within. eqb-false (get_or m.attachments k d).link at (each_fails (λ (a : Attachment). a.link == at) m.attachments may.apart k d within));
    }
  where
    by_number : (ends : List EpId) → Same ends (numbers_of m.attachments) → (b : Bool) → (endpoint.0 == 0) ≡ b
        → Same (cond (b || (is_attached endpoint m.router.ports || not (nat_lt (length m.router.ports) 16))) ends (endpoints_by (Attach endpoint) ends))
        (numbers_of (m.attachments ++ record { endpoint = endpoint; link = at } ∷ []))
    by_number ends same true none = same_refused endpoint at ends m.attachments (eqb-true endpoint.0 0 none) same
    by_number ends same false some = rw (may.free, may.room) (same_attached endpoint at ends m.attachments same)

-- an endpoint is detached
attached_leaves : (endpoint : EpId) (m : Member) (next : State) → is_attached endpoint m.router.ports ≡ true → IsAttachedMember m → HasFollowed (Detach endpoint) m next
    → IsAttachedMember (detached_from endpoint (record m { router = next }))
attached_leaves endpoint m next held is follows =
    let ends : List EpId = endpoints_of m.router.ports in
    let left : List Attachment = filter (λ (a : Attachment). not (is_of endpoint a)) m.attachments in
    let after : endpoints_of next.ports ≡ endpoints_by (Detach endpoint) ends = follows ∙ ap (λ (b : Bool). cond (not b) ends (endpoints_by (Detach endpoint) ends)) held in
    record {
      endpoints = subst (λ (es : List EpId). Same es (numbers_of left)) (sym after) (same_detached endpoint ends m.attachments is.endpoints);
      apart = AllPairs-filter (λ (a b : Attachment). a.link ≢ b.link) (λ (a : Attachment). not (is_of endpoint a)) m.attachments is.apart;
    }

-- what an event at a router leaves of its member
abbrev Leaves : Parts → WEvent → Name → PlainEvent → Type 0
Leaves w t name event =
    (place : ℕ) (m : Member) (next : State) → router_place (name_text name) w ≡ Some place → slice_get w.members place ≡ Some m → refusal w t ≡ None → IsAttachedMember m
    → HasFollowed event m next → IsAttachedMember (beside t w (record m { router = next }))

leaves_attach : (w : Parts) (name link : Name) (endpoint : EpId) → Leaves w (event.Attach name endpoint link) name (Attach endpoint)
leaves_attach w name link endpoint place m next is_place is_member accepted is follows =
    let n : Member = record m { router = next } in
    let at = join_link w name link endpoint place m is_place is_member accepted in
    let may = may_join w name link endpoint place at.0 m is_place is_member at.1 accepted in
    subst (λ (o : Option ℕ). IsAttachedMember (option_map_or (λ l. attached_to l endpoint n) o n)) (sym at.1) (attached_joins endpoint at.0 m next may is follows)

-- of the event that it is
leaves : (w : Parts) (t : WEvent) (own : Name × PlainEvent) → routed t ≡ Some own → Leaves w t own.0 own.1
leaves w t own is = by_event t own is
  where
    fits : (t : WEvent) (a b : Name × PlainEvent) → Some a ≡ Some b → Leaves w t a.0 a.1 → Leaves w t b.0 b.1
    fits t a b same is = subst (λ (own : Name × PlainEvent). Leaves w t own.0 own.1) (same_Some a b same) is

    by_event : (t : WEvent) (own : Name × PlainEvent) → routed t ≡ Some own → Leaves w t own.0 own.1
    by_event (event.Attach name endpoint link) own is = fits (event.Attach name endpoint link) (name, Attach endpoint) own is (leaves_attach w name link endpoint)
    by_event (event.Detach name endpoint) own is =
        fits (event.Detach name endpoint) (name, Detach endpoint) own is
        (λ place m next is_place is_member accepted here follows. attached_leaves endpoint m next (may_leave w name endpoint place m is_place is_member accepted) here follows)
    by_event (event.Start name) own is =
        fits (event.Start name) (name, Restart) own is
        (λ place m next is_place is_member accepted here follows. let same = attached_same Restart m next (λ ends. refl) here follows in record { endpoints = same.endpoints; apart = same.apart })
    by_event (event.External name prefix valid preferred) own is =
        fits (event.External name prefix valid preferred) (name, External prefix valid preferred) own is
        (λ place m next is_place is_member accepted here follows. attached_same (External prefix valid preferred) m next (λ ends. refl) here follows)
    by_event (event.Withdraw name prefix) own is = fits (event.Withdraw name prefix) (name, Withdraw prefix) own is
        (λ place m next is_place is_member accepted here follows. attached_same (Withdraw prefix) m next (λ ends. refl) here follows)
    by_event (event.Caps name caps) own is = fits (event.Caps name caps) (name, SetCaps caps) own is
        (λ place m next is_place is_member accepted here follows. attached_same (SetCaps caps) m next (λ ends. refl) here follows)
    by_event (event.Tick name) own is = fits (event.Tick name) (name, Tick) own is (λ place m next is_place is_member accepted here follows. attached_same (Tick) m next (λ ends. refl) here follows)
    by_event (event.Inject name endpoint from multicast bytes) own is =
        fits (event.Inject name endpoint from multicast bytes)
        (name, Arrive (record { endpoint = endpoint; from = from; multicast = multicast }) bytes) own is
        (λ place m next is_place is_member accepted here follows. attached_same (Arrive (record { endpoint = endpoint; from = from; multicast = multicast }) bytes) m next (λ ends. refl) here follows)
    by_event (event.Private name length) own is = fits (event.Private name length) (name, Private length) own is
        (λ place m next is_place is_member accepted here follows. attached_same (Private length) m next (λ ends. refl) here follows)
    by_event (event.Addresses name list) own is = fits (event.Addresses name list) (name, Addresses list) own is
        (λ place m next is_place is_member accepted here follows. attached_same (Addresses list) m next (λ ends. refl) here follows)
    by_event _ own is = absurd cc

module _ (follow : EndpointsFollow) where
  attached_acts_at : (change : Member → Member) (place : ℕ) (event : PlainEvent) (words : List ℕ) (notes : List Note) (before after : Parts)
      → ActsAt change place event words notes before after
      → ((m : Member) (next : State) → slice_get before.members place ≡ Some m → IsAttachedMember m → HasFollowed event m next → IsAttachedMember (change (record m { router = next })))
      → AreAttached before → AreAttached after
  attached_acts_at change place event words notes before after h keeps all =
      let here : IsAttachedMember h.member = all_at IsAttachedMember before.members place h.member h.is_member all in
      let follows = follow before.moment event h.member.router h.next h.done h.happened in
      subst AreAttached (sym h.gives) (All-set IsAttachedMember before.members place (change (record h.member { router = h.next })) (keeps h.member h.next h.is_member here follows) all)

  attached_else : (event : WEvent) (words : List ℕ) (notes : List Note) (before after : Parts) → DoesElse event words notes before after → AreAttached before → AreAttached after
  attached_else (event.Router name id) words notes before after h all =
      let none : endpoints_of h.router.ports ≡ [] = ap endpoints_of h.is_new.ports_are in
      let same : Same (endpoints_of h.router.ports) [] = subst (λ (es : List EpId). Same es []) (sym none) (λ e some. (λ there. there, λ there. there)) in
      subst AreAttached (sym h.quietly.gives) (All-push IsAttachedMember before.members (record { name = name; running = true; router = h.router; attachments = [] }) all
      (record { endpoints = same; apart = λ i j d less within. absurd (omega arith) }))
  attached_else (event.Link name) words notes before after h all = subst AreAttached (sym h.gives) all
  attached_else (event.Stop name) words notes before after h all =
      let here = all_at IsAttachedMember before.members h.place h.member h.is_member all in
      subst AreAttached (sym h.quietly.gives) (All-set IsAttachedMember before.members h.place (stopped h.member) (record { endpoints = here.endpoints; apart = here.apart }) all)
  attached_else (event.Time moment) words notes before after h all = subst AreAttached (sym h.gives) all
  attached_else (event.Deliver copy) words notes before after h all =
      subst AreAttached (sym h.gives)
      (attached_acts_at (λ m. m) h.mail.to.place (arrival_of h.mail) words notes before h.between h.acts
      (λ m next at here follows. attached_same (arrival_of h.mail) m next (λ ends. refl) here follows) all)
  attached_else (event.Drop copy) words notes before after h all = subst AreAttached (sym h.quietly.gives) all
  attached_else _ words notes before after h all = absurd h

  attached_at : (event : WEvent) (own : Option (Name × PlainEvent)) → routed event ≡ own → (words : List ℕ) (notes : List Note) (before after : Parts) → refusal before event ≡ None
      → DoesAt event own words notes before after → AreAttached before → AreAttached after
  attached_at event (Some own) is words notes before after accepted h all =
      attached_acts_at (beside event before) h.place own.1 words notes before after h.acts (λ m next at here follows. leaves before event own is h.place m next h.is_place at accepted here follows) all
  attached_at event None is words notes before after accepted h all = attached_else event words notes before after h all

  attached_step : (t : Traced) (before after : Parts) → Any t before after → AreAttached before → AreAttached after
  attached_step t before after h all = subst AreAttached (sym h.1.gives) (attached_at t.event (routed t.event) refl t.words h.0 before h.1.between h.1.accepted h.1.does all)

  pub attached_replay : (version : Version) (ts : List Traced) (w : Parts) → Replays version ts w → AreAttached w
  attached_replay version ts w h = replay_keeps AreAttached attached_step version (All-nil IsAttachedMember) ts w h
