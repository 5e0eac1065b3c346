-- A round without loss renews the contacts of peers.
use Rattle.hn_base.proofs.Names.{◌≡◌, ◌≢◌, ◌∙◌, ◌⊎◌, ◌<◌, ◌≤◌, ◌-◌, ◌^◌, ◌↔◌, ℕ, Bool, not, true, false, List, [], ◌∷◌, ◌++◌, length, map, Option, Some, Contains, slice_get, inl, inr, refl, sym, ap}
use Rattle.hn_base.proofs.Names.{subst, arith, ◌||◌, option_map, option_map_or, cases_eq, All-contains, same_Some, slice_get-get_or, slice_get_within}
use Rattle.hn_audit.proofs.Names.{slice_set, Contains-map, Contains-from_map, contains_at, EpId, NodeId, ListIsUnique, ItemIsUnique, Neighbour, Port, port_at, endpoints_of, is_attached, Passing, Done}
use Rattle.hn_audit.proofs.Names.{Note, Outgoing, State, after_passing, IsStatusUpdate, IsStatusSend, MailCopy, Target, Traced, WEvent, Attachment, Member, Parts, copies_of, is_of, IsReplayed}
use Rattle.hn_audit.proofs.Names.{IsSoundMember, IsAttachedMember, Does, Step, origin_of, IsResting, IsCalmSinceCopies, AreHeardSince, IsSteadyEvent, ArePeersLinked, AreSendsHeardSince, IsLosslessEvent}
use Rattle.hn_audit.proofs.Names.{GoesLossless, AreDelivered, IsRunning, IsReached, IsOnLink, AreOnOneLink, IsMemberAt, IsCalmTick, KeepAssignments, IsQuietByRules, IsSettledByRules, AreAssignmentsUnchanged, Name}
use Rattle.std.specs.List.{find}
use Rattle.hn_rules.specs.Router.{IsPortPast}
use Rattle.hn_rules.specs.Updates.{HasMoved, PeersAreAttached}
use Rattle.hn_world.specs.declared.event.WEvent.TheVariants as event
use Rattle.hn_world.specs.Receivers.{is_absent, is_away}
use Rattle.hn_audit.specs.Calm.{AreWaitingCurrent}
use Rattle.hn_audit.specs.Heard.{IsUnderWay, RoundRenews, GoesInRounds, RestGoesInRounds}
use Rattle.hn_audit.proofs.BridgeSets.{IsKnown, router_of}
use Rattle.hn_audit.proofs.CalmDeliveries.{IsPassed, passed}
use Rattle.hn_audit.proofs.BridgeWorlds.{known_of}
use Rattle.hn_audit.proofs.RestsHeard.{HeardLaws, GoesHeard, HearOn, one_heard, calm_by, hears_by}
use Rattle.hn_audit.proofs.RestsOnwards.{GoesOn, ran, status_sends, nothing_goes, both_go}
use Rattle.hn_audit.proofs.SendsHeard.{one_sender, made, copy_made, front_stays, new_place, ports_by, same_port, peer_after}
use Rattle.hn_audit.proofs.StayingSteps.{put_there, put_elsewhere}
use Rattle.hn_audit.proofs.NextWorlds.{replays_more}

-- ---- links and copies

-- two endpoints are on one link as their routers are attached
link_as : (x x' y y' : Member) (e e' f f' : EpId) → x.attachments ≡ x'.attachments → y.attachments ≡ y'.attachments → e ≡ e' → f ≡ f' → AreOnOneLink x e y f → AreOnOneLink x' e' y' f'
link_as x x' y y' e e' f f' xs ys es fs both =
    let P : List Attachment → EpId → Type 0 = λ list end. option_map (λ (a : Attachment). a.link) (find (is_of end) list) ≡ Some both.link in
    record {
      link = both.link;
      one = subst (λ (end : EpId). P x'.attachments end) es (subst (λ (list : List Attachment). P list e) xs both.one);
      other = subst (λ (end : EpId). P y'.attachments end) fs (subst (λ (list : List Attachment). P list f) ys both.other);
    }

rename_way : (w : Parts) (j : ℕ) (e e' : EpId) (n n' : NodeId) (f f' : EpId) → e ≡ e' → n ≡ n' → f ≡ f' → IsUnderWay w j e n f → IsUnderWay w j e' n' f'
rename_way w j e e' n n' f f' es ns fs u =
    subst (λ (end : EpId). IsUnderWay w j e' n' end) fs (subst (λ (node : NodeId). IsUnderWay w j e' node f) ns (subst (λ (at : EpId). IsUnderWay w j at n f) es u))

way_on : (before after : Parts) (j : ℕ) (e : EpId) (n : NodeId) (f : EpId) → ((k : ℕ) (mail : MailCopy) → slice_get before.copies k ≡ Some mail → slice_get after.copies k ≡ Some mail)
    → IsUnderWay before j e n f → IsUnderWay after j e n f
way_on before after j e n f stays u = record { k = u.k; mail = u.mail; there = stays u.k u.mail u.there; waits = u.waits; goes_to = u.goes_to; hash = u.hash; update = u.update }

-- ---- one event

module _ (before after : Parts) where
  -- what an endpoint sent now waits for each other endpoint on its link
  abbrev IsNew : Member → Port → Type 0
  IsNew x p =
      (j : ℕ) (y : Member) (q : Port) (peer : Neighbour) → slice_get after.members j ≡ Some y → Contains y.router.ports q → peer.node ≡ x.router.id → peer.endpoint ≡ p.id
      → x.router.id.0 ≢ y.router.id.0 → AreOnOneLink x p.id y q.id → IsUnderWay after j q.id peer.node peer.endpoint

  -- an endpoint was there, and last sent when it did before, or it is new
  record SentCase (xm x : Member) (p : Port) : Type 0 where
    pub was : Port
    pub there : Contains xm.router.ports was
    pub id : p.id ≡ was.id
    pub sent : (p.sent ≡ was.sent) ⊎ IsNew x p

  -- a peer was there; its contact is now, or the same, and then what was under way still is
  record PeerCase (j : ℕ) (ym : Member) (q : Port) (peer : Neighbour) : Type 0 where
    pub was : Port
    pub there : Contains ym.router.ports was
    pub id : q.id ≡ was.id
    pub old : Neighbour
    pub met : Contains was.peers old
    pub node : peer.node ≡ old.node
    pub endpoint : peer.endpoint ≡ old.endpoint
    pub contact :
        (peer.contact ≡ before.moment)
        ⊎ ((peer.contact ≡ old.contact) × (IsUnderWay before j q.id peer.node peer.endpoint → IsUnderWay after j q.id peer.node peer.endpoint))

  same_sent : (m then : Member) → m ≡ then → (p : Port) → Contains then.router.ports p → SentCase m then p
  same_sent m then same p there = record { was = p; there = subst (λ (x : Member). Contains x.router.ports p) (sym same) there; id = refl; sent = inl refl }

  same_peer : (j : ℕ) (m then : Member) → m ≡ then → (q : Port) (peer : Neighbour) → Contains then.router.ports q → Contains q.peers peer
      → (IsUnderWay before j q.id peer.node peer.endpoint → IsUnderWay after j q.id peer.node peer.endpoint) → PeerCase j m q peer
  same_peer j m then same q peer there met on = record {
    was = q;
    there = subst (λ (x : Member). Contains x.router.ports q) (sym same) there;
    id = refl;
    old = peer;
    met = met;
    node = refl;
    endpoint = refl;
    contact = inr (refl, on);
  }

  module _ (start since place : ℕ) (r : Member) (goes : GoesOn since place before after r)
      (sound : (m : Member) → Contains before.members m → IsSoundMember before.moment m) (sends : AreSendsHeardSince start before r)
      (each_sent : (i : ℕ) (xm x : Member) (p : Port) → IsMemberAt i before after xm x → IsReached before r xm → IsReached after goes.next x → Contains x.router.ports p → SentCase xm x p)
      (each_peer : (j : ℕ) (ym y : Member) (q : Port) (peer : Neighbour) → IsMemberAt j before after ym y → IsReached before r ym → Contains y.router.ports q → Contains q.peers peer
      → PeerCase j ym q peer) where
    sends_on : AreSendsHeardSince start after goes.next
    sends_on i j x y p q peer at_i at_j x_in y_in p_in q_in peer_in node endpoint other link late =
        let (xm, x_both) = goes.was i x at_i in
        let (ym, y_both) = goes.was j y at_j in
        let x_was : IsReached before r xm = (goes.keeps i xm x x_both).0.1 x_in in
        let y_was : IsReached before r ym = (goes.keeps j ym y y_both).0.1 y_in in
        let x_kept = goes.kept i xm x x_both in
        let y_kept = goes.kept j ym y y_both in
        let s = each_sent i xm x p x_both x_was x_in p_in in
        let c = each_peer j ym y q peer y_both y_was q_in peer_in in
        let linked : AreOnOneLink xm s.was.id ym c.was.id = link_as x xm y ym p.id s.was.id q.id c.was.id x_kept.attachments y_kept.attachments s.id c.id link in
        let differ : xm.router.id.0 ≢ ym.router.id.0 = λ same. other (ap (λ (n : NodeId). n.0) x_kept.id ∙ same ∙ sym (ap (λ (n : NodeId). n.0) y_kept.id)) in
        let known = sends i j xm ym s.was c.was c.old x_both.was y_both.was x_was y_was s.there c.there c.met (sym c.node ∙ node ∙ x_kept.id) (sym c.endpoint ∙ endpoint ∙ s.id) differ linked in
        let past = All-contains (IsPortPast xm.router.moment) xm.router.ports s.was (sound xm x_was.runs.there).router.well.past.ports s.there in
        let then = (sound xm x_was.runs.there).past in
        let not_after = past.sent in
        elim s.sent [
          | inl same ↦ elim c.contact [
            | inl now ↦ inl (omega (arith, same, now, not_after, then))
            | inr (still, on) ↦ elim (known (omega (arith, same, late))) [
              | inl le ↦ inl (omega (arith, same, still, le))
              | inr way ↦ inr (on (rename_way before j c.was.id q.id c.old.node peer.node c.old.endpoint peer.endpoint (sym c.id) (sym c.node) (sym c.endpoint) way))
            ]
          ]
          | inr new ↦ inr (new j y q peer at_j q_in node endpoint other link)
        ]

-- who is at a place after a router was changed
pub which_at : (before after : Parts) (a : ℕ) (m0 next_x : Member) → slice_get before.members a ≡ Some m0 → after.members ≡ slice_set before.members a next_x → (k : ℕ) (m then : Member)
    → IsMemberAt k before after m then → ((k ≡ a) × (m ≡ m0) × (then ≡ next_x)) ⊎ ((k ≢ a) × (m ≡ then))
which_at before after a m0 next_x there gives k m then at = elim (cases_eq k a) [
  | inl is ↦ inl (
    is,
    same_Some m m0 (sym at.was ∙ ap (slice_get before.members) is ∙ there),
    same_Some then next_x (sym at.is ∙ ap (slice_get after.members) is ∙ ap (λ (members : List Member). slice_get members a) gives ∙ put_there before.members a m0 next_x there),
  )
  | inr other ↦ inr (other, same_Some m then (sym at.was ∙ sym (ap (λ (members : List Member). slice_get members k) gives ∙ put_elsewhere before.members a k next_x other) ∙ at.is))
]

-- the receiver of a copy that runs, and whose endpoint is attached, is not away
near_not_away : (w : Parts) (mail : MailCopy) (y : Member) → slice_get w.members mail.to.place ≡ Some y → y.running ≡ true → is_attached mail.to.endpoint y.router.ports ≡ true
    → is_away w mail ≡ true → ⊥
near_not_away w mail y at running attached away =
    let is : is_away w mail ≡ is_absent mail.to.endpoint y = ap (λ (o : Option Member). option_map_or (is_absent mail.to.endpoint) o true) at in
    let none : is_absent mail.to.endpoint y ≡ false = both_not y.running (is_attached mail.to.endpoint y.router.ports) running attached in
    cc
  where
    both_not : (a b : Bool) → a ≡ true → b ≡ true → (not a || not b) ≡ false
    both_not true true one other = refl
    both_not true false one other = absurd cc
    both_not false b one other = absurd cc

-- the laws of the crates below on which it rests
pub record RoundLaws : Type 0 where
  pub heard : HeardLaws
  pub lists : ListIsUnique
  pub items : ItemIsUnique
  pub attached : PeersAreAttached

module _ (laws : RoundLaws) (start since place : ℕ) (before between after : Parts) (replays : IsReplayed before) (replays_after : IsReplayed after) (same : after.members ≡ between.members)
    (copies : after.copies ≡ between.copies) (r : Member) (rest : IsResting since before r) (goes : GoesOn since place before after r) (sends : AreSendsHeardSince start before r) where
  all_sound : (m : Member) → Contains before.members m → IsSoundMember before.moment m
  all_sound m there = All-contains (IsSoundMember before.moment) before.members m (laws.heard.resting.calm.stay.worlds.sound before replays) there

  known_then : IsKnown after goes.next
  known_then = known_of laws.heard.resting.calm.stay.worlds after goes.next replays_after goes.resting.runs goes.resting.settled

  -- time passes
  sends_over_time : after.members ≡ before.members → after.copies ≡ before.copies → AreSendsHeardSince start after goes.next
  sends_over_time members_same copies_same =
      let one : (k : ℕ) (m then : Member) → IsMemberAt k before after m then → m ≡ then = λ k m then at.
      same_Some m then (sym at.was ∙ ap (λ (members : List Member). slice_get members k) (sym members_same) ∙ at.is) in
      sends_on before after start since place r goes all_sound sends
      (λ i xm x p at was_in x_in p_in. same_sent before after xm x (one i xm x at) p p_in)
      (λ j ym y q peer at y_in q_in peer_in. same_peer before after j ym y (one j ym y at) q peer q_in peer_in
      (way_on before after j q.id peer.node peer.endpoint (λ k mail there. ap (λ (list : List MailCopy). slice_get list k) copies_same ∙ there)))

  -- a copy is dropped that goes to nobody of the set
  sends_over_drop : (copy : ℕ) (words : List ℕ) (notes : List Note) → Does (event.Drop copy) words notes before between → (heard : ℕ) → IsLosslessEvent heard since (event.Drop copy) before after r
      → AreSendsHeardSince start after goes.next
  sends_over_drop copy words notes does heard lossless =
      let mail = does.mail in
      let gone : MailCopy = record mail { waiting = false } in
      let members_same : after.members ≡ before.members = same ∙ ap (λ (w : Parts). w.members) does.quietly.gives in
      let made_now : after.copies ≡ slice_set before.copies (copy - 1) gone = copies ∙ ap (λ (w : Parts). w.copies) does.quietly.gives in
      let one : (k : ℕ) (m then : Member) → IsMemberAt k before after m then → m ≡ then = λ k m then at.
      same_Some m then (sym at.was ∙ ap (λ (members : List Member). slice_get members k) (sym members_same) ∙ at.is) in
      sends_on before after start since place r goes all_sound sends
      (λ i xm x p at was_in x_in p_in. same_sent before after xm x (one i xm x at) p p_in)
      (λ j ym y q peer at y_in q_in peer_in. same_peer before after j ym y (one j ym y at) q peer q_in peer_in (λ u.
      let elsewhere : u.k ≢ copy - 1 = λ is.
      let this : u.mail ≡ mail = same_Some u.mail mail (sym u.there ∙ ap (slice_get before.copies) is ∙ does.is_copy) in
      let to : mail.to.place ≡ j = ap (λ (c : MailCopy). c.to.place) (sym this) ∙ ap (λ (t : Target). t.place) u.goes_to in
      let at_y : slice_get before.members mail.to.place ≡ Some ym = ap (slice_get before.members) to ∙ at.was in
      let waits : mail.waiting ≡ true = ap (λ (c : MailCopy). c.waiting) (sym this) ∙ u.waits in
      let current = rest.current (copy - 1) mail ym (inl waits) does.is_copy at_y y_in in
      let attached = laws.attached (origin_of mail) mail.bytes ym.router (all_sound ym y_in.runs.there).router current in
      near_not_away before mail ym at_y y_in.runs.running attached (lossless mail ym does.is_copy at_y y_in) in
      record {
        k = u.k;
        mail = u.mail;
        there = ap (λ (list : List MailCopy). slice_get list u.k) made_now ∙ put_elsewhere before.copies (copy - 1) u.k gone elsewhere ∙ u.there;
        waits = u.waits;
        goes_to = u.goes_to;
        hash = u.hash;
        update = u.update;
      }))

  -- a router ticks
  sends_over_tick : (name : Name) (words : List ℕ) (notes : List Note) → Does (event.Tick name) words notes before between → IsCalmSinceCopies since (event.Tick name) before after r
      → AreSendsHeardSince start after goes.next
  sends_over_tick name words notes does calm =
      let acts = does.acts in
      let m0 = acts.member in
      let n = acts.next in
      let a = does.place in
      let next_x : Member = record m0 { router = n } in
      let gives : after.members ≡ slice_set before.members a next_x = same ∙ ap (λ (w : Parts). w.members) acts.gives in
      let new : List MailCopy = copies_of before.members a m0 acts.done.sends in
      let made_now : after.copies ≡ before.copies ++ new = copies ∙ ap (λ (w : Parts). w.copies) acts.gives in
      let at_x : IsMemberAt a before after m0 next_x = record {
        was = acts.is_member;
        is = ap (λ (members : List Member). slice_get members a) gives ∙ put_there before.members a m0 next_x acts.is_member;
      } in
      let run = ran before.moment m0.router n acts.done acts.happened in
      let sound = all_sound m0 (contains_at before.members a m0 acts.is_member) in
      let stays : (k : ℕ) (mail : MailCopy) → slice_get before.copies k ≡ Some mail → slice_get after.copies k ≡ Some mail = λ k mail there.
      ap (λ (list : List MailCopy). slice_get list k) made_now ∙ front_stays before.copies new k mail there in
      let moved : IsReached before r m0 → (p : Port) → Contains n.ports p → HasMoved before.moment acts.done.sends m0.router.ports p = λ reached p p_in.
      let calm_tick : IsCalmTick before.moment m0.router n = calm a m0 next_x does.is_place at_x reached in
      let there : Contains run.after.state.ports p = subst (λ (s : State). Contains s.ports p) run.is p_in in
      subst (λ (d : Done). HasMoved before.moment d.sends m0.router.ports p) (sym run.done_is)
      (laws.heard.peers before.moment m0.router run.after sound.router sound.past calm_tick.undue run.tick p there) in
      let waits : IsReached after goes.next next_x → (p : Port) (send : Outgoing) → Contains acts.done.sends send → send.endpoint ≡ p.id
      → IsNew before after next_x p = λ x_in p send among at_p j y q peer at_j q_in node endpoint other link.
      let apart : j ≢ a = λ is. other (ap (λ (m : Member). m.router.id.0) (same_Some next_x y (sym at_x.is ∙ ap (slice_get after.members) (sym is) ∙ at_j))) in
      let was_j : slice_get before.members j ≡ Some y = sym (ap (λ (members : List Member). slice_get members j) gives ∙ put_elsewhere before.members a j next_x apart) ∙ at_j in
      let all = status_sends laws.heard.resting before.moment m0.router n acts.done acts.happened (router_of after goes.next known_then next_x x_in) in
      let status = All-contains (IsStatusSend n.id n.net (endpoints_of n.ports)) acts.done.sends send all among in
      let sender_on : IsOnLink link.link m0 send.endpoint = subst (λ (e : EpId). IsOnLink link.link m0 e) (sym at_p) link.one in
      let copy =
      copy_made before.members a m0 acts.done.sends send link.link j y q.id among status.multicast sender_on apart was_j (Contains-map (λ (x : Port). x.id) y.router.ports q q_in) link.other in
      let (k, stands) = new_place before.copies new (made a send (record { place = j; endpoint = q.id })) copy in
      let update : IsStatusUpdate send.bytes peer.node peer.endpoint n.net =
      subst (λ (e : EpId). IsStatusUpdate send.bytes peer.node e n.net) (at_p ∙ sym endpoint) (subst (λ (i : NodeId). IsStatusUpdate send.bytes i send.endpoint n.net) (sym node) status.update) in
      record {
        k = k;
        mail = made a send (record { place = j; endpoint = q.id });
        there = ap (λ (list : List MailCopy). slice_get list k) made_now ∙ stands;
        waits = refl;
        goes_to = refl;
        hash = n.net;
        update = update;
      } in
      sends_on before after start since place r goes all_sound sends
      (λ i xm x p at was_in x_in p_in. elim (which_at before after a m0 next_x acts.is_member gives i xm x at) [
        | inl (is, was, now) ↦
            let reached : IsReached before r m0 = subst (IsReached before r) was was_in in
            let here : Contains n.ports p = subst (λ (m : Member). Contains m.router.ports p) now p_in in
            let h = moved reached p here in
            let new_x : SentCase before after m0 next_x p = record {
              was = h.was;
              there = h.there;
              id = h.id;
              sent = elim h.sent [
                | inl still ↦ inl still
                | inr (is_now, send, among, at_p) ↦ inr (waits (subst (IsReached after goes.next) now x_in) p send among at_p)
              ];
            } in
            subst (λ (m : Member). SentCase before after m x p) (sym was) (subst (λ (m : Member). SentCase before after m0 m p) (sym now) new_x)
        | inr (other, one) ↦ same_sent before after xm x one p p_in
      ])
      (λ j ym y q peer at y_was q_in peer_in. elim (which_at before after a m0 next_x acts.is_member gives j ym y at) [
        | inl (is, was, now) ↦
            let reached : IsReached before r m0 = subst (IsReached before r) was y_was in
            let here : Contains n.ports q = subst (λ (m : Member). Contains m.router.ports q) now q_in in
            let h = moved reached q here in
            subst (λ (m : Member). PeerCase before after j m q peer) (sym was) (record {
              was = h.was;
              there = h.there;
              id = h.id;
              old = peer;
              met = subst (λ (list : List Neighbour). Contains list peer) h.peers peer_in;
              node = refl;
              endpoint = refl;
              contact = inr (refl, way_on before after j q.id peer.node peer.endpoint stays);
            })
        | inr (other, one) ↦ same_peer before after j ym y one q peer q_in peer_in (way_on before after j q.id peer.node peer.endpoint stays)
      ])

  -- a copy is delivered
  sends_over_delivery : (copy : ℕ) (words : List ℕ) (notes : List Note) → Does (event.Deliver copy) words notes before between → IsCalmSinceCopies since (event.Deliver copy) before after r
      → AreSendsHeardSince start after goes.next
  sends_over_delivery copy words notes does calm =
      let acts = does.acts in
      let mail = does.mail in
      let m0 = acts.member in
      let n = acts.next in
      let a = mail.to.place in
      let next_x : Member = record m0 { router = n } in
      let gives : after.members ≡ slice_set before.members a next_x = same ∙ ap (λ (w : Parts). w.members) does.gives ∙ ap (λ (w : Parts). w.members) acts.gives in
      let gone : MailCopy = record mail { waiting = false } in
      let sent : List MailCopy = copies_of before.members a m0 acts.done.sends in
      let made_now : after.copies ≡ slice_set (before.copies ++ sent) (copy - 1) gone =
      copies ∙ ap (λ (w : Parts). w.copies) does.gives ∙ ap (λ (w : Parts). slice_set w.copies (copy - 1) gone) acts.gives in
      let at_x : IsMemberAt a before after m0 next_x = record {
        was = acts.is_member;
        is = ap (λ (members : List Member). slice_get members a) gives ∙ put_there before.members a m0 next_x acts.is_member;
      } in
      let found = calm mail m0 next_x does.is_copy at_x in
      let over : IsReached before r m0 → IsPassed before.moment mail m0.router n acts.done = λ reached.
      let premise = found.1 reached in
      let counts : (mail.waiting ≡ true) ⊎ (since ≤ copy - 1) = elim premise.0 [ inl waits ↦ inl waits | inr less ↦ inr (omega (arith, less)) ] in
      passed laws.heard.resting.calm before.moment m0 mail n acts.done (all_sound m0 (contains_at before.members a m0 acts.is_member)) acts.happened
      (record { current = rest.current (copy - 1) mail m0 counts does.is_copy acts.is_member reached; young = premise.1; used = premise.2 }) in
      let ports_are : (reached : IsReached before r m0) → n.ports ≡ ports_by before.moment m0.router mail.to.endpoint (over reached).sender (port_at mail.to.endpoint m0.router.ports) = λ reached.
      let o = over reached in
      ap (λ (s : State). s.ports) o.is ∙ ap (λ (p : Passing). (after_passing p before.moment m0.router).ports) o.heard in
      -- what is under way still is, unless it is this copy
      let unless : (j : ℕ) (e : EpId) (v : NodeId) (f : EpId) → ((u : IsUnderWay before j e v f) → u.mail ≡ mail → ⊥) → IsUnderWay before j e v f → IsUnderWay after j e v f = λ j e v f not_this u.
      let elsewhere : u.k ≢ copy - 1 = λ is. not_this u (same_Some u.mail mail (sym u.there ∙ ap (slice_get before.copies) is ∙ does.is_copy)) in
      record {
        k = u.k;
        mail = u.mail;
        there = ap (λ (list : List MailCopy). slice_get list u.k) made_now ∙ put_elsewhere (before.copies ++ sent) (copy - 1) u.k gone elsewhere ∙ front_stays before.copies sent u.k u.mail u.there;
        waits = u.waits;
        goes_to = u.goes_to;
        hash = u.hash;
        update = u.update;
      } in
      sends_on before after start since place r goes all_sound sends
      (λ i xm x p at was_in x_in p_in. elim (which_at before after a m0 next_x acts.is_member gives i xm x at) [
        | inl (is, was, now) ↦
            let reached : IsReached before r m0 = subst (IsReached before r) was was_in in
            let here : Contains n.ports p = subst (λ (m : Member). Contains m.router.ports p) now p_in in
            let h = same_port before.moment m0.router mail.to.endpoint (over reached).sender (port_at mail.to.endpoint m0.router.ports) refl p
            (subst (λ (list : List Port). Contains list p) (ports_are reached) here) in
            subst (λ (m : Member). SentCase before after m x p) (sym was) (record { was = h.was; there = h.there; id = h.id; sent = inl h.sent })
        | inr (other, one) ↦ same_sent before after xm x one p p_in
      ])
      (λ j ym y q peer at y_was q_in peer_in. elim (which_at before after a m0 next_x acts.is_member gives j ym y at) [
        | inl (is, was, now) ↦
            let reached : IsReached before r m0 = subst (IsReached before r) was y_was in
            let o = over reached in
            let here : Contains n.ports q = subst (λ (m : Member). Contains m.router.ports q) now q_in in
            let h = peer_after before.moment m0.router mail.to.endpoint o.sender (port_at mail.to.endpoint m0.router.ports) refl o.attached q peer
            (subst (λ (list : List Port). Contains list q) (ports_are reached) here) peer_in in
            subst (λ (m : Member). PeerCase before after j m q peer) (sym was) (record {
              was = h.was;
              there = h.there;
              id = h.id;
              old = h.old;
              met = h.met;
              node = h.node;
              endpoint = h.endpoint;
              contact = elim h.contact [
                | inl is_now ↦ inl is_now
                | inr (still, not_him) ↦ inr (
                  still,
                  unless j q.id peer.node peer.endpoint (λ u this.
                      let to_end : q.id ≡ mail.to.endpoint = sym (ap (λ (t : Target). t.endpoint) u.goes_to) ∙ ap (λ (c : MailCopy). c.to.endpoint) this in
                      let update : IsStatusUpdate mail.bytes peer.node peer.endpoint u.hash = subst (λ (c : MailCopy). IsStatusUpdate c.bytes peer.node peer.endpoint u.hash) this u.update in
                      let him = one_sender laws.lists laws.items mail.bytes peer.node o.sender.0 peer.endpoint o.sender.1 u.hash o.hash update o.update in
                      not_him to_end him.0 him.1),
                )
              ];
            })
        | inr (other, one) ↦ same_peer before after j ym y one q peer q_in peer_in (unless j q.id peer.node peer.endpoint (λ u this.
            other (sym (ap (λ (t : Target). t.place) u.goes_to) ∙ ap (λ (c : MailCopy). c.to.place) this)))
      ])

sends_by : RoundLaws → (start since place : ℕ) (event : WEvent) (words : List ℕ) (notes : List Note) (before between after : Parts) → IsReplayed before → IsReplayed after
    → after.members ≡ between.members → after.copies ≡ between.copies → Does event words notes before between → (r : Member) → IsResting since before r
    → (heard : ℕ) → IsLosslessEvent heard since event before after r → IsCalmSinceCopies since event before after r → (goes : GoesOn since place before after r) → AreSendsHeardSince start before r
    → AreSendsHeardSince start after goes.next
sends_by laws start since place (event.Time moment) words notes before between after replays replays_after same copies does r rest heard lossless calm goes sends =
    sends_over_time laws start since place before between after replays replays_after same copies r rest goes sends (same ∙ ap (λ (w : Parts). w.members) does.gives)
    (copies ∙ ap (λ (w : Parts). w.copies) does.gives)
sends_by laws start since place (event.Tick name) words notes before between after replays replays_after same copies does r rest heard lossless calm goes sends =
    sends_over_tick laws start since place before between after replays replays_after same copies r rest goes sends name words notes does calm
sends_by laws start since place (event.Deliver copy) words notes before between after replays replays_after same copies does r rest heard lossless calm goes sends =
    sends_over_delivery laws start since place before between after replays replays_after same copies r rest goes sends copy words notes does calm
sends_by laws start since place (event.Drop copy) words notes before between after replays replays_after same copies does r rest heard lossless calm goes sends =
    sends_over_drop laws start since place before between after replays replays_after same copies r rest goes sends copy words notes does heard lossless
sends_by laws start since place _ words notes before between after replays replays_after same copies does r rest heard lossless calm goes sends = absurd calm

-- ---- peers stay linked

linked_on : (before after : Parts) (since place : ℕ) (r : Member) (goes : GoesOn since place before after r)
    → ((m : Member) → Contains before.members m → IsSoundMember before.moment m) → ((m : Member) → Contains before.members m → IsAttachedMember m)
    → ((m : Member) → Contains after.members m → IsAttachedMember m)
    → HearOn before after r → ArePeersLinked before r → ArePeersLinked after goes.next
linked_on before after since place r goes sound attached attached_then hears linked y q peer reached q_in peer_in =
    let (k, within, is) = reached.runs.there in
    let here : slice_get after.members k ≡ Some y = slice_get-get_or after.members k y within ∙ ap Some is in
    let (m, both) = goes.was k y here in
    let was : IsReached before r m = (goes.keeps k m y both).0.1 reached in
    let h = hears k m y both was q peer q_in peer_in in
    let l = linked m h.was h.old was h.there h.met in
    let x = l.x in
    let (i, within_i, is_i) = l.reached.runs.there in
    let here_i : slice_get before.members i ≡ Some x = slice_get-get_or before.members i x within_i ∙ ap Some is_i in
    let (then, there_i) = goes.on i x here_i in
    let both_i : IsMemberAt i before after x then = record { was = here_i; is = there_i } in
    let kept_x = goes.kept i x then both_i in
    let kept_y = goes.kept k m y both in
    let numbers = All-contains (λ (p : Port). (0 < p.id.0) × (p.id.0 < 2 ^ 32)) x.router.ports l.port (sound x l.reached.runs.there).router.well.ports.numbered l.there in
    let among : Contains (map (λ (a : Attachment). a.endpoint) x.attachments) l.port.id =
    ((attached x l.reached.runs.there).endpoints l.port.id numbers.0).0 (Contains-map (λ (p : Port). p.id) x.router.ports l.port l.there) in
    let among_then : Contains (map (λ (a : Attachment). a.endpoint) then.attachments) l.port.id =
    subst (λ (list : List Attachment). Contains (map (λ (a : Attachment). a.endpoint) list) l.port.id) (sym kept_x.attachments) among in
    let ends : Contains (endpoints_of then.router.ports) l.port.id = ((attached_then then (contains_at after.members i then there_i)).endpoints l.port.id numbers.0).1 among_then in
    let (port, port_in, port_is) = Contains-from_map (λ (p : Port). p.id) then.router.ports l.port.id ends in
    record {
      x = then;
      reached = (goes.keeps i x then both_i).0.0 l.reached;
      port = port;
      there = port_in;
      node = h.node ∙ l.node ∙ sym kept_x.id;
      endpoint = h.endpoint ∙ l.endpoint ∙ sym port_is;
      other = λ same. l.other (ap (λ (n : NodeId). n.0) (sym kept_x.id) ∙ same ∙ ap (λ (n : NodeId). n.0) kept_y.id);
      link = link_as x then m y l.port.id port.id h.was.id q.id (sym kept_x.attachments) (sym kept_y.attachments) (sym port_is) (sym h.id) l.link;
    }

-- ---- events one after another

pub steady_of : (heard since : ℕ) (event : WEvent) (before after : Parts) (r : Member) → IsLosslessEvent heard since event before after r → IsSteadyEvent heard since event before after r
steady_of heard since (event.Drop copy) before after r lossless = tt
steady_of heard since _ before after r lossless = lossless

pub record GoesRound (start heard since place : ℕ) (before after : Parts) (r : Member) : Type 0 where
  pub heard_on : GoesHeard heard since place before after r
  pub linked : ArePeersLinked after (heard_on.goes).next
  pub sends : AreSendsHeardSince start after (heard_on.goes).next

pub one_round : RoundLaws → (start heard since : ℕ) (t : Traced) (notes : List Note) (before after : Parts) → IsReplayed before → Step t notes before after
    → (place : ℕ) (r : Member) → slice_get before.members place ≡ Some r → IsResting since before r → AreHeardSince heard before r → heard ≤ before.moment
    → ArePeersLinked before r → AreSendsHeardSince start before r → IsLosslessEvent heard since t.event before after r → GoesRound start heard since place before after r
one_round laws start heard since t notes before after replays step place r at rest peers later linked sends lossless =
    let steady = steady_of heard since t.event before after r lossless in
    let calm = calm_by laws.heard heard since t.event before after r replays rest peers steady in
    let one = one_heard laws.heard heard since t notes before after replays step place r at rest peers later steady in
    let replays_after = replays_more laws.heard.resting.next t notes before after replays step in
    let same : after.members ≡ (step.between).members = ap (λ (w : Parts). w.members) step.gives in
    let copies : after.copies ≡ (step.between).copies = ap (λ (w : Parts). w.copies) step.gives in
    let worlds = laws.heard.resting.calm.stay.worlds in
    let known = known_of worlds before r replays rest.runs rest.settled in
    let known_then = known_of worlds after (one.goes).next replays_after (one.goes).resting.runs (one.goes).resting.settled in
    record {
      heard_on = one;
      linked = linked_on before after since place r one.goes
          (λ m there. All-contains (IsSoundMember before.moment) before.members m (worlds.sound before replays) there) known.attached known_then.attached
          (hears_by laws.heard since t.event t.words notes before step.between after replays same step.does r rest calm) linked;
      sends = sends_by laws start since place t.event t.words notes before step.between after replays replays_after same copies step.does r rest heard lossless calm one.goes sends;
    }

pub all_rounds : RoundLaws → (start heard since place : ℕ) (ts : List Traced) (before after : Parts) (r : Member) → IsReplayed before
    → slice_get before.members place ≡ Some r → IsResting since before r
    → AreHeardSince heard before r → heard ≤ before.moment → ArePeersLinked before r → AreSendsHeardSince start before r → GoesLossless heard since place before ts after
    → GoesRound start heard since place before after r
all_rounds laws start heard since place [] before after r replays at rest peers later linked sends is =
    subst (λ (w : Parts). GoesRound start heard since place before w r) (sym is) (record {
      heard_on = record { goes = nothing_goes since place before r at rest; peers = peers; later = later };
      linked = linked;
      sends = sends;
    })
all_rounds laws start heard since place (t ∷ ts) before after r replays at rest peers later linked sends (between, (notes, step), lossless, more) =
    let first = one_round laws start heard since t notes before between replays step place r at rest peers later linked sends (lossless r at) in
    let one = first.heard_on in
    let second = all_rounds laws start heard since place ts between after (one.goes).next
    (replays_more laws.heard.resting.next t notes before between replays step) (one.goes).here.is (one.goes).resting
    one.peers one.later first.linked first.sends more in
    let two = second.heard_on in
    record {
      heard_on = record { goes = both_go since place before between after r one.goes two.goes; peers = two.peers; later = two.later };
      linked = second.linked;
      sends = second.sends;
    }

-- once all is delivered, peers were heard since each endpoint sent
pub heard_since : (start : ℕ) (w : Parts) (r : Member) → ArePeersLinked w r → AreSendsHeardSince start w r → (sent : ℕ) → start ≤ sent → AreDelivered sent w r → AreHeardSince sent w r
heard_since start w r linked sends sent late delivered y q peer reached q_in peer_in =
    let l = linked y q peer reached q_in peer_in in
    let (i, within_i, is_i) = l.reached.runs.there in
    let (j, within_j, is_j) = reached.runs.there in
    let at_i : slice_get w.members i ≡ Some l.x = slice_get-get_or w.members i l.x within_i ∙ ap Some is_i in
    let at_j : slice_get w.members j ≡ Some y = slice_get-get_or w.members j y within_j ∙ ap Some is_j in
    let le = delivered.sends l.x l.port l.reached l.there in (
      subst (Contains r.router.reach) (sym l.node) l.reached.reached,
      elim (sends i j l.x y l.port q peer at_i at_j l.reached reached l.there q_in peer_in l.node l.endpoint l.other l.link (omega (arith, le, late))) [
        | inl contact ↦ omega (arith, le, contact)
        | inr u ↦ absurd (delivered.none_waits u.k u.mail y u.there (ap (λ (t : Target). slice_get w.members t.place) u.goes_to ∙ at_j) reached u.waits)
      ],
    )

-- a router with current waiting copies rests
pub rests_now : (before : Parts) (r : Member) → IsRunning before r → IsSettledByRules before r → IsQuietByRules before r → AreWaitingCurrent before r → IsResting (length before.copies) before r
rests_now before r runs settled quiet waiting = record {
  runs = runs;
  settled = settled;
  quiet = quiet;
  current = λ k mail y counts there to reached. elim counts [
    | inl waits ↦ waiting k mail y waits there to reached
    | inr le ↦ let within = slice_get_within before.copies k mail there in absurd (omega (arith, le, within))
  ];
}

-- a whole round
pub one_whole : RoundLaws → (start heard : ℕ) (ts : List Traced) (place : ℕ) (before after : Parts) (r : Member) → IsReplayed before → slice_get before.members place ≡ Some r
    → IsRunning before r → IsSettledByRules before r → IsQuietByRules before r → AreWaitingCurrent before r
    → heard ≤ before.moment → AreHeardSince heard before r → ArePeersLinked before r → AreSendsHeardSince start before r
    → GoesLossless heard (length before.copies) place before ts after → GoesRound start heard (length before.copies) place before after r
one_whole laws start heard ts place before after r replays at runs settled quiet waiting later peers linked sends goes =
    all_rounds laws start heard (length before.copies) place ts before after r replays at (rests_now before r runs settled quiet waiting) peers later linked sends goes

pub still_waiting : (since : ℕ) (w : Parts) (r : Member) → IsResting since w r → AreWaitingCurrent w r
still_waiting since w r rest k mail y waits there to reached = rest.current k mail y (inl waits) there to reached

pub round_renews : RoundLaws → RoundRenews
round_renews laws heard ts place before after r replays at runs settled quiet waiting later peers linked sends goes =
    let all = one_whole laws 0 heard ts place before after r replays at runs settled quiet waiting later peers linked sends goes in
    let on = all.heard_on in
    let next = (on.goes).next in (
      next,
      (on.goes).here,
      (on.goes).resting.settled,
      (on.goes).resting.quiet,
      (on.goes).keeps,
      on.peers,
      all.linked,
      all.sends,
      still_waiting (length before.copies) after next (on.goes).resting,
      λ sent delivered. heard_since 0 after next all.linked all.sends sent (omega arith) delivered,
    )

-- ---- round after round

pub replays_all : RoundLaws → (heard since place : ℕ) (ts : List Traced) (before after : Parts) → IsReplayed before → GoesLossless heard since place before ts after → IsReplayed after
replays_all laws heard since place [] before after replays is = subst IsReplayed (sym is) replays
replays_all laws heard since place (t ∷ ts) before after replays (between, (notes, step), lossless, more) =
    replays_all laws heard since place ts between after (replays_more laws.heard.resting.next t notes before between replays step) more

-- what rounds leave
pub record GoesOver (place : ℕ) (before after : Parts) (r : Member) : Type 0 where
  pub next : Member
  pub here : IsMemberAt place before after r next
  pub settled : IsSettledByRules after next
  pub quiet : IsQuietByRules after next
  pub keeps : KeepAssignments before after r next
  pub was : (k : ℕ) (then : Member) → slice_get after.members k ≡ Some then → (m : Member) × IsMemberAt k before after m then

abbrev pub none_goes : (place : ℕ) (before : Parts) (r : Member) → slice_get before.members place ≡ Some r → IsSettledByRules before r → IsQuietByRules before r → GoesOver place before before r
none_goes place before r at settled quiet = record {
  next = r;
  here = record { was = at; is = at };
  settled = settled;
  quiet = quiet;
  keeps = λ k s then both.
      let same : s ≡ then = same_Some s then (sym both.was ∙ both.is) in
      subst (λ (m : Member). (IsReached before r s ↔ IsReached before r m) × (IsReached before r s → AreAssignmentsUnchanged s.router.held.assigned m.router.held.assigned)) same
      ((λ is. is, λ is. is), λ _. refl);
  was = λ k then there. (then, record { was = there; is = there });
}

pub no_rounds : (place : ℕ) (before after : Parts) (r : Member) → slice_get before.members place ≡ Some r → IsSettledByRules before r → IsQuietByRules before r → after ≡ before
    → GoesOver place before after r
no_rounds place before after r at settled quiet is = subst (λ (w : Parts). GoesOver place before w r) (sym is) (none_goes place before r at settled quiet)

abbrev pub more_rounds : (since place : ℕ) (before between after : Parts) (r : Member) → slice_get before.members place ≡ Some r → (one : GoesOn since place before between r)
    → GoesOver place between after one.next → GoesOver place before after r
more_rounds since place before between after r at one rest = record {
  next = rest.next;
  here = record { was = at; is = rest.here.is };
  settled = rest.settled;
  quiet = rest.quiet;
  keeps = λ k s then both.
      let (m, second) = rest.was k then both.is in
      let first = one.keeps k s m (record { was = both.was; is = second.was }) in
      let next = rest.keeps k m then second in (
        (λ is. next.0.0 (first.0.0 is), λ is. first.0.1 (next.0.1 is)),
        λ is. next.1 (first.0.0 is) ∙ first.1 is,
      );
  was = λ k then there.
      let (m, second) = rest.was k then there in
      let (s, first) = one.was k m second.was in
      (s, record { was = first.was; is = second.is });
}

goes_over : RoundLaws → (rounds : List (List Traced × ℕ)) (heard place : ℕ) (before after : Parts) (r : Member) → IsReplayed before → slice_get before.members place ≡ Some r
    → IsRunning before r → IsSettledByRules before r → IsQuietByRules before r → AreWaitingCurrent before r
    → heard ≤ before.moment → AreHeardSince heard before r → ArePeersLinked before r → AreSendsHeardSince 0 before r
    → GoesInRounds heard place before rounds after → GoesOver place before after r
goes_over laws [] heard place before after r replays at runs settled quiet waiting later peers linked sends is = no_rounds place before after r at settled quiet is
goes_over laws (round ∷ rounds) heard place before after r replays at runs settled quiet waiting later peers linked sends (between, goes, delivered, past, more) =
    let all = one_whole laws 0 heard round.0 place before between r replays at runs settled quiet waiting later peers linked sends goes in
    let one = (all.heard_on).goes in
    let since = heard_since 0 between one.next all.linked all.sends round.1 (omega arith) (delivered one.next one.here.is) in
    let rest = goes_over laws rounds round.1 place between after one.next (replays_all laws heard (length before.copies) place round.0 before between replays goes) one.here.is
    one.resting.runs one.resting.settled one.resting.quiet (still_waiting (length before.copies) between one.next one.resting) past since all.linked all.sends more in
    more_rounds (length before.copies) place before between after r at one rest

pub rest_goes_in_rounds : RoundLaws → RestGoesInRounds
rest_goes_in_rounds laws rounds heard place before after r replays at runs settled quiet waiting later peers linked sends goes =
    let all = goes_over laws rounds heard place before after r replays at runs settled quiet waiting later peers linked sends goes in
    (all.next, all.here, all.settled, all.quiet, all.keeps)
