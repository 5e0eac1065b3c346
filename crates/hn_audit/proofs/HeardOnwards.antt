-- A home whose peers were heard goes on resting.
use Rattle.hn_base.proofs.Names.{◌≡◌, ◌≢◌, ◌∙◌, ◌⊎◌, ◌<◌, ◌≤◌, ◌+◌, ◌-◌, ◌*◌, ℕ, Bool, true, false, cond, List, [], ◌∷◌, Option, Some, None, Contains, inl, inr, refl, sym, ap, subst, arith, All}
use Rattle.hn_base.proofs.Names.{nat_le, option_map_or, and_parts, cases_eq, eqb-false, leb-true}
use Rattle.hn_audit.proofs.Names.{IsTrue, Contains-head, Contains-tail, Contains-cases, Contains-from_map, nothing_in, all_of, found_passes, EpId, NodeId, contacted, hashed, is_peer, Neighbour, Port}
use Rattle.hn_audit.proofs.Names.{is_port, port_at, put_port, held, Stored, Passing, State, after_passing, at_moment, AreHeard, OwnIntervalIsDefault, Member, Parts, AreHeardSince, IsReached}
use Rattle.std.specs.Prelude.{nat_lt}
use Rattle.hn_timers.specs.KeepAlive.{is_expired}
use Rattle.hn_own.specs.Ports.{heard_at}
use Rattle.hn_rules.specs.Tick.{HasInterval, IsExpired}
use Rattle.hn_audit.proofs.BridgeSets.{IsKnown, member_of, router_of}

-- ---- nobody is silent

expiry_late : (contact now : ℕ) → is_expired contact 20000 now ≡ true → contact + 42000 ≤ now
expiry_late contact now is =
    let late = leb-true (21 * 20000) (10 * (now - contact)) (and_parts (nat_lt 0 20000) (nat_le (21 * 20000) (10 * (now - contact))) is).1 in
    omega (arith, late)

module _ (law : OwnIntervalIsDefault) (w : Parts) (r : Member) (known : IsKnown w r) (s : Member) (s_in : IsReached w r s) where
  interval_is : (node : NodeId) (endpoint : EpId) (interval : ℕ) → Contains r.router.reach node → HasInterval (held s.router.table.entries node.0) endpoint interval → interval ≡ 20000
  interval_is node endpoint interval there promised =
      let (u, u_in, is) = member_of w r known node there in
      elim (cases_eq node.0 s.router.id.0) [
        | inl own ↦
            let none : held s.router.table.entries node.0 ≡ None = ap (held s.router.table.entries) own ∙ (router_of w r known s s_in).well.other in
            subst (λ (o : Option Stored). HasInterval o endpoint interval) none promised
        | inr differs ↦
            let holds = known.settled.held s u s_in u_in (λ same. differs (ap (λ (id : NodeId). id.0) (sym is ∙ sym same))) in
            let found : held s.router.table.entries node.0 ≡ Some holds.stored = ap (λ (id : NodeId). held s.router.table.entries id.0) (sym is) ∙ holds.is_held in
            law u.router holds.stored endpoint interval (router_of w r known u u_in) holds.body
            (subst (λ (o : Option Stored). HasInterval o endpoint interval) found promised)
      ]

  pub none_has_expired : (heard now : ℕ) → AreHeardSince heard w r → now < heard + 42000 → AreHeard now s.router
  none_has_expired heard now since soon =
      all_of (λ (q : Port). All (λ peer. ¬ (IsExpired (at_moment now s.router) peer)) q.peers) s.router.ports
      (λ q q_in. all_of (λ (peer : Neighbour). ¬ (IsExpired (at_moment now s.router) peer)) q.peers
      (λ peer peer_in (interval, promised, expired).
      let (there, contact) = since s q peer s_in q_in peer_in in
      let is = interval_is peer.node peer.endpoint interval there promised in
      let late = expiry_late peer.contact now (subst (λ (n : ℕ). IsTrue (is_expired peer.contact n now)) is expired) in
      omega (arith, late, contact, soon)))

-- ---- peers stay heard

-- each peer was there, and its contact is the same or that moment
pub record WasThere (now : ℕ) (s : State) (q : Port) (peer : Neighbour) : Type 0 where
  pub was : Port
  pub there : Contains s.ports was
  pub id : q.id ≡ was.id
  pub old : Neighbour
  pub met : Contains was.peers old
  pub node : peer.node ≡ old.node
  pub endpoint : peer.endpoint ≡ old.endpoint
  pub contact : (peer.contact ≡ old.contact) ⊎ (peer.contact ≡ now)

abbrev pub HeardOn : ℕ → State → State → Type 0
HeardOn now s n = (q : Port) (peer : Neighbour) → Contains n.ports q → Contains q.peers peer → WasThere now s q peer

pub heard_itself : (now : ℕ) (s : State) → HeardOn now s s
heard_itself now s q peer there met = record { was = q; there = there; id = refl; old = peer; met = met; node = refl; endpoint = refl; contact = inl refl }

-- an endpoint that is put is the one that was put, or was there and has another number
pub put_apart : (next : Port) (ports : List Port) (q : Port) → Contains (put_port next ports) q → (q ≡ next) ⊎ (Contains ports q × (q.id.0 ≢ next.id.0))
put_apart next [] q there = absurd (nothing_in q there)
put_apart next (p ∷ ports) q there = elim (Contains-cases (cond (is_port next.id p) next p) (put_port next ports) q there) [
  | inl here ↦ by (is_port next.id p) refl here
  | inr later ↦ elim (put_apart next ports q later) [
    | inl is ↦ inl is
    | inr old ↦ inr (Contains-tail p ports q old.0, old.1)
  ]
]
  where
    by : (b : Bool) → is_port next.id p ≡ b → cond b next p ≡ q → (q ≡ next) ⊎ (Contains (p ∷ ports) q × (q.id.0 ≢ next.id.0))
    by true test is = inl (sym is)
    by false test is = inr (subst (Contains (p ∷ ports)) is (Contains-head p ports), λ same. eqb-false p.id.0 next.id.0 test (ap (λ (x : Port). x.id.0) is ∙ same))

-- a peer after a sender was heard
heard_peer : (sender : NodeId × EpId) (now : ℕ) (peers : List Neighbour) (peer : Neighbour) → Contains (contacted (Some sender) now peers) peer
    → (old : Neighbour) × Contains peers old × (peer.node ≡ old.node) × (peer.endpoint ≡ old.endpoint) × ((peer.contact ≡ old.contact) ⊎ (peer.contact ≡ now))
heard_peer sender now peers peer there =
    let change : Neighbour → Neighbour = λ old. cond (is_peer sender.0 sender.1 old) (record old { contact = now }) old in
    let from = Contains-from_map change peers peer there in
    let said = by (is_peer sender.0 sender.1 from.0) from.0 from.2 in
    (from.0, from.1, said.0, said.1, said.2)
  where
    by : (b : Bool) (old : Neighbour) → cond b (record old { contact = now }) old ≡ peer
        → (peer.node ≡ old.node) × (peer.endpoint ≡ old.endpoint) × ((peer.contact ≡ old.contact) ⊎ (peer.contact ≡ now))
    by true old is = (ap (λ (p : Neighbour). p.node) (sym is), ap (λ (p : Neighbour). p.endpoint) (sym is), inr (ap (λ (p : Neighbour). p.contact) (sym is)))
    by false old is = (ap (λ (p : Neighbour). p.node) (sym is), ap (λ (p : Neighbour). p.endpoint) (sym is), inl (ap (λ (p : Neighbour). p.contact) (sym is)))

pub passing_heard : (p : Passing) (now : ℕ) (s : State) → HeardOn now s (after_passing p now s)
passing_heard p now s q peer there met = by_heard p.heard there
  where
    by_port : (sender : NodeId × EpId) (o : Option Port) → port_at p.endpoint s.ports ≡ o
        → Contains (option_map_or (λ port. put_port (hashed true (Some sender) now port) s.ports) o s.ports) q → WasThere now s q peer
    by_port sender None none is_in = heard_itself now s q peer is_in met
    by_port sender (Some port) found is_in = elim (put_apart (hashed true (Some sender) now port) s.ports q is_in) [
      | inl is ↦
          let (old, old_in, node, endpoint, contact) = heard_peer sender now port.peers peer (subst (λ (x : Port). Contains x.peers peer) is met) in
          record {
            was = port;
            there = (found_passes (is_port p.endpoint) s.ports port found).0;
            id = ap (λ (x : Port). x.id) is;
            old = old;
            met = old_in;
            node = node;
            endpoint = endpoint;
            contact = contact;
          }
      | inr old ↦ heard_itself now s q peer old.0 met
    ]

    by_heard : (h : Option (NodeId × EpId)) → Contains (option_map_or (λ sender. heard_at p.endpoint sender now s.ports) h s.ports) q → WasThere now s q peer
    by_heard None is_in = heard_itself now s q peer is_in met
    by_heard (Some sender) is_in = by_port sender (port_at p.endpoint s.ports) refl is_in
