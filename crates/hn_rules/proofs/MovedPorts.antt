-- What a tick leaves of each endpoint.
use Rattle.hn_base.proofs.Names.{◌≡◌, ◌∙◌, ◌⊎◌, ◌<◌, ◌++◌, ℕ, Bool, true, false, cond, lit<, List, [], ◌∷◌, length, map, None, Some, inl, inr, refl, sym, ap, subst, arith, ◌||◌, eqb-false}
use Rattle.hn_base.proofs.Names.{Contains-append_left, Contains-append_right}
use Rattle.hn_rules.proofs.Names.{Contains, ◌≢◌, Contains-head, Contains-tail, Contains-cases, nothing_in, found_passes, EpId, interval_from, has_to_send, PackingIsNotEmpty, ticked, tick_sends, Port}
use Rattle.hn_rules.proofs.Names.{is_port, port_at, put_port, endpoints_of, Outgoing, Running, IsPublishing, IsPortReset, IsHashing, IsRefresh, network_state_hash, AtPort, begun_at, with_port}
use Rattle.hn_rules.proofs.Names.{IsPortSending, IsPortTick, IsPortsTick}
use Rattle.hn_dncp.specs.Tick.{has_keep_alive}
use Rattle.hn_rules.specs.Updates.{HasMoved, CalmTickMovesPorts}
use Rattle.hn_rules.proofs.NothingKeptIsDue.{CalmLaws, nothing_lost}
use Rattle.hn_rules.proofs.Leads.{Keeps, keeps_each, keeps_option}

-- an endpoint that is put is the one that was put, or was there and has another number
pub put_apart : (next : Port) (ports : List Port) (q : Port) → Contains (put_port next ports) q → (q ≡ next) ⊎ (Contains ports q × (q.id.0 ≢ next.id.0))
put_apart next [] q there = absurd (nothing_in q there)
put_apart next (p ∷ ports) q there = elim (Contains-cases (cond (is_port next.id p) next p) (put_port next ports) q there) [
  | inl here ↦ by (is_port next.id p) refl here
  | inr later ↦ elim (put_apart next ports q later) [
    | inl is ↦ inl is
    | inr old ↦ inr (Contains-tail p ports q old.0, old.1)
  ]
]
  where
    by : (b : Bool) → is_port next.id p ≡ b → cond b next p ≡ q → (q ≡ next) ⊎ (Contains (p ∷ ports) q × (q.id.0 ≢ next.id.0))
    by true test is = inl (sym is)
    by false test is = inr (subst (Contains (p ∷ ports)) is (Contains-head p ports), λ same. eqb-false p.id.0 next.id.0 test (ap (λ (x : Port). x.id.0) is ∙ same))

pub put_from : (next : Port) (ports : List Port) (q : Port) → Contains (put_port next ports) q → (q ≡ next) ⊎ Contains ports q
put_from next ports q there = elim (put_apart next ports q there) [ inl is ↦ inl is | inr old ↦ inr old.0 ]

-- ---- one endpoint

-- when it last sent, after Trickle fired and a keep-alive was looked for
sent_now : (b c : Bool) (now old : ℕ) → (b || c) ≡ true → cond c now (cond b now old) ≡ now
sent_now b true now old is = refl
sent_now true false now old is = refl
sent_now false false now old is = absurd cc

sent_then : (b c : Bool) (now old : ℕ) → (b || c) ≡ false → cond c now (cond b now old) ≡ old
sent_then true c now old is = absurd cc
sent_then false true now old is = absurd cc
sent_then false false now old is = refl

module _ (now : ℕ) (start : List Port) where
  -- each endpoint has moved, and this is the moment
  record AreMoved (r : Running) : Type 0 where
    pub moment : r.state.moment ≡ now
    pub each : (q : Port) → Contains r.state.ports q → HasMoved now r.done.sends start q

  -- more is sent
  more_sends : (sends more : List Outgoing) (q : Port) → HasMoved now sends start q → HasMoved now (sends ++ more) start q
  more_sends sends more q moved = record {
    was = moved.was;
    there = moved.there;
    id = moved.id;
    peers = moved.peers;
    sent = elim moved.sent [
      | inl same ↦ inl same
      | inr (is, send, among, at) ↦ inr (is, send, Contains-append_left sends more send among, at)
    ];
  }

  -- an endpoint with the same peers and the same moment of sending is put
  moved_put : (at : EpId) (port next : Port) (r : Running)
      → port_at at r.state.ports ≡ Some port → next.id ≡ port.id → next.peers ≡ port.peers → next.sent ≡ port.sent
      → AreMoved r → AreMoved (with_port next r)
  moved_put at port next r found id peers sent moved = record {
    moment = moved.moment;
    each = λ q there. elim (put_from next r.state.ports q there) [
      | inl is ↦
          let from = moved.each port (found_passes (is_port at) r.state.ports port found).0 in
          subst (HasMoved now r.done.sends start) (sym is) (record {
            was = from.was;
            there = from.there;
            id = id ∙ from.id;
            peers = peers ∙ from.peers;
            sent = elim from.sent [
              | inl same ↦ inl (sent ∙ same)
              | inr (is_now, send, among, here) ↦ inr (sent ∙ is_now, send, among, here ∙ sym id)
            ];
          })
      | inr old ↦ moved.each q old
    ];
  }

  same_parts : (r a : Running) → a.state.ports ≡ r.state.ports → a.state.moment ≡ r.state.moment → a.done.sends ≡ r.done.sends → AreMoved r → AreMoved a
  same_parts r a ports moment sends moved = record {
    moment = moment ∙ moved.moment;
    each = λ q there.
        subst (λ (list : List Outgoing). HasMoved now list start q) (sym sends) (moved.each q (subst (λ (list : List Port). Contains list q) ports there));
  }

  reset_moves : (at : EpId) (port : Port) (r a : Running) → port_at at r.state.ports ≡ Some port → IsPortReset port r a → AreMoved r → AreMoved a
  reset_moves at port r a found (inl (shortest, is)) moved = subst AreMoved (sym is) moved
  reset_moves at port r a found (inr (longer, (word, is))) moved =
      let put = moved_put at port (record port { trickle = interval_from r.state.moment 200 word }) r found refl refl refl moved in
      subst AreMoved (sym is) (record { moment = put.moment; each = put.each })

  refresh_moves : Keeps AreMoved IsRefresh
  refresh_moves r a (published, publishes, (reached, reaches, hashes)) was = by_hash hashes
    where
      by_publishing : IsPublishing r published → AreMoved published
      by_publishing (inl (same, is)) = subst AreMoved (sym is) was
      by_publishing (inr (other, is)) =
          same_parts r published (ap (λ (x : Running). x.state.ports) is.gives) (ap (λ (x : Running). x.state.moment) is.gives) (ap (λ (x : Running). x.done.sends) is.gives) was

      here : AreMoved reached
      here =
          same_parts published reached (ap (λ (x : Running). x.state.ports) reaches.gives) (ap (λ (x : Running). x.state.moment) reaches.gives) (ap (λ (x : Running). x.done.sends) reaches.gives)
          (by_publishing publishes)

      hashed : Running
      hashed = record reached { state = record reached.state { net = network_state_hash reached.state } }

      by_hash : IsHashing reached a → AreMoved a
      by_hash (inl (same, is)) = subst AreMoved (sym is) here
      by_hash (inr (other, resets)) =
          keeps_each AreMoved (λ at. AtPort at IsPortReset)
          (λ at. keeps_option AreMoved at IsPortReset (λ port x y found. reset_moves at port x y found)) (endpoints_of reached.state.ports) hashed a resets
          (record { moment = here.moment; each = here.each })

  -- a tick of one endpoint
  module _ (not_empty : PackingIsNotEmpty) where
    -- it is put, and what it sends is sent
    tick_puts : (at : EpId) (port next : Port) (r : Running) (sends : List Outgoing) → port_at at r.state.ports ≡ Some port → next.id ≡ port.id → next.peers ≡ port.peers
        → (next.sent ≡ port.sent) ⊎ ((next.sent ≡ now) × (send : Outgoing) × Contains sends send × (send.endpoint ≡ port.id)) → AreMoved r
        → (q : Port) → Contains (put_port next r.state.ports) q → HasMoved now (r.done.sends ++ sends) start q
    tick_puts at port next r sends found id peers sent moved q there = elim (put_from next r.state.ports q there) [
      | inl is ↦
          let from = more_sends r.done.sends sends port (moved.each port (found_passes (is_port at) r.state.ports port found).0) in
          subst (HasMoved now (r.done.sends ++ sends) start) (sym is) (record {
            was = from.was;
            there = from.there;
            id = id ∙ from.id;
            peers = peers ∙ from.peers;
            sent = elim sent [
              | inl same ↦ elim from.sent [
                | inl before ↦ inl (same ∙ before)
                | inr (is_now, send, among, here) ↦ inr (same ∙ is_now, send, among, here ∙ sym id)
              ]
              | inr (is_now, send, among, here) ↦ inr (is_now, send, Contains-append_right r.done.sends sends send among, here ∙ sym id)
            ];
          })
      | inr old ↦ more_sends r.done.sends sends q (moved.each q old)
    ]

    some_send : (at : EpId) (datagrams : List (List ℕ)) → 0 < length datagrams
        → (send : Outgoing) × Contains (map (λ bytes. let o : Outgoing = record { endpoint = at; to = None; bytes = bytes } in o) datagrams) send × (send.endpoint ≡ at)
    some_send at [] some = absurd (omega arith)
    some_send at (d ∷ ds) some = (record { endpoint = at; to = None; bytes = d }, Contains-head _ _, refl)

    tick_moves : (at : EpId) (port : Port) (r a : Running) → port_at at r.state.ports ≡ Some port → IsPortTick port r a → AreMoved r → AreMoved a
    tick_moves at port r a found (moved, moves, sends) was = by_sending sends
      where
        next : Port
        next = ticked r.state.moment moves.words port

        same_moment : moved.state.moment ≡ r.state.moment
        same_moment = ap (λ (x : Running). x.state.moment) moves.gives

        by_sending : IsPortSending port moved a → AreMoved a
        by_sending (inl (due, is)) =
            let due_then : tick_sends r.state.moment port ≡ true = subst (λ (n : ℕ). tick_sends n port ≡ true) same_moment due in
            let sent : next.sent ≡ now = sent_now (has_to_send r.state.moment port.trickle) (has_keep_alive r.state.moment port) r.state.moment port.sent due_then ∙ was.moment in
            let (send, among, here) = some_send port.id is.datagrams (not_empty moved.state.id port.id _ is.datagrams is.packed (lit< tt)) in
            let new : List Outgoing = map (λ bytes. let o : Outgoing = record { endpoint = port.id; to = None; bytes = bytes } in o) is.datagrams in
            let sends_are : a.done.sends ≡ r.done.sends ++ new = ap (λ (x : Running). x.done.sends) is.gives ∙ ap (λ (x : Running). x.done.sends ++ new) moves.gives in
            let ports_are : a.state.ports ≡ put_port next r.state.ports = ap (λ (x : Running). x.state.ports) is.gives ∙ ap (λ (x : Running). x.state.ports) moves.gives in
            record {
              moment = ap (λ (x : Running). x.state.moment) is.gives ∙ same_moment ∙ was.moment;
              each = λ q there.
                  subst (λ (list : List Outgoing). HasMoved now list start q) (sym sends_are)
                  (tick_puts at port next r new found refl refl (inr (sent, send, among, here)) was q (subst (λ (list : List Port). Contains list q) ports_are there));
            }
        by_sending (inr (none, is)) =
            let none_then : tick_sends r.state.moment port ≡ false = subst (λ (n : ℕ). tick_sends n port ≡ false) same_moment none in
            let sent : next.sent ≡ port.sent = sent_then (has_to_send r.state.moment port.trickle) (has_keep_alive r.state.moment port) r.state.moment port.sent none_then in
            let put = moved_put at port next r found refl refl sent was in
            same_parts (with_port next r) a
            (ap (λ (x : Running). x.state.ports) is ∙ ap (λ (x : Running). x.state.ports) moves.gives)
            (ap (λ (x : Running). x.state.moment) is ∙ ap (λ (x : Running). x.state.moment) moves.gives)
            (ap (λ (x : Running). x.done.sends) is ∙ ap (λ (x : Running). x.done.sends) moves.gives) put

    ports_move : Keeps AreMoved IsPortsTick
    ports_move r a holds =
        keeps_each AreMoved (λ at. AtPort at IsPortTick) (λ at. keeps_option AreMoved at IsPortTick (λ port x y found. tick_moves at port x y found)) (endpoints_of r.state.ports) r a holds

pub tick_moves_ports : PackingIsNotEmpty → CalmLaws → CalmTickMovesPorts
tick_moves_ports not_empty laws now s after router begun quiet (lost, losing, (forgot, forgets, (settled, (assigned, assigns, again), ticks))) =
    let start : AreMoved now s.ports (begun_at now s) = record { moment = refl; each = λ q there. record { was = q; there = there; id = refl; peers = refl; sent = inl refl } } in
    let none : lost ≡ begun_at now s = nothing_lost laws s now router begun quiet lost losing in
    let one : AreMoved now s.ports forgot =
    same_parts now s.ports (begun_at now s) forgot (ap (λ (x : Running). x.state.ports) forgets ∙ ap (λ (x : Running). x.state.ports) none)
    (ap (λ (x : Running). x.state.moment) forgets ∙ ap (λ (x : Running). x.state.moment) none) (ap (λ (x : Running). x.done.sends) forgets ∙ ap (λ (x : Running). x.done.sends) none) start in
    let two : AreMoved now s.ports assigned =
    same_parts now s.ports forgot assigned (ap (λ (x : Running). x.state.ports) assigns.gives) (ap (λ (x : Running). x.state.moment) assigns.gives)
    (ap (λ (x : Running). x.done.sends) assigns.gives) one in
    (ports_move now s.ports not_empty settled after ticks (refresh_moves now s.ports assigned settled again two)).each
