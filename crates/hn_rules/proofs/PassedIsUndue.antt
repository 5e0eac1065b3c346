-- Where an arrival is let pass, nothing is due sooner: a contact that is renewed expires later than it did.
use Rattle.hn_base.proofs.Names.{◌≡◌, ◌⊎◌, ◌<◌, ◌≤◌, ◌-◌, ◌*◌, ℕ, Bool, true, false, cond, List, [], Option, Some, None, inl, inr, refl, sym, subst, arith, All, All-contains, option_map_or}
use Rattle.hn_base.proofs.Names.{and_parts, cases_lt, leb-true, ltb-true, nat_lt}
use Rattle.hn_rules.proofs.Names.{nat_le, Contains, Contains-from_map, all_of, found_passes, NodeId, EpId, IsPortUndue, contacted, hashed, is_peer}
use Rattle.hn_rules.proofs.Names.{Neighbour, Port, is_port, port_at, put_port, endpoints_of}
use Rattle.hn_rules.proofs.Names.{State, IsDueAtPort, IsPeerEnd, IsRouter, at_moment, IsExpired}
use Rattle.hn_own.specs.Ports.{heard_at}
use Rattle.hn_timers.specs.KeepAlive.{expires_at}
use Rattle.hn_timers.specs.Laws.{ExpiryIsAMoment}
use Rattle.hn_rules.specs.declared.arrival.passing.Passing.{Passing}
use Rattle.hn_rules.specs.Due.{IsUndueUntil}
use Rattle.hn_rules.specs.Laws.{UndueIsIdle, IdleIsUndue, IdleWhileUndue, PassingKeepsUndue}
use Rattle.hn_rules.specs.Passing.{after_passing}
use Rattle.hn_rules.specs.Router.{IsPortPast}
use Rattle.hn_rules.specs.Undue.{IsRouterUndue}
use Rattle.hn_rules.proofs.AssignRuns.{run_ports}
use Rattle.hn_rules.proofs.Endpoints.{put_endpoints}
use Rattle.hn_rules.proofs.MovedPorts.{put_from}

-- ---- the peers of the endpoint

-- a peer that was heard then
abbrev renewed : ℕ → Neighbour → Neighbour
renewed now peer = record peer { contact = now }

record IsRenewed (now : ℕ) (peers : List Neighbour) (peer : Neighbour) : Type 0 where
  pub was : Neighbour
  pub there : Contains peers was
  pub is : peer ≡ renewed now was

was_or_renewed : (now : ℕ) (peers : List Neighbour) (was : Neighbour) (b : Bool) (peer : Neighbour) → Contains peers was → cond b (renewed now was) was ≡ peer
    → Contains peers peer ⊎ IsRenewed now peers peer
was_or_renewed now peers was true peer there is = inr (record { was = was; there = there; is = sym is })
was_or_renewed now peers was false peer there is = inl (subst (Contains peers) is there)

-- each is as before, or its contact is renewed
from_contacted : (sender : NodeId × EpId) (now : ℕ) (peers : List Neighbour) (peer : Neighbour) → Contains (contacted (Some sender) now peers) peer
    → Contains peers peer ⊎ IsRenewed now peers peer
from_contacted sender now peers peer there =
    let found = Contains-from_map (λ (p : Neighbour). cond (is_peer sender.0 sender.1 p) (renewed now p) p) peers peer there in
    was_or_renewed now peers found.0 (is_peer sender.0 sender.1 found.0) peer found.1 found.2

-- ---- the endpoints

-- an endpoint after it heard the local network state hash
record HasHeard (now : ℕ) (ports : List Port) (port : Port) : Type 0 where
  pub sender : NodeId × EpId
  pub was : Port
  pub there : Contains ports was
  pub is : port ≡ hashed true (Some sender) now was

abbrev ports_after : EpId → Option (NodeId × EpId) → ℕ → List Port → List Port
ports_after at heard now ports = option_map_or (λ sender. heard_at at sender now ports) heard ports

-- each is as before, or has heard it
from_after : (at : EpId) (heard : Option (NodeId × EpId)) (now : ℕ) (ports : List Port) (port : Port) → Contains (ports_after at heard now ports) port
    → Contains ports port ⊎ HasHeard now ports port
from_after at None now ports port there = inl there
from_after at (Some sender) now ports port there = by_port (port_at at ports) refl there
  where
    by_port : (o : Option Port) → port_at at ports ≡ o → Contains (option_map_or (λ (p : Port). put_port (hashed true (Some sender) now p) ports) o ports) port
        → Contains ports port ⊎ HasHeard now ports port
    by_port None found there = inl there
    by_port (Some was) found there = elim (put_from (hashed true (Some sender) now was) ports port there) [
      | inl is ↦ inr (record { sender = sender; was = was; there = (found_passes (is_port at) ports was found).0; is = is })
      | inr old ↦ inl old
    ]

-- and their numbers are the same
same_ends : (at : EpId) (heard : Option (NodeId × EpId)) (now : ℕ) (ports : List Port) → endpoints_of (ports_after at heard now ports) ≡ endpoints_of ports
same_ends at None now ports = refl
same_ends at (Some sender) now ports = by_port (port_at at ports)
  where
    by_port : (o : Option Port) → endpoints_of (option_map_or (λ (p : Port). put_port (hashed true (Some sender) now p) ports) o ports) ≡ endpoints_of ports
    by_port None = refl
    by_port (Some was) = put_endpoints (hashed true (Some sender) now was) ports

-- ---- the router

-- a renewed contact has not expired, and expires later than the one before
not_expired : (s : State) (now : ℕ) (was : Neighbour) → ¬ (IsExpired (at_moment now s) (renewed now was))
not_expired s now was (interval, promised, is) =
    let parts = and_parts (nat_lt 0 interval) (nat_le (21 * interval) (10 * (now - now))) is in
    let some : 0 < interval = ltb-true 0 interval parts.0 in
    let long : 21 * interval ≤ 10 * (now - now) = leb-true (21 * interval) (10 * (now - now)) parts.1 in
    omega (arith, some, long)

expires_later : (contact now interval : ℕ) → contact ≤ now → expires_at contact interval ≤ expires_at now interval
expires_later contact now interval past = omega (arith, past)

module _ (expiry : ExpiryIsAMoment) (s : State) (p : Passing) (now until : ℕ) (router : IsRouter s) (begun : s.moment ≤ now) (was : IsRouterUndue now s) where
  abbrev after : State
  after = after_passing p now s

  abbrev AreUnexpired : Port → Type 0
  AreUnexpired port = All (λ (peer : Neighbour). ¬ (IsExpired (at_moment now s) peer)) port.peers

  unexpired_at : (port : Port) → Contains s.ports port → AreUnexpired port
  unexpired_at port there = All-contains AreUnexpired s.ports port was.heard there

  unexpired_heard : (port : Port) → HasHeard now s.ports port → AreUnexpired port
  unexpired_heard port heard =
      let P = λ (peer : Neighbour). ¬ (IsExpired (at_moment now s) peer) in
      subst AreUnexpired (sym heard.is)
      (all_of P (contacted (Some heard.sender) now heard.was.peers)
      (λ peer there. elim (from_contacted heard.sender now heard.was.peers peer there) [
        | inl old ↦ All-contains P heard.was.peers peer (unexpired_at heard.was heard.there) old
        | inr new ↦ subst P (sym new.is) (not_expired s now new.was)
      ]))

  undue_heard : (port : Port) → HasHeard now s.ports port → IsPortUndue now port
  undue_heard port heard =
      let undue = All-contains (IsPortUndue now) s.ports heard.was was.ports heard.there in
      subst (IsPortUndue now) (sym heard.is) (record { interval = record { waits = undue.interval.waits; lasts = undue.interval.lasts }; recent = undue.recent })

  -- each part of a tick leaves the router as it is
  undue_after : IsRouterUndue now after
  undue_after = record {
    heard = all_of AreUnexpired after.ports (λ port there. elim (from_after p.endpoint p.heard now s.ports port there) [
      | inl old ↦ unexpired_at port old
      | inr heard ↦ unexpired_heard port heard
    ]);
    lasting = was.lasting;
    young = was.young;
    reached = record { ascending = was.reached.ascending; exactly = was.reached.exactly };
    kept = was.kept;
    rests = run_ports (at_moment now s) after.ports 0 (record { held = s.held; words = [] }) (same_ends p.endpoint p.heard now s.ports) was.rests;
    ports = all_of (IsPortUndue now) after.ports (λ port there. elim (from_after p.endpoint p.heard now s.ports port there) [
      | inl old ↦ All-contains (IsPortUndue now) s.ports port was.ports old
      | inr heard ↦ undue_heard port heard
    ]);
  }

  -- ---- what is due

  module _ (undue : IsUndueUntil until (at_moment now s)) where
    renewed_due : (port : Port) (peer : Neighbour) (m : ℕ) → Contains s.ports port → Contains port.peers peer → IsPeerEnd s.table.entries (renewed now peer) m → until ≤ m
    renewed_due port peer m attached there end =
        let old = expires_at peer.contact end.interval in
        let past : peer.contact ≤ s.moment =
        All-contains (λ (x : Neighbour). x.contact ≤ s.moment) port.peers peer (All-contains (IsPortPast s.moment) s.ports port router.well.past.ports attached).heard there in
        let later : old ≤ m = subst (λ (n : ℕ). old ≤ n) (sym end.ends.1) (expires_later peer.contact now end.interval (omega (arith, past, begun))) in
        elim (cases_lt now old) [
          | inl before ↦
              let first : until ≤ old = undue old (inl (port, attached, inl (peer, there, record { interval = end.interval; promised = end.promised; ends = (end.ends.0, refl) }))) before in
              omega (arith, first, later)
          | inr expired ↦
              absurd (All-contains (λ (x : Neighbour). ¬ (IsExpired (at_moment now s) x)) port.peers peer (unexpired_at port attached) there
              (end.interval, end.promised, (expiry peer.contact end.interval now end.ends.0).1 expired))
        ]

    heard_due : (port : Port) (m : ℕ) → HasHeard now s.ports port → IsDueAtPort s.table.entries port m → now < m → until ≤ m
    heard_due port m heard due later = by (subst (λ (x : Port). IsDueAtPort s.table.entries x m) heard.is due)
      where
        by : IsDueAtPort s.table.entries (hashed true (Some heard.sender) now heard.was) m → until ≤ m
        by (inl (peer, there, end)) = elim (from_contacted heard.sender now heard.was.peers peer there) [
          | inl old ↦ undue m (inl (heard.was, heard.there, inl (peer, old, end))) later
          | inr new ↦ renewed_due heard.was new.was m heard.there new.there (subst (λ (x : Neighbour). IsPeerEnd s.table.entries x m) new.is end)
        ]
        by (inr timers) = undue m (inl (heard.was, heard.there, inr timers)) later

    -- it is not sooner than it was
    due_after : IsUndueUntil until after
    due_after m (inl (port, there, due)) later = elim (from_after p.endpoint p.heard now s.ports port there) [
      | inl old ↦ undue m (inl (port, old, due)) later
      | inr heard ↦ heard_due port m heard due later
    ]
    due_after m (inr rest) later = undue m (inr rest) later

pub passing_keeps : IdleWhileUndue → IdleIsUndue → UndueIsIdle → ExpiryIsAMoment → PassingKeepsUndue
passing_keeps while is_undue is_idle expiry s p now until router stays begun before idle undue =
    let (still_idle, still_undue) = while s now until router begun before idle undue in
    let was = is_undue s now router begun still_idle in (
      is_idle (after_passing p now s) now stays (omega arith) (undue_after expiry s p now until router begun was),
      due_after expiry s p now until router begun was still_undue,
    )
