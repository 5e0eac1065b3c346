-- The copies that a tick makes are current, and copies stay so.
use Rattle.hn_base.proofs.Names.{◌≡◌, ◌≢◌, ◌∙◌, ◌<◌, ◌^◌, ℕ, true, Option, Some, slice_get, refl, sym, ap, subst, arith, ◌==◌, and_from, eq-eqb, All-contains, same_Some, slice_get_within, IsLinkLocal}
use Rattle.hn_audit.proofs.Names.{IsTrue, Contains-from_map, contains_at, Addr, EpId, NodeId, peer_link, HasPeer, Port, PlainData, ArePorts, endpoints_of, Outgoing, State, HashIsOfLeaves}
use Rattle.hn_audit.proofs.Names.{IsStatusUpdate, IsStatusSend, MailCopy, Member, Parts, copy_for, IsReplayed, IsCurrent, runs_as, IsRunning, IsOfOne, IsReached, IsOnLink, AreOnOneLink, AreLinkedByRules}
use Rattle.std.proofs.Common.{is_none}
use Rattle.hn_audit.proofs.BridgeSets.{IsKnown}
use Rattle.hn_audit.proofs.CopiesOnLinks.{IsCopyOf, one_endpoint, one_place}
use Rattle.hn_audit.proofs.FewRouters.{few_routers, near}
use Rattle.hn_audit.proofs.OneHash.{one_hash}

-- ---- a copy stays current

-- while its router keeps its identifier, its node data and its network state hash
pub stays_current : (mail : MailCopy) (s n : State) → n.id ≡ s.id → n.own ≡ s.own → n.net ≡ s.net → IsCurrent mail s → IsCurrent mail n
stays_current mail s n id own net is = record {
  multicast = is.multicast;
  near = is.near;
  node = is.node;
  endpoint = is.endpoint;
  update = subst (IsStatusUpdate mail.bytes is.node is.endpoint) (sym net) is.update;
  peer = subst (λ (d : PlainData). HasPeer d.body (peer_link is.node.0 is.endpoint.0 mail.to.endpoint.0)) (sym own) is.peer;
  other = λ same. is.other (same ∙ ap (λ (i : NodeId). i.0) id);
  numbered = is.numbered;
}

-- ---- a copy of what one of the set sent is current

-- Where a router settled, its copy of a status update that the router of a place sends goes to one of the set of r.
module _ (w : Parts) (replayed : IsReplayed w) (r : Member) (known : IsKnown w r) (law : HashIsOfLeaves) (place : ℕ) (m : Member) (there : slice_get w.members place ≡ Some m)
    (running : IsTrue m.running)
    (send : Outgoing) (mail : MailCopy) (copy : IsCopyOf w.members place m send mail) where
  abbrev y : Member
  y = copy.receiver

  sends_runs : IsRunning w m
  sends_runs = record { there = contains_at w.members place m there; running = running }

  on_one : AreOnOneLink m send.endpoint y mail.to.endpoint
  on_one = record { link = copy.link; one = copy.sender_on; other = copy.receiver_on }

  module _ (reached : IsReached w r y) where
    -- so the sender is of the set
    pub sender_reached : IsReached w r m
    sender_reached = known.settled.no_strangers m y send.endpoint mail.to.endpoint sends_runs reached on_one

    module _ (status : IsStatusSend m.router.id m.router.net (endpoints_of m.router.ports) send) where
      -- and another router
      other_place : mail.to.place ≢ place
      other_place same =
          let member : y ≡ m = same_Some y m (sym copy.is ∙ ap (slice_get w.members) same ∙ there) in
          let attached = known.attached m sends_runs.there in
          copy.apart same
          (one_endpoint m send.endpoint mail.to.endpoint copy.link attached copy.sender_on (subst (λ (x : Member). IsOnLink copy.link x mail.to.endpoint) member copy.receiver_on)) status.multicast

      other_id : m.router.id.0 ≢ y.router.id.0
      other_id same =
          let once : IsOfOne w m.router.id = All-contains (IsOfOne w) r.router.reach m.router.id known.settled.known sender_reached.reached in
          let m_runs : runs_as m.router.id m ≡ true = and_from m.running (m.router.id.0 == m.router.id.0) running (eq-eqb m.router.id.0 m.router.id.0 refl) in
          let y_runs : runs_as m.router.id y ≡ true = and_from y.running (y.router.id.0 == m.router.id.0) reached.runs.running (eq-eqb y.router.id.0 m.router.id.0 (sym same)) in
          other_place (one_place (runs_as m.router.id) w.members mail.to.place place y m once copy.is y_runs there m_runs)

      numbers : (0 < send.endpoint.0) × (send.endpoint.0 < 2 ^ 32)
      numbers =
          let ports : ArePorts m.router.ports = (known.routers m sends_runs.there).well.ports in
          let from = Contains-from_map (λ (p : Port). p.id) m.router.ports send.endpoint status.attached in
          let number = All-contains (λ (p : Port). (0 < p.id.0) × (p.id.0 < 2 ^ 32)) m.router.ports from.0 ports.numbered from.1 in
          subst (λ (e : EpId). (0 < e.0) × (e.0 < 2 ^ 32)) from.2 number

      linked : AreLinkedByRules m.router send.endpoint y.router mail.to.endpoint
      linked = (known.settled.linked m y send.endpoint mail.to.endpoint sender_reached reached (λ same. other_id (ap (λ (i : NodeId). i.0) same.0))).1 on_one

      same_hash : m.router.net ≡ y.router.net
      same_hash = one_hash w r known law m y sender_reached reached

      abbrev made : MailCopy
      made = copy_for (record { place = place; endpoint = send.endpoint }) send.to send.bytes mail.to

      is_near : IsLinkLocal made.from.ip
      is_near =
          let within = slice_get_within w.members place m there in
          let few = few_routers w replayed in
          near (record { place = place; endpoint = send.endpoint }) (omega (arith, within, few)) numbers.1

      pub is_current : IsCurrent mail y.router
      is_current =
          let some = numbers.0 in
          subst (λ (c : MailCopy). IsCurrent c y.router) (sym copy.copy) (record {
            multicast = ap (λ (o : Option Addr). is_none o) status.multicast;
            near = is_near;
            node = m.router.id;
            endpoint = send.endpoint;
            update = subst (IsStatusUpdate send.bytes m.router.id send.endpoint) same_hash status.update;
            peer = linked.back;
            other = other_id;
            numbered = λ none. omega (arith, some, none);
          })
