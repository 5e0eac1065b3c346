-- What a tick sends.
use Rattle.hn_base.proofs.Names.{◌≡◌, ◌∙◌, ◌<◌, ◌^◌, ℕ, lit≤, length-append, List, [], ◌∷◌, ◌++◌, length, map, None, Some, inl, inr, refl, sym, ap, subst, arith, All, append-nil, All-nil, All-cons}
use Rattle.hn_base.proofs.Names.{All-head, All-tail, All-append, All-contains}
use Rattle.hn_rules.proofs.Names.{Contains, Contains-from_map, EpId, NodeId, PlainTlv, IsTlv, IsTlvList, spelling, IsHash, NetworkState, WrittenIsRead, tlv_of, IsWritable, PackingIsRead, IsPacking}
use Rattle.hn_rules.proofs.Names.{AreRead, sender_tlv, Port, port_at, endpoints_of, Outgoing, Running, State, IsStatusUpdate, IsPublishing, IsPortReset, IsHashing, IsRefresh, AtPort, IsPortExpiry}
use Rattle.hn_rules.proofs.Names.{IsExpiry, IsStateSending, IsPortSending, IsPortTick}
use Rattle.hn_typed.specs.Item.{NodeEndpoint}
use Rattle.hn_rules.specs.Updates.{IsStatusSend, TicksSendUpdates}
use Rattle.hn_rules.proofs.AnswerTlvs.{network_tlv}
use Rattle.hn_rules.proofs.AtPorts.{found_id}
use Rattle.hn_rules.proofs.Leads.{Keeps, keeps_each, keeps_each_of, keeps_option}
use Rattle.hn_rules.proofs.Endpoints.{ports_stand}
use Rattle.hn_rules.proofs.PortsOfNothing.{ticks_ports}

-- ---- before the endpoints' turn nothing is sent

module _ (sends : List Outgoing) where
  abbrev Sent : Running → Type 0
  Sent r = r.done.sends ≡ sends

  refresh_sends : Keeps Sent IsRefresh
  refresh_sends r a (published, publishes, (reached, reaches, hashes)) was = by_hash hashes
    where
      by_publishing : IsPublishing r published → Sent published
      by_publishing (inl (same, is)) = ap (λ (x : Running). x.done.sends) is ∙ was
      by_publishing (inr (other, is)) = ap (λ (x : Running). x.done.sends) is.gives ∙ was

      here : Sent reached
      here = ap (λ (x : Running). x.done.sends) reaches.gives ∙ by_publishing publishes

      reset : (port : Port) (x y : Running) → IsPortReset port x y → Sent x → Sent y
      reset port x y (inl (shortest, is)) sent = ap (λ (z : Running). z.done.sends) is ∙ sent
      reset port x y (inr (longer, (word, is))) sent = ap (λ (z : Running). z.done.sends) is ∙ sent

      by_hash : IsHashing reached a → Sent a
      by_hash (inl (same, is)) = ap (λ (x : Running). x.done.sends) is ∙ here
      by_hash (inr (other, resets)) =
          keeps_each Sent (λ at. AtPort at IsPortReset) (λ at. keeps_option Sent at IsPortReset (λ port x y found. reset port x y)) (endpoints_of reached.state.ports) _ a resets here

  expiry_sends : Keeps Sent IsExpiry
  expiry_sends r a holds =
      keeps_each Sent (λ at. AtPort at IsPortExpiry)
      (λ at. keeps_option Sent at IsPortExpiry (λ port x y found is sent. ap (λ (z : Running). z.done.sends) is.gives ∙ sent)) (endpoints_of r.state.ports) r a holds

-- ---- one TLV is packed into one datagram

one_of : {A : Type 0} (x : A) (group rest : List A) → x ∷ [] ≡ group ++ rest → rest ≡ [] → x ∷ [] ≡ group
one_of x group rest is none = is ∙ ap (λ r. group ++ r) none ∙ append-nil group

nothing_left : {A : Type 0} (x : A) (group rest : List A) → x ∷ [] ≡ group ++ rest → 0 < length group → rest ≡ []
nothing_left x [] rest is some = absurd (omega arith)
nothing_left x (y ∷ ys) [] is some = refl
nothing_left x (y ∷ []) (z ∷ zs) is some = absurd cc
nothing_left x (y ∷ (w ∷ ws)) (z ∷ zs) is some = absurd cc

no_more : {A : Type 0} (group rest : List A) → [] ≡ group ++ rest → 0 < length group → ⊥
no_more [] rest is some = omega arith
no_more (x ∷ xs) rest is some = cc

module _ (packing : PackingIsRead) (own : NodeId) (at : EpId) (tlv : PlainTlv) (is : IsTlv tlv) where
  one_datagram : (datagrams : List (List ℕ)) → IsPacking own at (spelling tlv ∷ []) datagrams → All (IsTlvList (sender_tlv own at ∷ tlv ∷ [])) datagrams
  one_datagram [] packed = All-nil _
  one_datagram (d ∷ []) packed =
      let read : AreRead own at (tlv ∷ []) (d ∷ []) = packing own at (tlv ∷ []) (d ∷ []) (All-cons IsTlv tlv [] is (All-nil IsTlv)) packed in
      let group : tlv ∷ [] ≡ read.0 = one_of tlv read.0 read.1 read.2 read.4 in
      All-cons (IsTlvList (sender_tlv own at ∷ tlv ∷ [])) d [] (subst (λ (tlvs : List PlainTlv). IsTlvList (sender_tlv own at ∷ tlvs) d) (sym group) read.3) (All-nil _)
  one_datagram (d ∷ (e ∷ more)) packed =
      let first = packed in
      let none : first.1 ≡ [] = nothing_left (spelling tlv) first.0 first.1 first.2 first.3.not_empty in
      let second = first.4 in
      absurd (no_more second.0 second.1 (sym none ∙ second.2) second.3.not_empty)

-- ---- the endpoints' turn

sender_writable : (id : NodeId) (at : EpId) → id.0 < 2 ^ 32 → at.0 < 2 ^ 32 → IsWritable (NodeEndpoint id.0 at.0 [])
sender_writable id at id_fits at_fits = record { in_range = (id_fits, at_fits); text = tt; other_kind = tt; tlvs_after = ([], refl); short = lit≤ tt }

state_writable : (net : List ℕ) → IsHash net → IsWritable (NetworkState net [])
state_writable net is = record { in_range = is; text = tt; other_kind = tt; tlvs_after = ([], refl); short = let eight = is.0 in simp length-append (omega arith) }

module _ (packing : PackingIsRead) (written : WrittenIsRead) (id : NodeId) (net : List ℕ) (ends : List EpId) (id_fits : id.0 < 2 ^ 32) (hash : IsHash net)
    (ends_fit : (e : EpId) → Contains ends e → e.0 < 2 ^ 32) where
  -- the router is the same, and what was sent so far is of this kind
  record IsSending (r : Running) : Type 0 where
    pub is_id : r.state.id ≡ id
    pub is_net : r.state.net ≡ net
    pub sent : All (IsStatusSend id net ends) r.done.sends

  update : (at : EpId) (bytes : List ℕ) → at.0 < 2 ^ 32 → IsTlvList (sender_tlv id at ∷ tlv_of (NetworkState net []) ∷ []) bytes → IsStatusUpdate bytes id at net
  update at bytes fits list = record {
    first = sender_tlv id at;
    second = tlv_of (NetworkState net []);
    within_first = [];
    within_second = [];
    list = list;
    sender = written (NodeEndpoint id.0 at.0 []) (sender_writable id at id_fits fits);
    state = written (NetworkState net []) (state_writable net hash);
  }

  abbrev outgoing : EpId → List ℕ → Outgoing
  outgoing at bytes = record { endpoint = at; to = None; bytes = bytes }

  sends_are : (at : EpId) → Contains ends at → (datagrams : List (List ℕ)) → All (IsTlvList (sender_tlv id at ∷ tlv_of (NetworkState net []) ∷ [])) datagrams
      → All (IsStatusSend id net ends) (map (outgoing at) datagrams)
  sends_are at there [] all = All-nil (IsStatusSend id net ends)
  sends_are at there (d ∷ ds) all =
      All-cons (IsStatusSend id net ends) (outgoing at d) (map (outgoing at) ds)
      (record { multicast = refl; attached = there; update = update at d (ends_fit at there) (All-head (IsTlvList (sender_tlv id at ∷ tlv_of (NetworkState net []) ∷ [])) d ds all) })
      (sends_are at there ds (All-tail (IsTlvList (sender_tlv id at ∷ tlv_of (NetworkState net []) ∷ [])) d ds all))

  state_sent : (at : EpId) → Contains ends at → (x y : Running) → IsStateSending at x y → IsSending x → IsSending y
  state_sent at there x y sends was =
      let packed : IsPacking id at (spelling (tlv_of (NetworkState net [])) ∷ []) sends.datagrams =
      subst (λ (n : List ℕ). IsPacking id at (spelling (tlv_of (NetworkState n [])) ∷ []) sends.datagrams) was.is_net
      (subst (λ (i : NodeId). IsPacking i at (spelling (tlv_of (NetworkState x.state.net [])) ∷ []) sends.datagrams) was.is_id sends.packed) in
      let lists = one_datagram packing id at (tlv_of (NetworkState net [])) (network_tlv net hash) sends.datagrams packed in
      subst IsSending (sym sends.gives) (record {
        is_id = was.is_id;
        is_net = was.is_net;
        sent = All-append (IsStatusSend id net ends) x.done.sends (map (outgoing at) sends.datagrams) was.sent (sends_are at there sends.datagrams lists);
      })

  port_sent : (at : EpId) → Contains ends at → Keeps IsSending (AtPort at IsPortTick)
  port_sent at there = keeps_option IsSending at IsPortTick one
    where
      one : (port : Port) (x y : Running) → port_at at x.state.ports ≡ Some port → IsPortTick port x y → IsSending x → IsSending y
      one port x y found (moved, moves, sends) was = by_sending sends
        where
          now : IsSending moved
          now = subst IsSending (sym moves.gives) (record { is_id = was.is_id; is_net = was.is_net; sent = was.sent })

          here : Contains ends port.id
          here = subst (Contains ends) (sym (found_id at port x.state.ports (sym found))) there

          by_sending : IsPortSending port moved y → IsSending y
          by_sending (inl (due, sending)) = state_sent port.id here moved y sending now
          by_sending (inr (none, is)) = subst IsSending (sym is) now

-- ---- a tick

pub ticks_send : PackingIsRead → WrittenIsRead → TicksSendUpdates
ticks_send packing written before after hash id_fits are none (lost, (expired, expiry, (ended, ends, refreshed)), (forgot, forgets, (settled, (assigned, assigns, again), ticks))) =
    let first : expired.done.sends ≡ [] = expiry_sends [] before expired expiry none in
    let second : ended.done.sends ≡ [] = ap (λ (x : Running). x.done.sends) ends ∙ first in
    let third : lost.done.sends ≡ [] = refresh_sends [] ended lost refreshed second in
    let fourth : forgot.done.sends ≡ [] = ap (λ (x : Running). x.done.sends) forgets ∙ third in
    let fifth : assigned.done.sends ≡ [] = ap (λ (x : Running). x.done.sends) assigns.gives ∙ fourth in
    let sixth : settled.done.sends ≡ [] = refresh_sends [] assigned settled again fifth in
    let alone = ticks_ports settled after ticks in
    let same_id : after.state.id ≡ settled.state.id = ap (λ (s : State). s.id) alone in
    let same_net : after.state.net ≡ settled.state.net = ap (λ (s : State). s.net) alone in
    let same_ends : endpoints_of after.state.ports ≡ endpoints_of settled.state.ports = (ports_stand settled after ticks).1 in
    let fit : (e : EpId) → Contains (endpoints_of after.state.ports) e → e.0 < 2 ^ 32 = λ e there.
    let from = Contains-from_map (λ (p : Port). p.id) after.state.ports e there in
    let number = All-contains (λ (p : Port). (0 < p.id.0) × (p.id.0 < 2 ^ 32)) after.state.ports from.0 are.numbered from.1 in
    subst (λ (x : EpId). x.0 < 2 ^ 32) from.2 number.1 in
    let P = IsSending packing written after.state.id after.state.net (endpoints_of after.state.ports) id_fits hash fit in
    let start : P settled = record {
      is_id = sym same_id;
      is_net = sym same_net;
      sent = subst (All (IsStatusSend after.state.id after.state.net (endpoints_of after.state.ports))) (sym sixth) (All-nil _);
    } in
    let done : P after =
    keeps_each_of P (λ at. AtPort at IsPortTick) (endpoints_of settled.state.ports)
    (λ at there. port_sent packing written after.state.id after.state.net (endpoints_of after.state.ports) id_fits hash fit at (subst (λ (es : List EpId). Contains es at) (sym same_ends) there))
    settled after ticks start in
    done.sent
