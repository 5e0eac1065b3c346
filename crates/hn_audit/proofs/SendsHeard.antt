-- What was sent is heard, where nothing is lost.
use Rattle.hn_base.proofs.Names.{◌≡◌, ◌≢◌, ◌∙◌, ◌⊎◌, ◌+◌, ℕ, zero, suc, Bool, true, false, cond, not, List, [], ◌∷◌, ◌++◌, filter, Option, Some, None, Contains, slice_get, inl, inr, refl, sym, ap}
use Rattle.hn_base.proofs.Names.{subst, arith, ◌==◌, ◌&&◌, option_map_or, eq-eqb, ne_eqb, eqb-true, and_from, Contains-append_left, Contains-append_right, same_Some, slice_get-get_or}
use Rattle.hn_audit.proofs.Names.{IsTrue, Contains-map, Contains-from_map, found_passes, in_filter, same_id, same_node, Addr, EpId, NodeId, ListIsUnique, PlainItem, ItemIsUnique, contacted, hashed}
use Rattle.hn_audit.proofs.Names.{is_peer, Neighbour, Port, is_port, port_at, put_port, endpoints_of, Outgoing, State, IsStatusUpdate, MailCopy, Target, Member, on_link_at, on_link, gets, copy_for}
use Rattle.hn_audit.proofs.Names.{copies_on, copies_of_send, copies_of, is_on, IsOnLink}
use Rattle.std.specs.Prelude.{is_some}
use Rattle.hn_tlv.specs.Grammar.{PlainTlv}
use Rattle.hn_typed.specs.Item as item
use Rattle.hn_typed.specs.Table.{IsItem}
use Rattle.hn_world.specs.Mail.{is_same}
use Rattle.hn_audit.proofs.ElementsOfLists.{in_flat_map}
use Rattle.hn_audit.proofs.HeardOnwards.{put_apart}

-- ---- one reading of a status update

update_named : (a b c a' b' c' : ℕ) (w w' : List ℕ) → item.NodeEndpoint a b w ≡ item.NodeEndpoint a' b' w' → (a ≡ a') × (b ≡ b')
update_named a b c a' b' c' w w' same = (node same, endpoint same)
  where
    node_of : PlainItem → ℕ
    node_of (item.NodeEndpoint n e s) = n
    node_of _ = 0

    endpoint_of : PlainItem → ℕ
    endpoint_of (item.NodeEndpoint n e s) = e
    endpoint_of _ = 0

    node : item.NodeEndpoint a b w ≡ item.NodeEndpoint a' b' w' → a ≡ a'
    node e = ap node_of e

    endpoint : item.NodeEndpoint a b w ≡ item.NodeEndpoint a' b' w' → b ≡ b'
    endpoint e = ap endpoint_of e

first_same : (a b c d : PlainTlv) → a ∷ b ∷ [] ≡ c ∷ d ∷ [] → a ≡ c
first_same a b c d same = cc

pub one_sender : ListIsUnique → ItemIsUnique → (bytes : List ℕ) (n m : NodeId) (e f : EpId) (h k : List ℕ) → IsStatusUpdate bytes n e h → IsStatusUpdate bytes m f k → (n ≡ m) × (e ≡ f)
one_sender lists items bytes n m e f h k one other =
    let tlv : one.first ≡ other.first = first_same one.first one.second other.first other.second (lists (one.first ∷ one.second ∷ []) (other.first ∷ other.second ∷ []) bytes one.list other.list) in
    let there : IsItem other.first (item.NodeEndpoint n.0 e.0 one.within_first) = subst (λ (t : PlainTlv). IsItem t (item.NodeEndpoint n.0 e.0 one.within_first)) tlv one.sender in
    let both = update_named n.0 e.0 0 m.0 f.0 0 one.within_first other.within_first (items other.first _ _ there other.sender) in
    (same_node n m both.0, same_id e f both.1)

-- ---- a copy for each endpoint on the link

on_link_there : (link first place : ℕ) (members : List Member) (k : ℕ) (y : Member) (f : EpId) → place ≡ first + k → slice_get members k ≡ Some y → Contains (endpoints_of y.router.ports) f
    → IsOnLink link y f → Contains (on_link link first members) (record { place = place; endpoint = f })
on_link_there link first place [] k y f is at ends on = absurd cc
on_link_there link first place (m ∷ members) zero y f is at ends on =
    let here : first ≡ place = omega (arith, is) in
    let same : m ≡ y = same_Some m y at in
    let passes : is_on link m f ≡ true = subst (λ (x : Member). is_on link x f ≡ true) (sym same) (ap (λ (o : Option ℕ). option_map_or (λ l. l == link) o false) on ∙ eq-eqb link link refl) in
    let mine : Contains (endpoints_of m.router.ports) f = subst (λ (x : Member). Contains (endpoints_of x.router.ports) f) (sym same) ends in
    let target : EpId → Target = λ e. record { place = first; endpoint = e } in
    let among : Contains (on_link_at link first m) (target f) =
    Contains-map target (filter (is_on link m) (endpoints_of m.router.ports)) f (in_filter (is_on link m) (endpoints_of m.router.ports) f mine passes) in
    subst (λ (n : ℕ). Contains (on_link link first (m ∷ members)) (record { place = n; endpoint = f })) here
    (Contains-append_left (on_link_at link first m) (on_link link (suc first) members) (target f) among)
on_link_there link first place (m ∷ members) (suc k) y f is at ends on =
    Contains-append_right (on_link_at link first m) (on_link link (suc first) members) (record { place = place; endpoint = f })
    (on_link_there link (suc first) place members k y f (omega (arith, is)) at ends on)

-- the copy of a multicast
abbrev pub made : ℕ → Outgoing → Target → MailCopy
made place send to = copy_for (record { place = place; endpoint = send.endpoint }) send.to send.bytes to

pub copy_made : (members : List Member) (place : ℕ) (m : Member) (sends : List Outgoing) (send : Outgoing) (link j : ℕ) (y : Member) (f : EpId)
    → Contains sends send → send.to ≡ None → IsOnLink link m send.endpoint → j ≢ place → slice_get members j ≡ Some y → Contains (endpoints_of y.router.ports) f → IsOnLink link y f
    → Contains (copies_of members place m sends) (made place send (record { place = j; endpoint = f }))
copy_made members place m sends send link j y f among multicast sender_on apart at ends on =
    let to : Target = record { place = j; endpoint = f } in
    let sender : Target = record { place = place; endpoint = send.endpoint } in
    let there : Contains (on_link link 0 members) to = on_link_there link 0 j members j y f (omega arith) at ends on in
    let differ : is_same sender to ≡ false = ap (λ (b : Bool). b && send.endpoint.0 == f.0) (ne_eqb place j (λ same. apart (sym same))) in
    let gotten : gets sender send.to to ≡ true = ap (λ (o : Option Addr). gets sender o to) multicast ∙ ap not differ in
    let passes : Contains (filter (gets sender send.to) (on_link link 0 members)) to = in_filter (gets sender send.to) (on_link link 0 members) to there gotten in
    let one : Contains (copies_on members sender send (Some link)) (made place send to) =
    Contains-map (copy_for sender send.to send.bytes) (filter (gets sender send.to) (on_link link 0 members)) to passes in
    let mine : Contains (copies_of_send members place m send) (made place send to) = subst (λ (o : Option ℕ). Contains (copies_on members sender send o) (made place send to)) (sym sender_on) one in
    in_flat_map (copies_of_send members place m) sends send (made place send to) among mine

-- ---- elements at places

pub front_stays : {A : Type 0} (xs ys : List A) (k : ℕ) (z : A) → slice_get xs k ≡ Some z → slice_get (xs ++ ys) k ≡ Some z
front_stays [] ys k z at = absurd cc
front_stays (x ∷ xs) ys zero z at = at
front_stays (x ∷ xs) ys (suc k) z at = front_stays xs ys k z at

behind : {A : Type 0} (xs ys : List A) (k : ℕ) (z : A) → slice_get ys k ≡ Some z → (n : ℕ) × (slice_get (xs ++ ys) n ≡ Some z)
behind [] ys k z at = (k, at)
behind (x ∷ xs) ys k z at = let (n, is) = behind xs ys k z at in (suc n, is)

-- one of the further elements has a place
pub new_place : {A : Type 0} (xs ys : List A) (z : A) → Contains ys z → (n : ℕ) × (slice_get (xs ++ ys) n ≡ Some z)
new_place xs ys z (k, within, is) = behind xs ys k z (slice_get-get_or ys k z within ∙ ap Some is)

-- ---- the ports of a router that let an update pass

-- an endpoint was there, and last sent when it did before
pub record IsSamePort (s : State) (p : Port) : Type 0 where
  pub was : Port
  pub there : Contains s.ports was
  pub id : p.id ≡ was.id
  pub sent : p.sent ≡ was.sent

-- A peer of an endpoint was there. Its contact is that moment, or the same, and then it is not the sender that was heard.
pub record IsPeerAfter (now : ℕ) (at : EpId) (sender : NodeId × EpId) (s : State) (q : Port) (peer : Neighbour) : Type 0 where
  pub was : Port
  pub there : Contains s.ports was
  pub id : q.id ≡ was.id
  pub old : Neighbour
  pub met : Contains was.peers old
  pub node : peer.node ≡ old.node
  pub endpoint : peer.endpoint ≡ old.endpoint
  pub contact : (peer.contact ≡ now) ⊎ ((peer.contact ≡ old.contact) × (q.id ≡ at → peer.node ≡ sender.0 → peer.endpoint ≡ sender.1 → ⊥))

not_him : (sender : NodeId × EpId) (old : Neighbour) → is_peer sender.0 sender.1 old ≡ false → old.node ≡ sender.0 → old.endpoint ≡ sender.1 → ⊥
not_him sender old test node endpoint =
    let is : is_peer sender.0 sender.1 old ≡ true =
    and_from (old.node.0 == (sender.0).0) (old.endpoint.0 == (sender.1).0) (eq-eqb old.node.0 (sender.0).0 (ap (λ (n : NodeId). n.0) node))
    (eq-eqb old.endpoint.0 (sender.1).0 (ap (λ (e : EpId). e.0) endpoint)) in
    cc

module _ (now : ℕ) (s : State) (at : EpId) (sender : NodeId × EpId) where
  abbrev pub ports_by : Option Port → List Port
  ports_by o = option_map_or (λ port. put_port (hashed true (Some sender) now port) s.ports) o s.ports

  pub same_port : (o : Option Port) → port_at at s.ports ≡ o → (p : Port) → Contains (ports_by o) p → IsSamePort s p
  same_port None none p there = record { was = p; there = there; id = refl; sent = refl }
  same_port (Some port) found p there = elim (put_apart (hashed true (Some sender) now port) s.ports p there) [
    | inl is ↦ record {
      was = port;
      there = (found_passes (is_port at) s.ports port found).0;
      id = ap (λ (x : Port). x.id) is;
      sent = ap (λ (x : Port). x.sent) is;
    }
    | inr old ↦ record { was = p; there = old.0; id = refl; sent = refl }
  ]

  pub peer_after : (o : Option Port) → port_at at s.ports ≡ o → IsTrue (is_some o) → (q : Port) (peer : Neighbour) → Contains (ports_by o) q → Contains q.peers peer
      → IsPeerAfter now at sender s q peer
  peer_after None none attached q peer there met = absurd cc
  peer_after (Some port) found attached q peer there met = elim (put_apart (hashed true (Some sender) now port) s.ports q there) [
    | inl is ↦
        let passed_port = found_passes (is_port at) s.ports port found in
        let among : Contains (contacted (Some sender) now port.peers) peer = subst (λ (x : Port). Contains x.peers peer) is met in
        let change : Neighbour → Neighbour = λ old. cond (is_peer sender.0 sender.1 old) (record old { contact = now }) old in
        let from = Contains-from_map change port.peers peer among in
        let said = by from.0 (is_peer sender.0 sender.1 from.0) refl from.2 in
        record {
          was = port;
          there = passed_port.0;
          id = ap (λ (x : Port). x.id) is;
          old = from.0;
          met = from.1;
          node = said.0;
          endpoint = said.1;
          contact = said.2;
        }
    | inr old ↦ record {
      was = q;
      there = old.0;
      id = refl;
      old = peer;
      met = met;
      node = refl;
      endpoint = refl;
      contact = inr (refl, λ here _ _. old.1 (ap (λ (e : EpId). e.0) here ∙ sym (eqb-true port.id.0 at.0 (found_passes (is_port at) s.ports port found).1)));
    }
  ]
    where
      by : (old : Neighbour) (b : Bool) → is_peer sender.0 sender.1 old ≡ b → cond b (record old { contact = now }) old ≡ peer
          → (peer.node ≡ old.node) × (peer.endpoint ≡ old.endpoint) × ((peer.contact ≡ now) ⊎ ((peer.contact ≡ old.contact) × (q.id ≡ at → peer.node ≡ sender.0 → peer.endpoint ≡ sender.1 → ⊥)))
      by old true test is = (ap (λ (x : Neighbour). x.node) (sym is), ap (λ (x : Neighbour). x.endpoint) (sym is), inl (ap (λ (x : Neighbour). x.contact) (sym is)))
      by old false test is = (
        ap (λ (x : Neighbour). x.node) (sym is),
        ap (λ (x : Neighbour). x.endpoint) (sym is),
        inr (ap (λ (x : Neighbour). x.contact) (sym is), λ here node endpoint. not_him sender old test (ap (λ (x : Neighbour). x.node) is ∙ node) (ap (λ (x : Neighbour). x.endpoint) is ∙ endpoint)),
      )
