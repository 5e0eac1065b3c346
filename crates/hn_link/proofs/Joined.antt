-- The endpoints that are linked with an own endpoint, peer by peer.
use Rattle.hn_base.proofs.Names.{◌≡◌, ◌⊎◌, ◌↔◌, ℕ, ◌+◌, ◌≤◌, List, [], ◌∷◌, ◌++◌, length, Some, refl, sym, ◌∙◌, ap, subst, inl, inr, ⊎_elim, slice_get, Contains, Option, None, IfSome, IsTrue, is_some}
use Rattle.hn_base.proofs.Names.{IsStrictlySortedBy, nat_cmp, Contains-push, Contains-push_cases, Contains-append_left, slice_get_read}
use Rattle.hn_link.proofs.Names.{IfNone, NodeId, EpId, nothing_in, Contains-head, Contains-cases, IsOfFirst, first_further, first_last, first_cases, first_of_all, one_element, contains_at, IsPeerAt}
use Rattle.hn_link.proofs.Names.{IsLinked, HasPeer, peer_link, PlainView, ids_of, PeerLink, Entry, IsLinkedWithOwn, IsOnCommonLink, IsJoined}
use Rattle.hn_base.proofs.AmongFirst.{none_of_first}
use Rattle.hn_link.specs.CommonLink.{IsOwnEndpoint}

-- one of the first n peers is joined, and this is its endpoint
abbrev pub IsJoinedAs : List Entry → Entry → ℕ → NodeId × EpId → PeerLink → Type 0
IsJoinedAs nodes own e at link = IsJoined nodes own e link × ((link.peer, link.peer_endpoint) ≡ at)

abbrev pub IsJoinedBefore : List Entry → Entry → ℕ → List PeerLink → ℕ → NodeId × EpId → Type 0
IsJoinedBefore nodes own e links n at = IsOfFirst (λ _ link. IsJoinedAs nodes own e at link) links n

-- a list has the own endpoint, and the endpoints of the first n peers that are joined
abbrev pub AreJoined : List Entry → Entry → ℕ → List PeerLink → ℕ → NodeId × EpId → List (NodeId × EpId) → Type 0
AreJoined nodes own e links n first endpoints = (at : NodeId × EpId) → Contains endpoints at ↔ ((first ≡ at) ⊎ IsJoinedBefore nodes own e links n at)

pub none_joined : (nodes : List Entry) (own : Entry) (e : ℕ) (links : List PeerLink) (first : NodeId × EpId) → AreJoined nodes own e links 0 first (first ∷ [])
none_joined nodes own e links first at = (
  λ h. ⊎_elim (λ (is : first ≡ at). inl is) (λ (rest : Contains {X = NodeId × EpId} [] at). absurd (nothing_in at rest)) (Contains-cases first [] at h),
  λ h. ⊎_elim (λ (is : first ≡ at). subst (Contains (first ∷ [])) is (Contains-head first []))
      (λ (j : IsJoinedBefore nodes own e links 0 at). absurd (none_of_first (λ _ link. IsJoinedAs nodes own e at link) links j)) h,
)

-- the next peer is joined
pub joined_more : (nodes : List Entry) (own : Entry) (e : ℕ) (links : List PeerLink) (n : ℕ) (link : PeerLink) (first : NodeId × EpId) (endpoints : List (NodeId × EpId))
    → AreJoined nodes own e links n first endpoints → slice_get links n ≡ Some link → IsJoined nodes own e link
    → AreJoined nodes own e links (n + 1) first (endpoints ++ (link.peer, link.peer_endpoint) ∷ [])
joined_more nodes own e links n link first endpoints were stands joined at =
    let new : NodeId × EpId = (link.peer, link.peer_endpoint) in (
      λ h. ⊎_elim (λ (old : Contains endpoints at). ⊎_elim (λ (is : first ≡ at). inl is)
          (λ (j : IsJoinedBefore nodes own e links n at). inr (first_further (λ _ l. IsJoinedAs nodes own e at l) links n j)) ((were at).0 old))
          (λ (is : new ≡ at). inr (first_last (λ _ l. IsJoinedAs nodes own e at l) links n link stands (joined, is)))
          (Contains-push_cases endpoints new at h),
      λ h. ⊎_elim (λ (is : first ≡ at). Contains-append_left endpoints (new ∷ []) at ((were at).1 (inl is)))
          (λ (j : IsJoinedBefore nodes own e links (n + 1) at). ⊎_elim (λ (old : IsJoinedBefore nodes own e links n at). Contains-append_left endpoints (new ∷ []) at ((were at).1 (inr old)))
          (λ (last : IsJoinedAs nodes own e at link). subst (Contains (endpoints ++ new ∷ [])) last.1 (Contains-push endpoints new))
          (first_cases (λ _ l. IsJoinedAs nodes own e at l) links n link stands j)) h,
    )

-- the next peer is not joined
pub joined_same : (nodes : List Entry) (own : Entry) (e : ℕ) (links : List PeerLink) (n : ℕ) (link : PeerLink) (first : NodeId × EpId) (endpoints : List (NodeId × EpId))
    → AreJoined nodes own e links n first endpoints → slice_get links n ≡ Some link → ¬ (IsJoined nodes own e link) → AreJoined nodes own e links (n + 1) first endpoints
joined_same nodes own e links n link first endpoints were stands apart at = (
  λ h. ⊎_elim (λ (is : first ≡ at). inl is) (λ (j : IsJoinedBefore nodes own e links n at). inr (first_further (λ _ l. IsJoinedAs nodes own e at l) links n j)) ((were at).0 h),
  λ h. ⊎_elim (λ (is : first ≡ at). (were at).1 (inl is))
      (λ (j : IsJoinedBefore nodes own e links (n + 1) at). ⊎_elim (λ (old : IsJoinedBefore nodes own e links n at). (were at).1 (inr old))
      (λ (last : IsJoinedAs nodes own e at link). absurd (apart last.0))
      (first_cases (λ _ l. IsJoinedAs nodes own e at l) links n link stands j)) h,
)

-- linked endpoints, by equal names
relinked : (a b : List ℕ) (x x' e e' y y' f f' : ℕ) → x ≡ x' → e ≡ e' → y ≡ y' → f ≡ f' → IsLinked a x e b y f → IsLinked a x' e' b y' f'
relinked a b x x' e e' y y' f f' p q r s h = rw (← p, ← q, ← r, ← s) h

joined_then_linked : (view : PlainView) (own : Entry) (place e : ℕ) (links : List PeerLink) (n : ℕ) (at : NodeId × EpId) → slice_get view.nodes place ≡ Some own → own.id.0 ≡ view.own
    → IsJoinedBefore view.nodes own e links n at → IsLinkedWithOwn view e at.0.0 at.1.0
joined_then_linked view own place e links n at there own_is j =
    let link = j.x in
    let led = j.fact.0 in
    let leads = led.leads in
    let node_is : leads.y.id.0 ≡ at.0.0 = leads.is_peer ∙ ap (λ p. p.0.0) j.fact.1 in
    record {
      own = own;
      own_there = contains_at view.nodes place own there;
      own_is = own_is;
      node = leads.y;
      node_there = contains_at view.nodes led.place leads.y leads.at;
      node_is = node_is;
      linked = relinked own.body leads.y.body own.id.0 view.own link.endpoint.0 e leads.y.id.0 at.0.0 link.peer_endpoint.0 at.1.0 own_is led.here node_is (ap (λ p. p.1.0) j.fact.1) leads.linked;
    }

linked_then_joined : (view : PlainView) (own : Entry) (place e : ℕ) (links : List PeerLink) (n : ℕ) (at : NodeId × EpId) → IsStrictlySortedBy nat_cmp (ids_of view.nodes)
    → slice_get view.nodes place ≡ Some own → own.id.0 ≡ view.own → length links ≤ n → ((link : PeerLink) → Contains links link ↔ HasPeer own.body link)
    → IsLinkedWithOwn view e at.0.0 at.1.0 → IsJoinedBefore view.nodes own e links n at
linked_then_joined view own place e links n at up there own_is all are l =
    let one : l.own ≡ own = one_element (λ n. n.id.0) view.nodes up place own l.own there l.own_there (l.own_is ∙ sym own_is) in
    let linked : IsLinked own.body view.own e l.node.body at.0.0 at.1.0 = subst (λ (o : Entry). IsLinked o.body view.own e l.node.body at.0.0 at.1.0) one l.linked in
    let link = peer_link at.0.0 at.1.0 e in
    let listed = (are link).1 linked.there in
    let stands : slice_get links listed.0 ≡ Some link = slice_get_read links (length links) listed.0 link refl listed.1 (sym listed.2) in
    let node_at = l.node_there in
    let leads : IsPeerAt view.nodes own link node_at.0 = record {
      y = l.node;
      at = slice_get_read view.nodes (length view.nodes) node_at.0 l.node refl node_at.1 (sym node_at.2);
      is_peer = l.node_is;
      linked = relinked own.body l.node.body view.own own.id.0 e e at.0.0 l.node.id.0 at.1.0 at.1.0 (sym own_is) refl (sym l.node_is) refl linked;
    } in
    first_of_all (λ _ l. IsJoinedAs view.nodes own e at l) links n listed.0 link all stands (record { here = refl; place = node_at.0; leads = leads }, refl)

-- all peers that the own node says: the list is the Common Link
pub common_from_joined : (view : PlainView) (own : Entry) (place : ℕ) (id : NodeId) (e : EpId) (links : List PeerLink) (n : ℕ) (endpoints : List (NodeId × EpId))
    → IsStrictlySortedBy nat_cmp (ids_of view.nodes)
    → slice_get view.nodes place ≡ Some own → own.id.0 ≡ view.own → id.0 ≡ view.own → length links ≤ n → ((link : PeerLink) → Contains links link ↔ HasPeer own.body link)
    → AreJoined view.nodes own e.0 links n (id, e) endpoints → (at : NodeId × EpId) → Contains endpoints at ↔ IsOnCommonLink view e.0 at
common_from_joined view own place id e links n endpoints up there own_is id_is all are joined at = (
  λ h. ⊎_elim (λ (is : (id, e) ≡ at). inl (record { own = ap (λ p. p.0.0) (sym is) ∙ id_is; endpoint = ap (λ p. p.1.0) (sym is) }))
      (λ (j : IsJoinedBefore view.nodes own e.0 links n at). inr (joined_then_linked view own place e.0 links n at there own_is j))
      ((joined at).0 h),
  λ h. (joined at).1 (⊎_elim
      (λ (is : IsOwnEndpoint view e.0 at.0.0 at.1.0). inl (ap (λ n. (record { 0 = n }, e)) (id_is ∙ sym is.own) ∙ ap (λ f. (at.0, record { 0 = f })) (sym is.endpoint)))
      (λ (l : IsLinkedWithOwn view e.0 at.0.0 at.1.0). inr (linked_then_joined view own place e.0 links n at up there own_is all are l))
      h),
)

-- a peer said for the endpoint is joined where it leads somewhere
pub joined_where_led : (nodes : List Entry) (own : Entry) (e : ℕ) (link : PeerLink) (place : Option ℕ) → link.endpoint.0 ≡ e → IfSome place (λ p. IsPeerAt nodes own link p)
    → IfNone place ((p : ℕ) → ¬ (IsPeerAt nodes own link p)) → IsTrue (is_some place) ↔ IsJoined nodes own e link
joined_where_led nodes own e link None here found absent = (λ t. absurd (cc), λ j. absurd (absent j.place j.leads))
joined_where_led nodes own e link (Some p) here found absent = (λ t. record { here = here; place = p; leads = found }, λ j. refl)
