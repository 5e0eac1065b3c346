-- Where the links of a node lead.
use Rattle.hn_base.proofs.Names.{◌≡◌, ◌↔◌, ◌⊎◌, inl, inr, Bool, ℕ, ◌+◌, ◌≤◌, List, [], ◌∷◌, ◌++◌, length, Some, refl, sym, ap, ◌∙◌, subst, ⊎_elim, slice_get, Contains, IsStrictlySortedBy, nat_cmp}
use Rattle.hn_base.proofs.Names.{slice_get_read, Contains-push, Contains-push_cases, Contains-append_left}
use Rattle.hn_graph.proofs.Names.{nothing_in, IsOfFirst, none_of_first, first_further, first_last, first_cases, first_of_all, one_place, one_place_of, part_stands, ids_of, HasPeer, peer_link}
use Rattle.hn_graph.proofs.Names.{PeerLink, Entry, IsPeerAt, IsNext, IsPlaceMarked, IsLeadingOn}

-- one of the first n links leads to the place
abbrev pub IsAcross : List Entry → Entry → List PeerLink → ℕ → ℕ → Type 0
IsAcross nodes x links n place = IsOfFirst (λ _ link. IsPeerAt nodes x link place) links n

-- a list has the places to which one of the first n links leads, but for places that are marked
abbrev pub AreAcross : List Entry → Entry → List PeerLink → List Bool → ℕ → List ℕ → Type 0
AreAcross nodes x links found n places =
    (place : ℕ) → (Contains places place → IsAcross nodes x links n place) × (IsAcross nodes x links n place → IsPlaceMarked found place ⊎ Contains places place)

pub none_across : (nodes : List Entry) (x : Entry) (links : List PeerLink) (found : List Bool) → AreAcross nodes x links found 0 []
none_across nodes x links found place = (λ h. absurd (nothing_in place h), λ across. absurd (none_of_first (λ _ link. IsPeerAt nodes x link place) links across))

-- the next link leads to a place
pub across_more : (nodes : List Entry) (x : Entry) (links : List PeerLink) (found : List Bool) (n : ℕ) (places : List ℕ) (link : PeerLink) (there : ℕ) → IsStrictlySortedBy nat_cmp (ids_of nodes)
    → AreAcross nodes x links found n places → slice_get links n ≡ Some link → IsPeerAt nodes x link there → AreAcross nodes x links found (n + 1) (places ++ there ∷ [])
across_more nodes x links found n places link there up were at leads place = (
  λ h. ⊎_elim (λ (old : Contains places place). first_further (λ _ l. IsPeerAt nodes x l place) links n ((were place).0 old))
      (λ (is : there ≡ place). first_last (λ _ l. IsPeerAt nodes x l place) links n link at (subst (λ (p : ℕ). IsPeerAt nodes x link p) is leads))
      (Contains-push_cases places there place h),
  λ across. ⊎_elim (λ (old : IsAcross nodes x links n place).
      ⊎_elim (λ (marked : IsPlaceMarked found place). inl marked) (λ (in' : Contains places place). inr (Contains-append_left places (there ∷ []) place in')) ((were place).1 old))
      (λ (last : IsPeerAt nodes x link place).
      let same : there ≡ place = one_place_of (λ n. n.id.0) nodes up there place leads.y last.y leads.at last.at (leads.is_peer ∙ sym last.is_peer) in
      inr (subst (λ (p : ℕ). Contains (places ++ there ∷ []) p) same (Contains-push places there)))
      (first_cases (λ _ l. IsPeerAt nodes x l place) links n link at across),
)

-- the next link leads nowhere, or to a place that is marked
pub across_same : (nodes : List Entry) (x : Entry) (links : List PeerLink) (found : List Bool) (n : ℕ) (places : List ℕ) (link : PeerLink)
    → AreAcross nodes x links found n places → slice_get links n ≡ Some link → ((place : ℕ) → IsPeerAt nodes x link place → IsPlaceMarked found place) → AreAcross nodes x links found (n + 1) places
across_same nodes x links found n places link were at marked place = (
  λ h. first_further (λ _ l. IsPeerAt nodes x l place) links n ((were place).0 h),
  λ across. ⊎_elim (λ (old : IsAcross nodes x links n place). (were place).1 old) (λ (last : IsPeerAt nodes x link place). inl (marked place last))
      (first_cases (λ _ l. IsPeerAt nodes x l place) links n link at across),
)

-- all links that the node says
pub next_across : (nodes : List Entry) (x : Entry) (links : List PeerLink) (n : ℕ) (place : ℕ) → length links ≤ n → ((link : PeerLink) → Contains links link ↔ HasPeer x.body link) → IsLeadingOn x
    → IsAcross nodes x links n place ↔ IsNext nodes x place
next_across nodes x links n place all are recent = (
  λ across. let leads = across.fact in record {
    y = leads.y;
    at = leads.at;
    recent = recent;
    adjacent = record { here = across.x.endpoint.0; there = across.x.peer_endpoint.0; linked = leads.linked };
  },
  λ next.
      let near = next.adjacent in
      let link = peer_link next.y.id.0 near.there near.here in
      let listed = (are link).1 near.linked.there in
      let at : slice_get links listed.0 ≡ Some link = slice_get_read links (length links) listed.0 link refl listed.1 (sym listed.2) in
      first_of_all (λ _ l. IsPeerAt nodes x l place) links n listed.0 link all at (record { y = next.y; at = next.at; is_peer = refl; linked = near.linked }),
)

-- a link leads to the node that it names
pub leads_at : (nodes : List Entry) (x : Entry) (link : PeerLink) (place : ℕ) → IsPeerAt nodes x link place → slice_get (ids_of nodes) place ≡ Some link.peer.0
leads_at nodes x link place leads = part_stands (λ (n : Entry). n.id.0) nodes place leads.y leads.at ∙ ap Some leads.is_peer

-- so where that node is marked, it leads to a marked one
pub leads_there : (nodes : List Entry) (x : Entry) (link : PeerLink) (found : List Bool) (there : ℕ) → IsStrictlySortedBy nat_cmp (ids_of nodes)
    → slice_get (ids_of nodes) there ≡ Some link.peer.0 → IsPlaceMarked found there
    → (place : ℕ) → IsPeerAt nodes x link place → IsPlaceMarked found place
leads_there nodes x link found there up is marked place leads =
    subst (IsPlaceMarked found) (one_place (ids_of nodes) up there place link.peer.0 is (leads_at nodes x link place leads)) marked
