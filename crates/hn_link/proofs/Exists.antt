-- Each own endpoint has a Common Link.
use Rattle.hn_base.proofs.Names.{◌≡◌, ◌∙◌, ◌⊎◌, ◌↔◌, ℕ, ◌+◌, ◌≤◌, List, [], ◌∷◌, ◌++◌, Some, length, get_or, slice_get, Contains, refl, sym, ap, subst, inl, inr, suc, zero, arith, filter_map}
use Rattle.hn_base.proofs.Names.{cases_eq, on_total, then_total, nat_cmp_total, slice_get-get_or, slice_get_read, nat_cmp}
use Rattle.hn_link.proofs.Names.{NodeId, EpId, Contains-head, Contains-cases, nothing_in, exact_nat, exact_then, contains_at, IsPeerAt, IsLinked, HasPeer, peer_link, PlainView, PeerLink, Entry}
use Rattle.hn_link.proofs.Names.{IsCommonLink, IsJoined, endpoint_cmp}
use Rattle.hn_base.proofs.AscendingLists.{Contains-tail}
use Rattle.hn_base.proofs.AscendingMade.{ascending_of}
use Rattle.hn_base.proofs.SoOrNot.{Decided, both_decided, one_or_none}
use Rattle.hn_base.proofs.PartsAtPlaces.{part_of}
use Rattle.hn_typed.specs.Item.{PlainItem}
use Rattle.hn_data.specs.Items.{AreItems}
use Rattle.hn_data.specs.Laws.{ItemsAreUnique, ItemsOrNone}
use Rattle.hn_data.specs.Peers.{peer_of}
use Rattle.hn_data.specs.View.{IsNetwork}
use Rattle.hn_link.proofs.Joined.{AreJoined, none_joined, joined_more, joined_same, common_from_joined}

-- ---- what is decided

-- the list has it, or not
among_or_not : {X : Type 0} → ((x y : X) → Decided (x ≡ y)) → (xs : List X) (x : X) → Decided (Contains xs x)
among_or_not {X} same xs x = elim (one_or_none (λ (y : X). y ≡ x) xs (λ y there. same y x)) [
  | inl (y, there, is) ↦ inl (subst (Contains xs) is there)
  | inr none ↦ inr (λ h. none x h refl)
]

links_decided : (x y : PeerLink) → Decided (x ≡ y)
links_decided x y = elim (both_decided (both_decided (cases_eq x.endpoint.0 y.endpoint.0) (cases_eq x.peer.0 y.peer.0)) (cases_eq x.peer_endpoint.0 y.peer_endpoint.0)) [
  | inl (pair, last) ↦ inl
      (ap (λ (n : ℕ). peer_link x.peer.0 x.peer_endpoint.0 n) pair.0
      ∙ ap (λ (n : ℕ). peer_link n x.peer_endpoint.0 y.endpoint.0) pair.1
      ∙ ap (λ (n : ℕ). peer_link y.peer.0 n y.endpoint.0) last)
  | inr other ↦ inr (λ e. other ((ap (λ (l : PeerLink). l.endpoint.0) e, ap (λ (l : PeerLink). l.peer.0) e), ap (λ (l : PeerLink). l.peer_endpoint.0) e))
]

-- ---- the peers that data say

module _ (items_or_none : ItemsOrNone) (items_unique : ItemsAreUnique) where
  said : (bytes : List ℕ) → (links : List PeerLink) × ((link : PeerLink) → Contains links link ↔ HasPeer bytes link)
  said bytes = elim (items_or_none bytes) [
    | inl (items, are) ↦ (
      filter_map peer_of items,
      λ link. (
        λ h. (items, are, h),
        λ h. subst (λ (l : List PlainItem). Contains (filter_map peer_of l) link) (items_unique bytes h.0 items h.1 are) h.2,
      ),
    )
    | inr none ↦ ([], λ link. (λ h. absurd (nothing_in link h), λ h. absurd (none h.0 h.1)))
  ]

  has_peer_or_not : (bytes : List ℕ) (link : PeerLink) → Decided (HasPeer bytes link)
  has_peer_or_not bytes link =
      let links = said bytes in
      elim (among_or_not links_decided links.0 link) [
        | inl there ↦ inl ((links.1 link).0 there)
        | inr other ↦ inr (λ h. other ((links.1 link).1 h))
      ]

  -- ---- endpoints that are linked

  joined_or_not : (nodes : List Entry) (own : Entry) (e : ℕ) (link : PeerLink) → Decided (IsJoined nodes own e link)
  joined_or_not nodes own e link = elim (both_decided (cases_eq link.endpoint.0 e) led) [
    | inl (here, (place, leads)) ↦ inl (record { here = here; place = place; leads = leads })
    | inr none ↦ inr (λ h. none (h.here, (h.place, h.leads)))
  ]
    where
      linked : (y : Entry) → Decided (IsLinked own.body own.id.0 link.endpoint.0 y.body y.id.0 link.peer_endpoint.0)
      linked y = elim (both_decided (has_peer_or_not own.body (peer_link y.id.0 link.peer_endpoint.0 link.endpoint.0))
          (has_peer_or_not y.body (peer_link own.id.0 link.endpoint.0 link.peer_endpoint.0))) [
            | inl (there, back) ↦ inl (record { there = there; back = back })
            | inr none ↦ inr (λ h. none (h.there, h.back))
          ]

      led : Decided ((place : ℕ) × IsPeerAt nodes own link place)
      led = elim (one_or_none (λ (y : Entry). (y.id.0 ≡ link.peer.0) × IsLinked own.body own.id.0 link.endpoint.0 y.body y.id.0 link.peer_endpoint.0) nodes
          (λ y there. both_decided (cases_eq y.id.0 link.peer.0) (linked y))) [
            | inl (y, there, is) ↦ inl (there.0, record { y = y; at = slice_get_read nodes (length nodes) there.0 y refl there.1 (sym there.2); is_peer = is.0; linked = is.1 })
            | inr none ↦ inr (λ h. none h.1.y (contains_at nodes h.0 h.1.y h.1.at) (h.1.is_peer, h.1.linked))
          ]

  joined_first : (nodes : List Entry) (own : Entry) (e : ℕ) (links : List PeerLink) (first : NodeId × EpId) (n : ℕ) → n ≤ length links
      → (endpoints : List (NodeId × EpId)) × AreJoined nodes own e links n first endpoints
  joined_first nodes own e links first zero within = (first ∷ [], none_joined nodes own e links first)
  joined_first nodes own e links first (suc n) within =
      let link = get_or links n (peer_link 0 0 0) in
      let stands = slice_get-get_or links n (peer_link 0 0 0) (omega (arith, within)) in
      let more : n + 1 ≡ suc n = omega arith in
      next link stands more (joined_first nodes own e links first n (omega (arith, within))) (joined_or_not nodes own e link)
    where
      next : (link : PeerLink) → slice_get links n ≡ Some link → n + 1 ≡ suc n → (endpoints : List (NodeId × EpId)) × AreJoined nodes own e links n first endpoints
          → Decided (IsJoined nodes own e link)
          → (endpoints : List (NodeId × EpId)) × AreJoined nodes own e links (suc n) first endpoints
      next link stands more (endpoints, were) (inl joined) = (
        endpoints ++ (link.peer, link.peer_endpoint) ∷ [],
        subst (λ (k : ℕ). AreJoined nodes own e links k first (endpoints ++ (link.peer, link.peer_endpoint) ∷ [])) more (joined_more nodes own e links n link first endpoints were stands joined),
      )
      next link stands more (endpoints, were) (inr apart) = (
        endpoints,
        subst (λ (k : ℕ). AreJoined nodes own e links k first endpoints) more (joined_same nodes own e links n link first endpoints were stands apart),
      )

  pub common_exists : (view : PlainView) (e : ℕ) → IsNetwork view.own view.nodes → (common : List (NodeId × EpId)) × IsCommonLink view e common
  common_exists view e network =
      let id : NodeId = record { 0 = view.own } in
      let endpoint : EpId = record { 0 = e } in
      let own = part_of (λ (n : Entry). n.id.0) view.nodes view.own network.own_is_there in
      let links = said own.1.body in
      let all = joined_first view.nodes own.1 e links.0 (id, endpoint) (length links.0) (omega arith) in
      let total = then_total (on_total (λ (at : NodeId × EpId). at.0.0) nat_cmp_total) (on_total (λ (at : NodeId × EpId). at.1.0) nat_cmp_total) in
      let exact = exact_then (λ (at : NodeId × EpId). at.0.0) (λ (at : NodeId × EpId). at.1.0) nat_cmp nat_cmp exact_nat exact_nat told in
      let made = ascending_of endpoint_cmp total exact all.0 in (
        made.0,
        record {
          ascending = made.1;
          exact = λ at.
              let same = common_from_joined view own.1 own.0 id endpoint links.0 (length links.0) all.0 network.ascending own.2 own.3 refl (omega arith) links.1 all.1 at in
              (λ h. same.0 ((made.2 at).0 h), λ h. (made.2 at).1 (same.1 h));
        },
      )
    where
      told : (x y : NodeId × EpId) → x.0.0 ≡ y.0.0 → x.1.0 ≡ y.1.0 → x ≡ y
      told x y p q = ap (λ (n : ℕ). let at : NodeId × EpId = (record { 0 = n }, record { 0 = x.1.0 }) in at) p
          ∙ ap (λ (n : ℕ). let at : NodeId × EpId = (record { 0 = y.0.0 }, record { 0 = n }) in at) q
