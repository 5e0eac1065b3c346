-- The private post is alone on its link, and its assignments keep the private length.
use Rattle.hn_base.proofs.Names.{◌≡◌, ◌∙◌, ◌<◌, ◌^◌, ℕ, List, [], ◌∷◌, Option, Some, None, inl, inr, refl, sym, ap, subst, arith, All, All-contains, All-contains_itself, All-weaker}
use Rattle.hn_base.proofs.Names.{Contains-append_cases}
use Rattle.hn_rules.proofs.Names.{Contains, NodeId, EpId, Contains-head, Contains-tail, Contains-from_map, nothing_in, from_filter_map, same_id, HasPeer, peer_link, PeerLink, Entry, Assigned, Wish}
use Rattle.hn_rules.proofs.Names.{Pair, SubroutineKeepsLengths, AssignedAreWished, IsWished, assigned_pair, Port, IsOwnData, link_at, links_at, links_of, ArePorts, endpoints_of, private_post}
use Rattle.hn_rules.proofs.Names.{posts_of, length_at, State, IsRunAssigned, own_entry, entry_of, view_of, seen_by}
use Rattle.hn_link.specs.CommonLink.{IsOnCommonLink, IsLinkedWithOwn}
use Rattle.hn_assign.specs.declared.ran.Ran.{Ran}
use Rattle.hn_pair.specs.Facts.{IsOfLengthAt, IsAloneAt}
use Rattle.hn_rules.specs.Laws.{OwnPeersAreOfEndpoints, PrivatePostIsAlone}
use Rattle.hn_rules.proofs.Entries.{entry_own, entry_named}
use Rattle.hn_rules.proofs.LawPublished.{ReadLaws, peer_from}

-- ---- own Peers are of endpoints

links_are : (ports : List Port) (link : PeerLink) → Contains (links_of ports) link → Contains (endpoints_of ports) link.endpoint
links_are [] link there = absurd (nothing_in link there)
links_are (p ∷ ports) link there =
    elim (Contains-append_cases (links_at p) (links_of ports) link there) [
      | inl here ↦
          let from = Contains-from_map (link_at p) p.peers link here in
          subst (Contains (endpoints_of (p ∷ ports))) (ap (λ (l : PeerLink). l.endpoint) from.2) (Contains-head p.id (endpoints_of ports))
      | inr later ↦ Contains-tail p.id (endpoints_of ports) link.endpoint (links_are ports link later)
    ]

-- an endpoint does not have number 0
pub not_private : (ports : List Port) (e : EpId) → ArePorts ports → Contains (endpoints_of ports) e → 0 < e.0
not_private ports e are there =
    let from = Contains-from_map (λ (p : Port). p.id) ports e there in
    let number = All-contains (λ (p : Port). (0 < p.id.0) × (p.id.0 < 2 ^ 32)) ports from.0 are.numbered from.1 in
    subst (λ (x : EpId). 0 < x.0) from.2 number.0

pub links_some : (ports : List Port) → ArePorts ports → All (λ link. 0 < link.endpoint.0) (links_of ports)
links_some ports are =
    All-weaker (Contains (links_of ports)) (λ link. 0 < link.endpoint.0)
    (λ link there. not_private ports link.endpoint are (links_are ports link there)) (links_of ports) (All-contains_itself (links_of ports))

pub own_peers : ReadLaws → OwnPeersAreOfEndpoints
own_peers laws s link router said =
    let among = peer_from laws s.own router.well.own link said in
    links_are s.ports link (subst (λ (links : List PeerLink). Contains links link) (sym (ap (λ items. items.links) router.refreshed.published)) among)

-- ---- the private post is alone

-- the own node among those in view
own_seen : (s : State) (n : Entry) → Contains (view_of s) n → n.id.0 ≡ s.id.0 → n ≡ own_entry s
own_seen s n there same =
    let from = from_filter_map (entry_of s) s.reach n there in
    let named : n.id ≡ from.0 = entry_named s from.0 n from.2 in
    let own : entry_of s from.0 ≡ Some (own_entry s) = entry_own s from.0 (ap (λ (id : NodeId). id.0) (sym named) ∙ same) in
    let both : Some n ≡ Some (own_entry s) = sym from.2 ∙ own in
    cc

module _ (laws : ReadLaws) (s : State) (own : IsOwnData s.own) (linked : All (λ link. 0 < link.endpoint.0) s.own.items.links) where
  not_linked : (y f : ℕ) → IsLinkedWithOwn (seen_by s) 0 y f → ⊥
  not_linked y f is =
      let one = own_seen s is.own is.own_there is.own_is in
      let said : HasPeer s.own.body (peer_link y f 0) = subst (λ (n : Entry). HasPeer n.body (peer_link y f 0)) one is.linked.there in
      let some : 0 < 0 = All-contains (λ (link : PeerLink). 0 < link.endpoint.0) s.own.items.links (peer_link y f 0) linked (peer_from laws s.own own (peer_link y f 0) said) in
      omega arith

  pub alone_at : (at : NodeId × EpId) → IsOnCommonLink (seen_by s) 0 at → (at.0.0 ≡ s.id.0) × (at.1.0 ≡ 0)
  alone_at at (inl here) = (here.own, here.endpoint)
  alone_at at (inr there) = absurd (not_linked at.0.0 at.1.0 there)

  -- ---- assignments keep the private length

  module _ (lengths : SubroutineKeepsLengths) (leaves : AssignedAreWished) (ran : Ran) (is : IsRunAssigned s ran) where
    abbrev IsOfLength : Option ℕ → Assigned → Type 0
    IsOfLength private c = c.endpoint.0 ≡ 0 → Some c.prefix.len ≡ private

    -- without a private link nothing is asked for it
    none_private : ArePorts s.ports → s.private ≡ None → (c : Assigned) → IsWished is.wishes (assigned_pair c) → c.endpoint.0 ≡ 0 → ⊥
    none_private ports none c (wish, there, pair) at =
        let post = ((is.are_asked.exact wish).0 there).post in
        let endpoint : Contains (endpoints_of s.ports) wish.endpoint = subst (λ (private : Option ℕ). Contains (posts_of private s.ports) wish.endpoint) none post in
        let some = not_private s.ports wish.endpoint ports endpoint in
        let same : wish.endpoint.0 ≡ c.endpoint.0 = ap (λ (p : Pair). p.endpoint.0) pair in
        omega arith

    -- with one, its wishes are of one length, and nobody else is on its link
    alone : (length : ℕ) → s.private ≡ Some length → (wish : Wish) → Contains is.wishes wish → IsAloneAt s.id.0 private_post length wish
    alone length some wish there e =
        let asked = ((is.are_asked.exact wish).0 there).asked in (
          asked.length ∙ ap (λ (private : Option ℕ). length_at private wish.endpoint) some ∙ ap (length_at (Some length)) e,
          λ at on. (alone_at at (subst (λ (x : EpId). IsOnCommonLink (seen_by s) x.0 at) e ((asked.common.exact at).0 on))).0,
        )

    pub of_length : ArePorts s.ports → All (IsOfLength s.private) s.held.assigned → All (IsOfLength s.private) ran.held.assigned
    of_length ports held = by_private s.private refl
      where
        by_private : (private : Option ℕ) → s.private ≡ private → All (IsOfLength s.private) ran.held.assigned
        by_private None none =
            All-weaker (λ c. IsWished is.wishes (assigned_pair c)) (IsOfLength s.private) (λ c wished at. absurd (none_private ports none c wished at)) ran.held.assigned
            (leaves (seen_by s) is.wishes s.held ran is.is_subroutine)
        by_private (Some length) some =
            let before : All (IsOfLengthAt private_post length) s.held.assigned =
            All-weaker (IsOfLength s.private) (IsOfLengthAt private_post length)
            (λ c of e. let both : Some c.prefix.len ≡ Some length = of (ap (λ (x : EpId). x.0) e) ∙ some in cc) s.held.assigned held
            in
            All-weaker (IsOfLengthAt private_post length) (IsOfLength s.private) (λ c of at. ap Some (of (same_id c.endpoint private_post at)) ∙ sym some) ran.held.assigned
            (lengths (seen_by s) is.wishes s.held ran private_post length is.is_subroutine (alone length some) before)

pub post_alone : ReadLaws → PrivatePostIsAlone
post_alone laws s at router on =
    let is = alone_at laws s router.well.own router.well.posted.linked at on in
    let node : at.0 ≡ s.id = λ i. record { 0 = is.0 i } in
    (node, same_id at.1 private_post is.1)
