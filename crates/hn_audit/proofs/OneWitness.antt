-- The first witness is one.
use Rattle.hn_base.proofs.Names.{◌≡◌, ◌∙◌, ℕ, List, Option, Some, None, refl, sym, ap, subst, inl, inr, arith, IsTotalOrder, on_total, then_total, nat_cmp_total, same_Some, HaveSame}
use Rattle.hn_audit.proofs.Names.{NodeId, Name, ascending_unique, has_one, Advertised, Assigned, Wish, assigned_pair, pair_cmp, wish_pair, IsAtRest, PeerLink, UsableIsUnique, Delegated, AreAsked}
use Rattle.hn_audit.proofs.Names.{seen_by, RestKnowsNoOrder, held, Attachment, Member, Parts, IsSoundWorld, Unquiet, Unsettled, FindsOne, IsFirstFound, OrElse, unheld_of, FindsAlike, FindsHeld}
use Rattle.hn_audit.proofs.Names.{FindsId, FindsKnown, FindsReach, FindsUsed, IsFirstUnsettled, FindsNear, FindsOfPeers, FindsOnLinks, FindsStranger, FindsUnseen, FindsUntrue, act_of, FindsAct}
use Rattle.hn_audit.proofs.Names.{FindsOfRouter, FindsNotAtRest, FindsUnasked, IsFirstUnquiet, PlainSpot, set_of}
use Rattle.hn_assign.specs.Laws.{SameHaveOneBest}
use Rattle.hn_pair.specs.Pair.{IsAscending}
use Rattle.hn_data.specs.Peers.{peer_cmp}
use Rattle.hn_audit.specs.declared.witness.Unquiet.TheVariants as act
use Rattle.hn_audit.specs.declared.witness.Unsettled.TheVariants as cause
use Rattle.hn_audit.proofs.QuietSets.{router_of}
use Rattle.hn_audit.proofs.RestIsOne.{one_wishes}
use Rattle.hn_audit.proofs.Searching.{Agree, first_agrees, leaf_is_one, or_else_agrees}
use Rattle.hn_audit.proofs.Settling.{set_has}
use Rattle.hn_audit.proofs.Spotting.{spots_of_set}

-- ---- why a router is not settled

id_is_one : (w : Parts) (id : NodeId) → FindsOne (FindsId w id)
id_is_one w id None None one also = refl
id_is_one w id None (Some u) one (inl none) = let no = none.1 in absurd (omega (arith, one, no))
id_is_one w id None (Some u) one (inr more) = let many = more.1 in absurd (omega (arith, one, many))
id_is_one w id (Some u) None (inl none) one = let no = none.1 in absurd (omega (arith, one, no))
id_is_one w id (Some u) None (inr more) one = let many = more.1 in absurd (omega (arith, one, many))
id_is_one w id (Some u) (Some v) (inl none) (inl also) = ap Some (none.0 ∙ sym also.0)
id_is_one w id (Some u) (Some v) (inl none) (inr more) = let no = none.1 in let many = more.1 in absurd (omega (arith, no, many))
id_is_one w id (Some u) (Some v) (inr more) (inl none) = let no = none.1 in let many = more.1 in absurd (omega (arith, no, many))
id_is_one w id (Some u) (Some v) (inr more) (inr also) = ap Some (more.0 ∙ sym also.0)

reach_is_one : (reach : List NodeId) (s : Member) → FindsOne (FindsReach reach s)
reach_is_one reach s = leaf_is_one (FindsReach reach s) (cause.OtherReach s.name) (λ u same h. h.1 same) (λ u h. h.0)

held_is_one : (s o : Member) → FindsOne (FindsHeld s o)
held_is_one s o = leaf_is_one (FindsHeld s o) (unheld_of s o (held s.router.table.entries o.router.id.0)) (λ u holds h. h.unheld (holds h.another)) (λ u h. h.is)

used_is_one : (s o : Member) → FindsOne (FindsUsed s o)
used_is_one s o = leaf_is_one (FindsUsed s o) (cause.OtherPrefixes s.name o.name) (λ u same h. h.1 same) (λ u h. h.0)

near_is_one : (spots : List PlainSpot) (m : Member) (a : Attachment) → FindsOne (FindsNear spots m a)
near_is_one spots m a None None none also = refl
near_is_one spots m a None (Some u) none some = absurd (none (some.0, some.1, some.2))
near_is_one spots m a (Some u) None some none = absurd (none (some.0, some.1, some.2))
near_is_one spots m a (Some u) (Some v) some also =
    let link : some.0 ≡ also.0 = same_Some some.0 also.0 (sym some.1 ∙ also.1) in
    ap Some (some.3 ∙ (ap (λ (l : ℕ). cause.Stranger m.name a.endpoint l) link ∙ sym also.3))

stranger_is_one : (reach : List NodeId) (spots : List PlainSpot) (m : Member) → FindsOne (FindsStranger reach spots m)
stranger_is_one reach spots m = go
  where
    of_attachments : FindsOne (IsFirstFound (FindsNear spots m) m.attachments)
    of_attachments = first_agrees (FindsNear spots m) (FindsNear spots m) m.attachments (λ a there. near_is_one spots m a)

    go : FindsOne (FindsStranger reach spots m)
    go None None none also = refl
    go None (Some u) none some = of_attachments None (Some u) (none some.0) some.1
    go (Some u) None some none = of_attachments (Some u) None some.1 (none some.0)
    go (Some u) (Some v) some also = of_attachments (Some u) (Some v) some.1 also.1

unseen_is_one : (a b : PlainSpot) → FindsOne (FindsUnseen a b)
unseen_is_one a b =
    leaf_is_one (FindsUnseen a b) (cause.NotLinked a.member.name a.endpoint b.member.name b.endpoint)
    (λ u seen h. h.1.unlinked (seen h.1.on_one_link h.1.apart)) (λ u h. h.0)

untrue_is_one : (s : Member) (peer : PeerLink) (o : Member) → FindsOne (FindsUntrue s peer o)
untrue_is_one s peer o =
    leaf_is_one (FindsUntrue s peer o) (cause.NotOnOneLink s.name peer.endpoint o.name peer.peer_endpoint)
    (λ u so h. h.1.on_no_link (so h.1.of_other h.1.apart h.1.linked)) (λ u h. h.0)

peer_total : IsTotalOrder peer_cmp
peer_total =
    then_total (on_total (λ (l : PeerLink). l.endpoint.0) nat_cmp_total)
    (then_total (on_total (λ (l : PeerLink). l.peer.0) nat_cmp_total) (on_total (λ (l : PeerLink). l.peer_endpoint.0) nat_cmp_total))

peers_are_one : (set : List Member) (s : Member) → FindsOne (FindsOfPeers set s)
peers_are_one set s x y one other =
    let finds : List PeerLink → Option Unsettled → Type 0 = λ peers. IsFirstFound (λ peer. IsFirstFound (FindsUntrue s peer) set) peers in
    let same : other.peers ≡ one.peers =
    ascending_unique peer_cmp peer_total other.peers one.peers other.are_said.ascending one.are_said.ascending
    (λ peer. (λ h. (one.are_said.exact peer).1 ((other.are_said.exact peer).0 h), λ h. (other.are_said.exact peer).1 ((one.are_said.exact peer).0 h))) in
    let of_set : (peer : PeerLink) → FindsOne (IsFirstFound (FindsUntrue s peer) set) =
    λ peer. first_agrees (FindsUntrue s peer) (FindsUntrue s peer) set (λ o there. untrue_is_one s peer o) in
    first_agrees (λ peer. IsFirstFound (FindsUntrue s peer) set) (λ peer. IsFirstFound (FindsUntrue s peer) set) one.peers (λ peer there. of_set peer) x y one.found
    (subst (λ (peers : List PeerLink). finds peers y) same other.found)

-- a search of each two of a list
two_are_one : {X : Type 0} (finds : X → X → Option Unsettled → Type 0) (xs : List X) → ((x y : X) → FindsOne (finds x y)) → FindsOne (IsFirstFound (λ x. IsFirstFound (finds x) xs) xs)
two_are_one finds xs one =
    first_agrees (λ x. IsFirstFound (finds x) xs) (λ x. IsFirstFound (finds x) xs) xs (λ x there. first_agrees (finds x) (finds x) xs (λ y also. one x y))

alike_is_one : (reach : List NodeId) (set : List Member) → FindsOne (FindsAlike reach set)
alike_is_one reach set =
    let reaches : Option Unsettled → Type 0 = IsFirstFound (FindsReach reach) set in
    let holds : Option Unsettled → Type 0 = IsFirstFound (λ s. IsFirstFound (FindsHeld s) set) set in
    let uses : Option Unsettled → Type 0 = IsFirstFound (λ s. IsFirstFound (FindsUsed s) set) set in
    or_else_agrees reaches (OrElse holds uses) reaches (OrElse holds uses) (first_agrees (FindsReach reach) (FindsReach reach) set (λ s there. reach_is_one reach s))
    (or_else_agrees holds uses holds uses (two_are_one FindsHeld set held_is_one) (two_are_one FindsUsed set used_is_one))

links_are_one : (members : List Member) (reach : List NodeId) (set : List Member) (spots : List PlainSpot) → FindsOne (FindsOnLinks members reach set spots)
links_are_one members reach set spots =
    let strangers : Option Unsettled → Type 0 = IsFirstFound (FindsStranger reach spots) members in
    let unseen : Option Unsettled → Type 0 = IsFirstFound (λ a. IsFirstFound (FindsUnseen a) spots) spots in
    let untrue : Option Unsettled → Type 0 = IsFirstFound (FindsOfPeers set) set in
    or_else_agrees strangers (OrElse unseen untrue) strangers (OrElse unseen untrue)
    (first_agrees (FindsStranger reach spots) (FindsStranger reach spots) members (λ m there. stranger_is_one reach spots m))
    (or_else_agrees unseen untrue unseen untrue (two_are_one FindsUnseen spots unseen_is_one) (first_agrees (FindsOfPeers set) (FindsOfPeers set) set (λ s there. peers_are_one set s)))

pub unsettled_is_one : (w : Parts) (r : Member) → FindsOne (IsFirstUnsettled w r)
unsettled_is_one w r =
    let reach = r.router.reach in
    let set : List Member = set_of w r in
    let spots : List PlainSpot = spots_of_set w r in
    let known : Option Unsettled → Type 0 = FindsKnown w reach in
    let alike : Option Unsettled → Type 0 = FindsAlike reach set in
    let links : Option Unsettled → Type 0 = FindsOnLinks w.members reach set spots in
    or_else_agrees known (OrElse alike links) known (OrElse alike links) (first_agrees (FindsId w) (FindsId w) reach (λ id there. id_is_one w id))
    (or_else_agrees alike links alike links (alike_is_one reach set) (links_are_one w.members reach set spots))

-- ---- why a router is not quiet

module _ (best_is_one : SameHaveOneBest) (order : RestKnowsNoOrder) (total : IsTotalOrder pair_cmp) (name : Name) (own : ℕ) (assigned : List Assigned) (up : IsAscending assigned_pair assigned)
    (a b : List Advertised) (same : HaveSame a b) where
  also_rests : (wish : Wish) (c : Option Assigned) → IsAtRest a own wish c → IsAtRest b own wish c
  also_rests wish c = order a b own wish wish.common c same (λ at. (λ h. h, λ h. h))

  rested_too : (wish : Wish) (c : Option Assigned) → IsAtRest b own wish c → IsAtRest a own wish c
  rested_too wish c = order b a own wish wish.common c (λ x. ((same x).1, (same x).0)) (λ at. (λ h. h, λ h. h))

  not_at_rest_agree : (wish : Wish) → Agree (FindsNotAtRest name a own assigned wish) (FindsNotAtRest name b own assigned wish)
  not_at_rest_agree wish None None none also = refl
  not_at_rest_agree wish None (Some u) none some = absurd (some.not_at_rest (also_rests wish some.assignment (none some.assignment some.has)))
  not_at_rest_agree wish (Some u) None some none = absurd (some.not_at_rest (rested_too wish some.assignment (none some.assignment some.has)))
  not_at_rest_agree wish (Some u) (Some v) some also =
      let assignment : some.assignment ≡ also.assignment = has_one assigned_pair pair_cmp total (wish_pair wish) assigned some.assignment also.assignment up some.has also.has in
      let best : some.best ≡ also.best = best_is_one a b same own wish.common wish.delegated some.best also.best some.is_best also.is_best in
      ap Some (some.is ∙ (ap (λ (c : Option Assigned). act_of name wish c some.best) assignment ∙ (ap (act_of name wish also.assignment) best ∙ sym also.is)))

  acts_agree : (wishes : List Wish) → Agree (FindsAct name a own assigned wishes) (FindsAct name b own assigned wishes)
  acts_agree wishes =
      let unasked : Option Unquiet → Type 0 = IsFirstFound (FindsUnasked name wishes) assigned in
      let not_at_rest : List Advertised → Option Unquiet → Type 0 = λ adv. IsFirstFound (FindsNotAtRest name adv own assigned) wishes in
      or_else_agrees unasked (not_at_rest a) unasked (not_at_rest b) (first_agrees (FindsUnasked name wishes) (FindsUnasked name wishes) assigned (λ c there. unasked_is_one c))
      (first_agrees (FindsNotAtRest name a own assigned) (FindsNotAtRest name b own assigned) wishes (λ wish there. not_at_rest_agree wish))
    where
      unasked_is_one : (c : Assigned) → FindsOne (FindsUnasked name wishes c)
      unasked_is_one c = leaf_is_one (FindsUnasked name wishes c) (act.Unasked name c.endpoint c.delegated c.prefix) (λ u asked h. h.1 asked) (λ u h. h.0)

router_is_one : SameHaveOneBest → RestKnowsNoOrder → UsableIsUnique → IsTotalOrder pair_cmp → (s : Member) → IsAscending assigned_pair s.router.held.assigned → FindsOne (FindsOfRouter s)
router_is_one best order unique total s up x y one other =
    let p = one.outlook in
    let q = other.outlook in
    let usable : p.usable ≡ q.usable = unique (seen_by s.router) p.usable q.usable p.are_usable q.are_usable in
    let wishes : p.wishes ≡ q.wishes =
    one_wishes total s.router q.usable p.wishes q.wishes (subst (λ (us : List Delegated). AreAsked s.router us p.wishes) usable p.are_asked) q.are_asked in
    let same : HaveSame p.advertised q.advertised =
    λ a. (λ h. (q.are_advertised a).1 ((p.are_advertised a).0 h), λ h. (p.are_advertised a).1 ((q.are_advertised a).0 h)) in
    acts_agree best order total s.name s.router.id.0 s.router.held.assigned up p.advertised q.advertised same p.wishes x y one.found
    (subst (λ (ws : List Wish). FindsAct s.name q.advertised s.router.id.0 s.router.held.assigned ws y) (sym wishes) other.found)

pub unquiet_is_one : SameHaveOneBest → RestKnowsNoOrder → UsableIsUnique → IsTotalOrder pair_cmp → (w : Parts) (r : Member) → IsSoundWorld w → FindsOne (IsFirstUnquiet w r)
unquiet_is_one best order unique total w r sound =
    first_agrees FindsOfRouter FindsOfRouter (set_of w r)
    (λ s there. let router = router_of w r s sound ((set_has w r s).0 there) in router_is_one best order unique total s router.well.pairs.assigned)
