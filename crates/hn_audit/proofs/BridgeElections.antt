-- On one link the routers of a settled set elect the same.
use Rattle.hn_base.proofs.Names.{◌≡◌, ◌∙◌, ◌<◌, nat_lt, ℕ, Bool, List, Option, Some, None, Contains, filter, inl, inr, refl, sym, ap, subst, rules, IsTotalOrder, comparing, list_any, on, nat_cmp}
use Rattle.hn_base.proofs.Names.{Less, and_from, and_parts, eqb-true, eq-eqb, lt-ltb, ltb-true, on_total, then_total, nat_cmp_total, same_Some, IsExact, PlainCaps, plain_caps}
use Rattle.hn_audit.proofs.Names.{◌==◌, ◌&&◌, same_node, NodeId, EpId, HasItems, ItemsAreUnique, version_of, Delegated, IsCommonLink, IsOnCommonLink, seen_by, IsOnLinkOf, CommonLinkIsExact, Member}
use Rattle.hn_audit.proofs.Names.{Parts, IsReached, Link, IsThereByRules, in_filter, from_filter, any_of, any_from}
use Rattle.std.specs.Option.{MatchOption}
use Rattle.std.specs.declared.cmp.Ordering.{Ordering}
use Rattle.hn_base.proofs.AscendingLists.{exact_nat, exact_then}
use Rattle.hn_base.specs.declared.letter.Letter.{Letter}
use Rattle.hn_link.specs.CommonLink.{endpoint_cmp}
use Rattle.hn_link.specs.Election.{IsServing, IsElectionCandidate, IsElected, HasNoCandidate, priority_of, rank_of, rank_cmp}
use Rattle.hn_sound.specs.Home.{common_link}
use Rattle.hn_audit.specs.Sound.{ElectSame}
use Rattle.hn_base.proofs.AscendingMade.{ascending_of}
use Rattle.hn_audit.proofs.BridgeSets.{router_of, in_view, of_view}
use Rattle.hn_audit.proofs.BridgeHomes.{home_of, set_of, in_set, of_set, end_on}
use Rattle.hn_audit.proofs.BridgePremises.{IsCase}
use Rattle.hn_audit.proofs.BridgeSeen.{common_is_link}
use Rattle.hn_audit.proofs.BridgeSounds.{reached_there, there_end}
use Rattle.hn_base.proofs.Greatest.{greatest_of}

-- ---- orders

endpoint_total : IsTotalOrder endpoint_cmp
endpoint_total = then_total (on_total (λ (at : NodeId × EpId). at.0.0) nat_cmp_total) (on_total (λ (at : NodeId × EpId). at.1.0) nat_cmp_total)

endpoint_exact : IsExact endpoint_cmp
endpoint_exact =
    exact_then {K = NodeId × EpId} (λ at. at.0.0) (λ at. at.1.0) nat_cmp nat_cmp exact_nat exact_nat
    (λ x y node id. λ i. (record { 0 = node i }, record { 0 = id i }))

-- the capabilities of a router
abbrev caps_of : Member → PlainCaps
caps_of m = plain_caps m.router.own.items.caps

-- routers in the order of their ranks
abbrev member_cmp : Letter → Member → Member → Ordering
member_cmp letter m n = rank_cmp (rank_of letter (caps_of m) m.router.id) (rank_of letter (caps_of n) n.router.id)

member_total : (letter : Letter) → IsTotalOrder (member_cmp letter)
member_total letter =
    let ranks : IsTotalOrder rank_cmp = search (comparing, rules) in
    on_total (λ (m : Member). rank_of letter (caps_of m) m.router.id) ranks

-- whether it stands for election on a Common Link
abbrev is_at : Member → NodeId × EpId → Bool
is_at m at = at.0.0 == m.router.id.0

abbrev stands : Letter → List (NodeId × EpId) → Member → Bool
stands letter common m = list_any (is_at m) common && nat_lt 0 (priority_of letter (caps_of m))

module _ (w : Parts) (r : Member) (usable : List Delegated) (case : IsCase w r usable)
    (one_items : ItemsAreUnique) (links_exact : CommonLinkIsExact) where
  -- ---- the Common Link

  -- an endpoint has a Common Link
  has_common : (link : Link) (s : Member) (e : EpId) → IsThereByRules w r link s e → (common : List (NodeId × EpId)) × IsCommonLink (seen_by s.router) e.0 common
  has_common link s e there =
      let x = end_on link s e in
      let sorted = ascending_of endpoint_cmp endpoint_total endpoint_exact (common_link (home_of w r usable) x) in (
        sorted.0,
        record {
          ascending = sorted.1;
          exact = λ at.
              let known = common_is_link w r usable case s (reached_there w r case.known link s e there) x (there_end w r case.known link s e there) at.0 at.1 in (
                λ h. known.1 ((links_exact (home_of w r usable) x at.0 at.1).0 ((sorted.2 at).0 h)),
                λ h. (sorted.2 at).1 ((links_exact (home_of w r usable) x at.0 at.1).1 (known.0 h)),
              );
        },
      )

  -- that of each other endpoint on the link
  on_both : (link : Link) (s u : Member) (e f : EpId) → IsThereByRules w r link s e → IsThereByRules w r link u f → (at : NodeId × EpId)
      → IsOnCommonLink (seen_by s.router) e.0 at → IsOnCommonLink (seen_by u.router) f.0 at
  on_both link s u e f one other at on =
      let here : IsOnLinkOf (home_of w r usable) (end_on link s e) at.0 at.1 =
      (common_is_link w r usable case s (reached_there w r case.known link s e one) (end_on link s e) (there_end w r case.known link s e one) at.0 at.1).0 on in
      let there : IsOnLinkOf (home_of w r usable) (end_on link u f) at.0 at.1 =
      record { endpoint = here.endpoint; there = here.there; on_link = here.on_link; of_node = here.of_node; of_id = here.of_id } in
      (common_is_link w r usable case u (reached_there w r case.known link u f other) (end_on link u f) (there_end w r case.known link u f other) at.0 at.1).1 there

  common_too : (link : Link) (s u : Member) (e f : EpId) (common : List (NodeId × EpId)) → IsThereByRules w r link s e → IsThereByRules w r link u f
      → IsCommonLink (seen_by s.router) e.0 common → IsCommonLink (seen_by u.router) f.0 common
  common_too link s u e f common one other is = record {
    ascending = is.ascending;
    exact = λ at. (λ h. on_both link s u e f one other at ((is.exact at).0 h), λ h. (is.exact at).1 (on_both link u s f e other one at h));
  }

  -- ---- who stands for election

  serving_too : (s u : Member) (letter : Letter) (id : NodeId) (caps : PlainCaps) → IsReached w r s → IsReached w r u
      → IsServing (seen_by s.router) letter id caps → IsServing (seen_by u.router) letter id caps
  serving_too s u letter id caps s_in u_in serves =
      let who = of_view w r case.known s serves.node s_in serves.there in
      let n = in_view w r case.known u who.0 u_in who.1 in
      let body : serves.node.body ≡ n.0.body = who.2.body ∙ sym n.2.body in
      record {
        node = n.0;
        there = n.1;
        is_it = n.2.id ∙ (sym who.2.id ∙ serves.is_it);
        version = subst (λ (bytes : List ℕ). HasItems bytes (λ items. version_of items ≡ Some caps)) body serves.version;
        offers = serves.offers;
      }

  candidate_too : (s u : Member) (common : List (NodeId × EpId)) (letter : Letter) (id : NodeId) (caps : PlainCaps) → IsReached w r s → IsReached w r u
      → IsElectionCandidate (seen_by s.router) common letter id caps → IsElectionCandidate (seen_by u.router) common letter id caps
  candidate_too s u common letter id caps s_in u_in candidate =
      record { endpoint = candidate.endpoint; on_link = candidate.on_link; serves = serving_too s u letter id caps s_in u_in candidate.serves }

  -- how an election comes out
  abbrev Elects : Member → List (NodeId × EpId) → Letter → Option NodeId → Type 0
  Elects s common letter who = MatchOption who (HasNoCandidate (seen_by s.router) common letter) (IsElected (seen_by s.router) common letter)

  elects_too : (s u : Member) (common : List (NodeId × EpId)) (letter : Letter) (who : Option NodeId) → IsReached w r s → IsReached w r u
      → Elects s common letter who → Elects u common letter who
  elects_too s u common letter None s_in u_in none = λ id caps candidate. none id caps (candidate_too u s common letter id caps u_in s_in candidate)
  elects_too s u common letter (Some id) s_in u_in is = record {
    caps = is.caps;
    candidate = candidate_too s u common letter id is.caps s_in u_in is.candidate;
    greatest = λ other others candidate. is.greatest other others (candidate_too u s common letter other others u_in s_in candidate);
  }

  -- ---- and that it comes out

  -- a router of the set that stands
  record IsStanding (common : List (NodeId × EpId)) (letter : Letter) (m : Member) : Type 0 where
    reached : IsReached w r m
    endpoint : EpId
    on_link : Contains common (m.router.id, endpoint)
    offers : 0 < priority_of letter (caps_of m)

  standing_list : List (NodeId × EpId) → Letter → List Member
  standing_list common letter = filter (stands letter common) (set_of w r)

  from_standing : (common : List (NodeId × EpId)) (letter : Letter) (m : Member) → Contains (standing_list common letter) m → IsStanding common letter m
  unfolding standing_list
  from_standing common letter m there =
      let from = from_filter (stands letter common) (set_of w r) m there in
      let parts = and_parts (list_any (is_at m) common) (nat_lt 0 (priority_of letter (caps_of m))) from.1 in
      let at = any_of (is_at m) common parts.0 in
      let node : at.0.0 ≡ m.router.id = same_node at.0.0 m.router.id (eqb-true at.0.0.0 m.router.id.0 at.2) in
      record {
        reached = of_set w r case.known m from.0;
        endpoint = at.0.1;
        on_link = subst (λ (id : NodeId). Contains common (id, at.0.1)) node at.1;
        offers = ltb-true 0 (priority_of letter (caps_of m)) parts.1;
      }

  to_standing : (common : List (NodeId × EpId)) (letter : Letter) (m : Member) → IsStanding common letter m → Contains (standing_list common letter) m
  unfolding standing_list
  to_standing common letter m is =
      in_filter (stands letter common) (set_of w r) m (in_set w r case.known m is.reached)
      (and_from (list_any (is_at m) common) (nat_lt 0 (priority_of letter (caps_of m)))
      (any_from (is_at m) common (m.router.id, is.endpoint) is.on_link (eq-eqb m.router.id.0 m.router.id.0 refl))
      (lt-ltb 0 (priority_of letter (caps_of m)) is.offers))

  -- it is a candidate
  to_candidate : (s : Member) (common : List (NodeId × EpId)) (letter : Letter) (m : Member) → IsReached w r s → IsStanding common letter m
      → IsElectionCandidate (seen_by s.router) common letter m.router.id (caps_of m)
  to_candidate s common letter m s_in is =
      let n = in_view w r case.known s m s_in is.reached in
      record {
        endpoint = is.endpoint;
        on_link = is.on_link;
        serves = record {
          node = n.0;
          there = n.1;
          is_it = n.2.id;
          version = subst (λ (bytes : List ℕ). HasItems bytes (λ items. version_of items ≡ Some (caps_of m))) (sym n.2.body) (case.versions m.router (router_of w r case.known m is.reached));
          offers = is.offers;
        };
      }

  -- and each candidate is one
  record IsCandidateOf (common : List (NodeId × EpId)) (letter : Letter) (id : NodeId) (caps : PlainCaps) (m : Member) : Type 0 where
    standing : IsStanding common letter m
    of_node : m.router.id ≡ id
    has_caps : caps_of m ≡ caps

  of_candidate : (s : Member) (common : List (NodeId × EpId)) (letter : Letter) (id : NodeId) (caps : PlainCaps) → IsReached w r s
      → IsElectionCandidate (seen_by s.router) common letter id caps → (m : Member) × IsCandidateOf common letter id caps m
  of_candidate s common letter id caps s_in candidate =
      let serves = candidate.serves in
      let who = of_view w r case.known s serves.node s_in serves.there in
      let node : who.0.router.id ≡ id = sym who.2.id ∙ serves.is_it in
      let own = case.versions who.0.router (router_of w r case.known who.0 who.1) in
      let says : HasItems who.0.router.own.body (λ items. version_of items ≡ Some caps) =
      subst (λ (bytes : List ℕ). HasItems bytes (λ items. version_of items ≡ Some caps)) who.2.body serves.version in
      let items : own.0 ≡ says.0 = one_items who.0.router.own.body own.0 says.0 own.1 says.1 in
      let same : caps_of who.0 ≡ caps = same_Some (caps_of who.0) caps (sym own.2 ∙ (ap version_of items ∙ says.2)) in (
        who.0,
        record {
          standing = record {
            reached = who.1;
            endpoint = candidate.endpoint;
            on_link = subst (λ (n : NodeId). Contains common (n, candidate.endpoint)) (sym node) candidate.on_link;
            offers = subst (λ (c : PlainCaps). 0 < priority_of letter c) (sym same) serves.offers;
          };
          of_node = node;
          has_caps = same;
        },
      )

  comes_out : (s : Member) (common : List (NodeId × EpId)) (letter : Letter) → IsReached w r s → (who : Option NodeId) × Elects s common letter who
  comes_out s common letter s_in =
      elim (greatest_of (member_total letter) (λ (m : Member). Unit {0}) (λ m. inl tt) (standing_list common letter)) [
        | inl found ↦ (
          Some found.0.router.id,
          record {
            caps = caps_of found.0;
            candidate = to_candidate s common letter found.0 s_in (from_standing common letter found.0 found.1.is_in);
            greatest = λ other others candidate above.
                let m = of_candidate s common letter other others s_in candidate in
                let by_node = subst (λ (n : NodeId). rank_cmp (rank_of letter (caps_of found.0) found.0.router.id) (rank_of letter others n) ≡ Less) (sym m.1.of_node) above in
                let by_caps = subst (λ (c : PlainCaps). rank_cmp (rank_of letter (caps_of found.0) found.0.router.id) (rank_of letter c m.0.router.id) ≡ Less) (sym m.1.has_caps) by_node in
                found.1.greatest m.0 (to_standing common letter m.0 m.1.standing) tt by_caps;
          },
        )
        | inr none ↦ (
          None,
          λ id caps candidate.
              let m = of_candidate s common letter id caps s_in candidate in
              none m.0 (to_standing common letter m.0 m.1.standing) tt,
        )
      ]

  pub one_elected : (letter : Letter) (link : Link) (s u : Member) (e f : EpId) → IsThereByRules w r link s e → IsThereByRules w r link u f → ElectSame s.router e u.router f letter
  one_elected letter link s u e f one other =
      let common = has_common link s e one in
      let s_in = reached_there w r case.known link s e one in
      let out = comes_out s common.0 letter s_in in
      record {
        who = out.0;
        one = record { common = common.0; is_common = common.1; is_elected = out.1 };
        other = record {
          common = common.0;
          is_common = common_too link s u e f common.0 one other common.1;
          is_elected = elects_too s u common.0 letter out.0 s_in (reached_there w r case.known link u f other) out.1;
        };
      }
