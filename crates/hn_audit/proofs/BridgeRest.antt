-- In the home of a settled and quiet set each pair is at rest as its router sees it.
use Rattle.hn_base.proofs.Names.{◌≡◌, ◌∙◌, ◌↔◌, ℕ, not, List, Option, Some, None, Contains, refl, sym, ap, subst, PlainPrefix, HasAt}
use Rattle.hn_audit.proofs.Names.{slice_get, NodeId, EpId, Assigned, Wish, Pair, assigned_pair, pair_cmp, wish_pair, IsAtRest, Delegated, prefixes_of, IsCommonLink, length_at, posts_of, IsWishAt}
use Rattle.hn_audit.proofs.Names.{IsRouter, seen_by, Endpoint, IsOnLinkOf, Member, Parts, AreSame, IsRouterAtRest, IsQuietByRules}
use Rattle.hn_base.proofs.AtKey.{has_some}
use Rattle.hn_sound.specs.AtRest.{IsAssignmentOf}
use Rattle.hn_sound.specs.Home.{wish_of}
use Rattle.hn_sound.specs.Members.{IsSeenAtRest}
use Rattle.hn_audit.proofs.BridgeSets.{router_of}
use Rattle.hn_audit.proofs.BridgeUsed.{IsAskedFor, asked_for, delegated_at, is_unwanted, is_wanted, place_of}
use Rattle.hn_audit.proofs.BridgeHomes.{home_of, set_of, length_in, length_is, IsEndOf, of_end, to_has, of_has, on_link_is_post}
use Rattle.hn_audit.proofs.BridgePremises.{IsCase, uses_same}
use Rattle.hn_audit.proofs.BridgeSeen.{gathered_is_published, common_is_link}

module _ (w : Parts) (r : Member) (usable : List Delegated) (case : IsCase w r usable) (quiet : IsQuietByRules w r) where
  -- a pair of the home, the wish for it, and how it is at rest for its router
  record IsResting (s : Member) (x : Endpoint) (d : PlainPrefix) : Type 0 where
    end : IsEndOf w r s x
    rest : IsRouterAtRest s.router
    place : ℕ
    wish : Wish
    is_asked : IsWishAt s.router.private (seen_by s.router) rest.usable place wish
    of_endpoint : wish.endpoint ≡ x.id
    asked : IsAskedFor usable d wish
    assignment : Option Assigned
    its_own : HasAt assigned_pair (wish_pair wish) assignment s.router.held.assigned
    at_rest : IsAtRest rest.advertised s.router.id.0 wish assignment

  resting : (s : Member) (x : Endpoint) (d : PlainPrefix) → IsEndOf w r s x → Contains (prefixes_of usable) d → IsResting s x d
  resting s x d end d_in =
      let rest = quiet s end.reached in
      let at = place_of usable d d_in in
      let same : AreSame rest.usable usable = uses_same w r usable case s rest.usable end.reached rest.are_usable in
      let here = delegated_at rest.usable d at.0 (ap (λ (ps : List PlainPrefix). slice_get ps at.0) same.prefixes ∙ at.1) in
      let router : IsRouter s.router = router_of w r case.known s end.reached in
      let common = case.links (seen_by s.router) x.id.0 (case.known.network s.router router) in
      let wish : Wish = record { delegated = here.0.prefix; wanted = not (is_unwanted rest.usable here.0.prefix); endpoint = x.id; common = common.0; length = length_at s.router.private x.id } in
      let is_asked : IsWishAt s.router.private (seen_by s.router) rest.usable at.0 wish =
      record { delegated = here.0; at = here.1; prefix = refl; wanted = is_wanted rest.usable rest.are_usable.ascending at.0 here.0 here.1; common = common.1; length = refl } in
      let post : Contains (posts_of s.router.private s.router.ports) x.id = on_link_is_post end.link s x.id end.on_link in
      let wished : Contains rest.wishes wish = (rest.are_asked.exact wish).1 (record { place = at.0; asked = is_asked; post = post }) in
      let own = has_some assigned_pair pair_cmp case.pairs_total case.pairs_exact (wish_pair wish) s.router.held.assigned in
      record {
        end = end;
        rest = rest;
        place = at.0;
        wish = wish;
        is_asked = is_asked;
        of_endpoint = refl;
        asked = asked_for s.router.private (seen_by s.router) rest.usable usable d at.0 wish same case.are_usable.ascending at.1 is_asked;
        assignment = own.0;
        its_own = own.1;
        at_rest = rest.at_rest wish wished own.0 own.1;
      }

  -- its assignment is that of the home
  its_own : (s : Member) (x : Endpoint) (d : PlainPrefix) (wish : Wish) (o : Option Assigned) → IsEndOf w r s x → wish.delegated ≡ d → wish.endpoint ≡ x.id
      → HasAt assigned_pair (wish_pair wish) o s.router.held.assigned → IsAssignmentOf (home_of w r usable) x d o
  its_own s x d wish None end delegated endpoint none = λ c has.
      let is = of_has w r case.known usable s x d c end has in
      none c is.held (λ i. record { delegated = (is.of_delegated ∙ sym delegated) i; endpoint = (is.of_endpoint ∙ sym endpoint) i })
  its_own s x d wish (Some c) end delegated endpoint has =
      to_has w r case.known usable s x d c end (record {
        held = has.0;
        of_endpoint = ap (λ (p : Pair). p.endpoint) has.1 ∙ endpoint;
        of_delegated = ap (λ (p : Pair). p.delegated) has.1 ∙ delegated;
      })

  -- and what is asked for it too
  its_wish : (s : Member) (x : Endpoint) (d : PlainPrefix) (h : IsResting s x d) → h.wish ≡ record (wish_of (home_of w r usable) x d) { common = h.wish.common }
  its_wish s x d h =
      let length : h.wish.length ≡ length_in (set_of w r) x =
      h.is_asked.length ∙ (ap (length_at s.router.private) h.of_endpoint ∙ sym (length_is w r case.known s x h.end)) in
      λ i. record {
        delegated = h.asked.delegated i;
        wanted = h.asked.wanted i;
        endpoint = h.of_endpoint i;
        common = h.wish.common;
        length = length i;
      }

  its_link : (s : Member) (x : Endpoint) (d : PlainPrefix) (h : IsResting s x d) (node : NodeId) (id : EpId) → Contains h.wish.common (node, id) ↔ IsOnLinkOf (home_of w r usable) x node id
  its_link s x d h node id =
      let common : IsCommonLink (seen_by s.router) x.id.0 h.wish.common = subst (λ (e : EpId). IsCommonLink (seen_by s.router) e.0 h.wish.common) h.of_endpoint h.is_asked.common in
      let link = common_is_link w r usable case s h.end.reached x h.end node id in
      (λ there. link.0 ((common.exact (node, id)).0 there), λ on. (common.exact (node, id)).1 (link.1 on))

  seen_at_rest : (s : Member) (x : Endpoint) (d : PlainPrefix) → IsResting s x d → IsSeenAtRest (home_of w r usable) x d
  seen_at_rest s x d h = record {
    adv = h.rest.advertised;
    advertised = gathered_is_published w r usable case s h.end.reached h.rest.advertised h.rest.are_advertised;
    common = h.wish.common;
    on_link = its_link s x d h;
    assignment = h.assignment;
    its_own = its_own s x d h.wish h.assignment h.end h.asked.delegated h.of_endpoint h.its_own;
    at_rest =
        subst (λ (node : NodeId). IsAtRest h.rest.advertised node.0 (record (wish_of (home_of w r usable) x d) { common = h.wish.common }) h.assignment) (sym h.end.of_node)
        (subst (λ (wish : Wish). IsAtRest h.rest.advertised s.router.id.0 wish h.assignment) (its_wish s x d h) h.at_rest);
  }

  pub rests_as_seen : (x : Endpoint) (d : PlainPrefix) → Contains (home_of w r usable).endpoints x → Contains (home_of w r usable).used d → IsSeenAtRest (home_of w r usable) x d
  rests_as_seen x d x_in d_in =
      let s = of_end w r case.known usable x x_in in
      seen_at_rest s.0 x d (resting s.0 x d s.1 d_in)
