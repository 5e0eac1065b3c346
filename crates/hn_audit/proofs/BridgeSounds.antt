-- What is sound of the home of a settled and quiet set is sound of its routers.
use Rattle.hn_base.proofs.Names.{◌≡◌, ◌≢◌, ◌∙◌, ◌⊎◌, ℕ, List, Option, None, Some, IsSome, is_some, Contains, IsTrue, not, inl, inr, refl, sym, ap, subst, true, false, cases_Bool, not_from_false}
use Rattle.hn_base.proofs.Names.{PlainPrefix, IsWithin, Overlaps}
use Rattle.hn_audit.proofs.Names.{slice_get, EpId, Assigned, Delegated, prefixes_of, length_at, seen_by, Endpoint, AdvertisedIsExact, Member, Parts, IsReached, IsQuietByRules, AreSame, UsesByRules, Link, Joint}
use Rattle.hn_audit.proofs.Names.{Private, IsPostOn, IsThereByRules, IsServedLink, IsWithout, IsHeldOn}
use Rattle.hn_assign.specs.Best.{HasNoFree}
use Rattle.hn_sound.specs.Home.{advertised}
use Rattle.hn_sound.specs.Sound as home
use Rattle.hn_audit.specs.Sound.{DoesNotWantByRules, SeesNoFreeByRules}
use Rattle.hn_audit.proofs.BridgeSets.{IsKnown, one_member}
use Rattle.hn_audit.proofs.BridgeUsed.{is_unwanted, to_unwanted, place_of, delegated_at}
use Rattle.hn_audit.proofs.BridgeHomes.{home_of, set_of, number_of, end_on, length_in, length_is, IsEndOf, same_link, an_end, end_there, of_end, to_has, of_has}
use Rattle.hn_audit.proofs.BridgePremises.{IsCase, uses_same, for_used, is_inside}
use Rattle.hn_audit.proofs.BridgeSeen.{gathered_is_published}

its_priority : (o : Option ℕ) → IsSome o → (priority : ℕ) × (o ≡ Some priority)
its_priority (Some p) some = (p, refl)
its_priority None some = absurd (cc)

-- on a link of a settled set are routers of the set alone
pub reached_there : (w : Parts) (r : Member) → IsKnown w r → (link : Link) (s : Member) (e : EpId) → IsThereByRules w r link s e → IsReached w r s
reached_there w r known (Joint place) s e there =
    let set = there.of_set in
    known.settled.no_strangers s set.router e set.post there.runs set.reached (record { link = place; one = there.on_link.1; other = set.on_link.1 })
reached_there w r known (Private n) s e there =
    let set = there.of_set in
    subst (IsReached w r) (set.on_link.0 ∙ sym there.on_link.0) set.reached

to_there : (w : Parts) (r : Member) (link : Link) (s : Member) (e : EpId) → IsReached w r s → IsPostOn link s e → IsThereByRules w r link s e
to_there w r link s e reached on = record {
  runs = reached.runs;
  on_link = on;
  of_set = record { router = s; reached = reached; post = e; on_link = on };
}

-- a post that is there is one of the home
pub there_end : (w : Parts) (r : Member) → IsKnown w r → (link : Link) (s : Member) (e : EpId) → IsThereByRules w r link s e → IsEndOf w r s (end_on link s e)
there_end w r known link s e there = an_end w r known link s e (reached_there w r known link s e there) there.on_link

module _ (w : Parts) (r : Member) (usable : List Delegated) (case : IsCase w r usable) (quiet : IsQuietByRules w r)
    (exact : AdvertisedIsExact) (is_sound : home.IsSoundHome (home_of w r usable)) where
  -- ---- used prefixes, and those inside them

  in_used : (d : PlainPrefix) → UsesByRules r.router d → Contains (prefixes_of usable) d
  in_used d uses = subst (λ (list : List Delegated). Contains (prefixes_of list) d) (case.unique (seen_by r.router) uses.usable usable uses.are_usable case.are_usable) uses.there

  pub inside : (s : Member) (c : Assigned) → IsReached w r s → Contains s.router.held.assigned c → UsesByRules r.router c.delegated × IsWithin c.prefix c.delegated
  inside s c s_in there = (
    record { usable = usable; are_usable = case.are_usable; there = for_used w r usable case quiet s c s_in there },
    is_inside w r usable case s c s_in there,
  )

  -- ---- a link that is served

  in_home : (link : Link) (s : Member) (e : EpId) → IsThereByRules w r link s e → Contains (home_of w r usable).endpoints (end_on link s e)
  in_home link s e there = end_there w r case.known usable s (end_on link s e) (there_end w r case.known link s e there)

  served : (link : Link) (t : Member) (f : EpId) (d : PlainPrefix) → IsThereByRules w r link t f → home.IsLinkServed (home_of w r usable) (number_of link) d → IsServedLink w r link d
  served link t f d here is =
      let by = of_end w r case.known usable is.publisher is.published.has.there in
      let link_is : by.1.link ≡ link =
      same_link w r case.known by.1.link link by.0 t is.publisher.id f by.1.reached (reached_there w r case.known link t f here) by.1.on_link here.on_link (sym by.1.number ∙ is.on_link) in
      record {
        every = λ s e there.
            let found = is.every (end_on link s e) (in_home link s e there) refl in
            (found.0, of_has w r case.known usable s (end_on link s e) d found.0 (there_end w r case.known link s e there) found.1);
        prefix = is.prefix;
        one_prefix = λ s e c there has. is.one_prefix (end_on link s e) c refl (to_has w r case.known usable s (end_on link s e) d c (there_end w r case.known link s e there) has);
        publisher = by.0;
        post = is.publisher.id;
        there = to_there w r link by.0 is.publisher.id by.1.reached (subst (λ (l : Link). IsPostOn l by.0 is.publisher.id) link_is by.1.on_link);
        assignment = is.assignment;
        has = of_has w r case.known usable by.0 is.publisher d is.assignment by.1 is.published.has;
        published = ap (λ (o : Option ℕ). is_some o) is.published.published;
        no_other = λ s e c there has some.
            let has_too = to_has w r case.known usable s (end_on link s e) d c (there_end w r case.known link s e there) has in
            let priority = its_priority c.published some in
            let same = is.no_other (end_on link s e) c priority.0 refl (record { has = has_too; published = priority.1 }) in
            let node : s.router.id ≡ by.0.router.id = ap (λ (x : Endpoint). x.node) same.0 ∙ by.1.of_node in
            (one_member w r case.known s by.0 (reached_there w r case.known link s e there) by.1.reached node, ap (λ (x : Endpoint). x.id) same.0, same.1);
      }

  -- ---- a link that has no use of it

  does_not_want : (s : Member) (d : PlainPrefix) → IsReached w r s → Contains (prefixes_of usable) d → ¬ (IsTrue (not (is_unwanted usable d))) → DoesNotWantByRules s.router d
  does_not_want s d s_in d_in unwanted =
      let rest = quiet s s_in in
      let same : AreSame rest.usable usable = uses_same w r usable case s rest.usable s_in rest.are_usable in
      let at = place_of usable d d_in in
      let here = delegated_at usable d at.0 at.1 in
      let is : is_unwanted usable here.0.prefix ≡ true =
      elim (cases_Bool (is_unwanted usable here.0.prefix)) [
        | inl yes' ↦ yes'
        | inr no' ↦ absurd (unwanted (not_from_false (is_unwanted usable d) (subst (λ (p : PlainPrefix). is_unwanted usable p ≡ false) here.2 no')))
      ] in
      record {
        usable = rest.usable;
        are_usable = rest.are_usable;
        place = at.0;
        at = ap (λ (ps : List PlainPrefix). slice_get ps at.0) same.prefixes ∙ at.1;
        unwanted = (same.wanted at.0).1 (to_unwanted usable case.are_usable.ascending at.0 here.0 here.1 is);
      }

  sees_no_free : (link : Link) (s : Member) (e : EpId) (d : PlainPrefix) → IsThereByRules w r link s e
      → HasNoFree (advertised (home_of w r usable)) d (length_in (set_of w r) (end_on link s e)) → SeesNoFreeByRules s.router e d
  sees_no_free link s e d there none =
      let s_in = reached_there w r case.known link s e there in
      let rest = quiet s s_in in
      let length : length_in (set_of w r) (end_on link s e) ≡ length_at s.router.private e = length_is w r case.known s (end_on link s e) (there_end w r case.known link s e there) in
      let nothing : HasNoFree (advertised (home_of w r usable)) d (length_at s.router.private e) = subst (HasNoFree (advertised (home_of w r usable)) d) length none in
      record {
        advertised = rest.advertised;
        are_advertised = rest.are_advertised;
        none_free = λ p free. nothing p (record {
          inside = free.inside;
          free = λ a there. free.free a ((gathered_is_published w r usable case s s_in rest.advertised rest.are_advertised a).1 ((exact (home_of w r usable) a).0 there));
        });
      }

  without : (link : Link) (d : PlainPrefix) → Contains (prefixes_of usable) d → home.IsLinkWithout (home_of w r usable) (number_of link) d → IsWithout w r link d
  without link d d_in is = record {
    none = λ s e c there has. is.none (end_on link s e) c refl (to_has w r case.known usable s (end_on link s e) d c (there_end w r case.known link s e there) has);
    no_use = λ s e there. elim (is.no_use (end_on link s e) (in_home link s e there) refl) [
      | inl unwanted ↦ inl (does_not_want s d (reached_there w r case.known link s e there) d_in unwanted)
      | inr none ↦ inr (sees_no_free link s e d there none)
    ];
  }

  pub each_link : (link : Link) (s : Member) (e : EpId) (d : PlainPrefix) → IsThereByRules w r link s e → UsesByRules r.router d → IsServedLink w r link d ⊎ IsWithout w r link d
  each_link link s e d there uses =
      elim (is_sound.each_link (end_on link s e) d (in_home link s e there) (in_used d uses)) [
        | inl is ↦ inl (served link s e d there is)
        | inr is ↦ inr (without link d (in_used d uses) is)
      ]

  -- ---- prefixes of different links

  pub links_apart : (link other : Link) (p q : PlainPrefix) → IsHeldOn w r link p → IsHeldOn w r other q → link ≢ other → ¬ (Overlaps p q)
  links_apart link other p q one two differ overlap =
      let c = one.assignment in
      let k = two.assignment in
      let c_end = there_end w r case.known link one.router c.endpoint one.there in
      let k_end = there_end w r case.known other two.router k.endpoint two.there in
      let c_has = to_has w r case.known usable one.router (end_on link one.router c.endpoint) c.delegated c c_end
      (record { held = one.held; of_endpoint = refl; of_delegated = refl }) in
      let k_has = to_has w r case.known usable two.router (end_on other two.router k.endpoint) k.delegated k k_end
      (record { held = two.held; of_endpoint = refl; of_delegated = refl }) in
      is_sound.links_apart (end_on link one.router c.endpoint) (end_on other two.router k.endpoint) c.delegated k.delegated c k c_has k_has
      (λ same. differ (same_link w r case.known link other one.router two.router c.endpoint k.endpoint c_end.reached k_end.reached one.there.on_link two.there.on_link same))
      (subst (λ (x : PlainPrefix). Overlaps x k.prefix) (sym one.prefix) (subst (Overlaps p) (sym two.prefix) overlap))
