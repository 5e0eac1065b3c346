-- The home of a settled and quiet set meets all that is asked of a home.
use Rattle.hn_base.proofs.Names.{◌≡◌, ◌∙◌, ◌≤◌, ℕ, List, Some, Contains, sym, ap, subst, arith, IsTotalOrder, All-contains, slice_get_within, get_or_from_slice_get, IsExact, PlainPrefix, IsWithin}
use Rattle.hn_audit.proofs.Names.{Contains-map, EpId, Assigned, Pair, IsWished, assigned_pair, pair_cmp, Delegated, AreUsable, prefixes_of, UsableIsUnique, UsableNeverOverlap, CommonLinkExists}
use Rattle.hn_audit.proofs.Names.{AssignedIsPublished, OwnPeersAreOfEndpoints, PrivatePostIsAlone, seen_by, Endpoint, EndpointHasAssignment, Member, Parts, IsReached, AreSame, IsQuietByRules, Link, IsPostOn}
use Rattle.hn_audit.proofs.Names.{one_of_ascending}
use Rattle.hn_pair.specs.Facts.{IsInDelegated, HasOwnPriority}
use Rattle.hn_sound.specs.Home.{HasPublished}
use Rattle.hn_sound.specs.Premises.{IsHome}
use Rattle.hn_sound.specs.Premises.Premise.{OneLink, OnceOnLink, UsedApart, ForUsed, PublishedInside, OneEach, PriorityTwo}
use Rattle.hn_audit.specs.Sound as said
use Rattle.hn_audit.proofs.BridgeSets.{IsKnown, OwnVersions, router_of, itself, one_member}
use Rattle.hn_audit.proofs.BridgeUsed.{used_same}
use Rattle.hn_audit.proofs.BridgeHomes.{home_of, number_of, IsEndOf, same_link, of_end, of_has, one_link_of, one_on_link}

-- a settled router of a replayed world, and the delegated prefixes that it uses
pub record IsCase (w : Parts) (r : Member) (usable : List Delegated) : Type 0 where
  pub known : IsKnown w r
  pub are_usable : AreUsable (seen_by r.router) usable
  pub unique : UsableIsUnique
  pub apart : UsableNeverOverlap
  pub published : AssignedIsPublished
  pub versions : OwnVersions
  pub peers : OwnPeersAreOfEndpoints
  pub alone : PrivatePostIsAlone
  pub pairs_total : IsTotalOrder pair_cmp
  pub pairs_exact : IsExact pair_cmp
  pub links : CommonLinkExists

module _ (w : Parts) (r : Member) (usable : List Delegated) (case : IsCase w r usable) where
  -- a router of the set uses what r uses
  pub uses_same : (s : Member) (list : List Delegated) → IsReached w r s → AreUsable (seen_by s.router) list → AreSame list usable
  uses_same s list s_in are =
      used_same case.unique s.router r.router list usable (case.known.settled.used s r s_in (itself w r case.known)) are case.are_usable

  pub for_used : IsQuietByRules w r → (s : Member) (c : Assigned) → IsReached w r s → Contains s.router.held.assigned c → Contains (prefixes_of usable) c.delegated
  for_used quiet s c s_in there =
      let rest = quiet s s_in in
      let wished = All-contains (λ (x : Assigned). IsWished rest.wishes (assigned_pair x)) s.router.held.assigned c rest.wished there in
      let for = (rest.are_asked.exact wished.0).0 wished.1 in
      let u = for.asked.delegated in
      let in_list : Contains rest.usable u = (for.place, slice_get_within rest.usable for.place u for.asked.at, get_or_from_slice_get rest.usable for.place u u for.asked.at) in
      let delegated : u.prefix ≡ c.delegated = sym for.asked.prefix ∙ ap (λ (p : Pair). p.delegated) wished.2 in
      let here : Contains (prefixes_of rest.usable) c.delegated = subst (Contains (prefixes_of rest.usable)) delegated (Contains-map (λ (v : Delegated). v.prefix) rest.usable u in_list) in
      subst (λ (ps : List PlainPrefix). Contains ps c.delegated) (uses_same s rest.usable s_in rest.are_usable).prefixes here

  pub is_inside : (s : Member) (c : Assigned) → IsReached w r s → Contains s.router.held.assigned c → IsWithin c.prefix c.delegated
  is_inside s c s_in there = All-contains IsInDelegated s.router.held.assigned c (router_of w r case.known s s_in).well.pairs.inside there

  has_priority : (s : Member) (c : Assigned) (priority : ℕ) → IsReached w r s → Contains s.router.held.assigned c → c.published ≡ Some priority → priority ≡ 2
  has_priority s c priority s_in there is =
      All-contains HasOwnPriority s.router.held.assigned c (router_of w r case.known s s_in).well.pairs.priority there priority is

  -- ---- endpoints

  -- two endpoints of one node are of one router
  pub one_router : (e f : Endpoint) (m n : Member) → IsEndOf w r m e → IsEndOf w r n f → e.node ≡ f.node → m ≡ n
  one_router e f m n e_end f_end same = one_member w r case.known m n e_end.reached f_end.reached (sym e_end.of_node ∙ (same ∙ f_end.of_node))

  one_link : (e f : Endpoint) → Contains (home_of w r usable).endpoints e → Contains (home_of w r usable).endpoints f → e.node ≡ f.node → e.id ≡ f.id → e.link ≡ f.link
  one_link e f e_there f_there node id =
      let a = of_end w r case.known usable e e_there in
      let b = of_end w r case.known usable f f_there in
      let same : a.0 ≡ b.0 = one_router e f a.0 b.0 a.1 b.1 node in
      let e_on : IsPostOn a.1.link b.0 f.id = subst (λ (x : EpId). IsPostOn a.1.link b.0 x) id (subst (λ (m : Member). IsPostOn a.1.link m e.id) same a.1.on_link) in
      let link : a.1.link ≡ b.1.link = one_link_of a.1.link b.1.link b.0 f.id (router_of w r case.known b.0 b.1.reached) e_on b.1.on_link in
      a.1.number ∙ (ap number_of link ∙ sym b.1.number)

  pub once_on_link : (e f : Endpoint) → Contains (home_of w r usable).endpoints e → Contains (home_of w r usable).endpoints f → e.node ≡ f.node → e.link ≡ f.link → e.id ≡ f.id
  once_on_link e f e_there f_there node link =
      let a = of_end w r case.known usable e e_there in
      let b = of_end w r case.known usable f f_there in
      let same : a.0 ≡ b.0 = one_router e f a.0 b.0 a.1 b.1 node in
      let links : a.1.link ≡ b.1.link =
      same_link w r case.known a.1.link b.1.link a.0 b.0 e.id f.id a.1.reached b.1.reached a.1.on_link b.1.on_link (sym a.1.number ∙ (link ∙ b.1.number)) in
      let e_on : IsPostOn b.1.link b.0 e.id = subst (λ (l : Link). IsPostOn l b.0 e.id) links (subst (λ (m : Member). IsPostOn a.1.link m e.id) same a.1.on_link) in
      one_on_link b.1.link b.0 e.id f.id (case.known.attached b.0 b.1.reached.runs.there) e_on b.1.on_link

  -- ---- assignments

  -- the router whose endpoint has an assignment, and that assignment there
  pub holder : (e : Endpoint) (d : PlainPrefix) (c : Assigned) → EndpointHasAssignment (home_of w r usable) e d c → (m : Member) × IsEndOf w r m e × said.HasAssignment m.router e.id d c
  holder e d c has =
      let a = of_end w r case.known usable e has.there in
      (a.0, a.1, of_has w r case.known usable a.0 e d c a.1 has)

  each_for_used : IsQuietByRules w r → (e : Endpoint) (d : PlainPrefix) (c : Assigned) → EndpointHasAssignment (home_of w r usable) e d c → Contains (prefixes_of usable) d
  each_for_used quiet e d c has =
      let by = holder e d c has in
      subst (Contains (prefixes_of usable)) by.2.of_delegated (for_used quiet by.0 c by.1.reached by.2.held)

  published_inside : (e : Endpoint) (d : PlainPrefix) (c : Assigned) (priority : ℕ) → HasPublished (home_of w r usable) e d c priority → IsWithin c.prefix d
  published_inside e d c priority says =
      let by = holder e d c says.has in
      subst (IsWithin c.prefix) by.2.of_delegated (is_inside by.0 c by.1.reached by.2.held)

  one_each : (e : Endpoint) (d : PlainPrefix) (c other : Assigned) → EndpointHasAssignment (home_of w r usable) e d c → EndpointHasAssignment (home_of w r usable) e d other → c ≡ other
  one_each e d c other has also =
      let by = holder e d c has in
      let too = of_has w r case.known usable by.0 e d other by.1 also in
      let pairs : assigned_pair c ≡ assigned_pair other =
      λ i. record { delegated = (by.2.of_delegated ∙ sym too.of_delegated) i; endpoint = (by.2.of_endpoint ∙ sym too.of_endpoint) i } in
      one_of_ascending assigned_pair pair_cmp case.pairs_total by.0.router.held.assigned (router_of w r case.known by.0 by.1.reached).well.pairs.assigned c other by.2.held too.held pairs

  priority_two : (e : Endpoint) (d : PlainPrefix) (c : Assigned) (priority : ℕ) → HasPublished (home_of w r usable) e d c priority → 2 ≤ priority
  priority_two e d c priority says =
      let by = holder e d c says.has in
      let is : priority ≡ 2 = has_priority by.0 c priority by.1.reached by.2.held says.published in
      omega arith

  pub is_home : IsQuietByRules w r → IsHome (home_of w r usable)
  is_home quiet OneLink = one_link
  is_home quiet OnceOnLink = once_on_link
  is_home quiet UsedApart = λ d other there also. case.apart (seen_by r.router) usable d other case.are_usable there also
  is_home quiet ForUsed = each_for_used quiet
  is_home quiet PublishedInside = published_inside
  is_home quiet OneEach = one_each
  is_home quiet PriorityTwo = priority_two
