-- What a router of a settled set knows of the assignments and of the links of the set is how they are.
use Rattle.hn_base.proofs.Names.{◌≡◌, ◌∙◌, ◌↔◌, ◌⊎◌, ◌<◌, ℕ, List, Option, Some, None, Contains, inl, inr, refl, sym, ap, subst, option_map, cases_eq, same_Some, plain_caps}
use Rattle.hn_audit.proofs.Names.{same_node, same_id, NodeId, EpId, Advertised, Assigned, IsLinked, HasPeer, peer_link, Entry, Delegated, IsOnCommonLink, view_of, seen_by, Endpoint, IsOnLinkOf}
use Rattle.hn_audit.proofs.Names.{Member, Parts, link_of, IsReached, AreOnOneLink, AreLinkedByRules, IsSameEndpoint, Link, Joint, Private, IsPostOn, in_filter_map, from_filter_map}
use Rattle.hn_assign.specs.Gathered as gathered
use Rattle.hn_data.specs.Said.{HasAssigned, HasVersion}
use Rattle.hn_data.specs.declared.said.AssignedPrefix.{AssignedPrefix}
use Rattle.hn_link.specs.CommonLink.{IsLinkedWithOwn}
use Rattle.hn_own.specs.HeldPairs.{publication_of}
use Rattle.hn_sound.specs.Members.{IsAdvertisedInHome}
use Rattle.hn_audit.proofs.BridgeSets.{router_of, one_member, in_view, of_view}
use Rattle.hn_audit.proofs.BridgeHomes.{home_of, number_of, end_on, IsEndOf, same_link, to_end, of_end, end_there, to_held, of_held, port_is_numbered, on_link_is_attached}
use Rattle.hn_audit.proofs.BridgePremises.{IsCase}

-- ---- what is published of an assignment

abbrev said_by : Advertised → AssignedPrefix
said_by a = record { endpoint = a.key.endpoint; priority = a.key.priority; prefix = a.prefix }

-- the assignment is published as it is advertised
record IsPublishedAs (c : Assigned) (a : Advertised) : Type 0 where
  published : c.published ≡ Some a.key.priority
  endpoint : a.key.endpoint ≡ c.endpoint
  prefix : a.prefix ≡ c.prefix

published_as : (c : Assigned) (a : Advertised) → publication_of c ≡ Some (said_by a) → IsPublishedAs c a
published_as c a is = go c.published refl is
  where
    go : (o : Option ℕ) → c.published ≡ o → option_map (λ (priority : ℕ). record { endpoint = c.endpoint; priority = priority; prefix = c.prefix }) o ≡ Some (said_by a) → IsPublishedAs c a
    go None at e = absurd cc
    go (Some priority) at e =
        let says : AssignedPrefix = record { endpoint = c.endpoint; priority = priority; prefix = c.prefix } in
        let same : says ≡ said_by a = same_Some says (said_by a) e in
        record {
          published = at ∙ ap Some (ap (λ (s : AssignedPrefix). s.priority) same);
          endpoint = sym (ap (λ (s : AssignedPrefix). s.endpoint) same);
          prefix = sym (ap (λ (s : AssignedPrefix). s.prefix) same);
        }

as_published : (c : Assigned) (a : Advertised) → IsPublishedAs c a → publication_of c ≡ Some (said_by a)
as_published c a is =
    let same : record { endpoint = c.endpoint; priority = a.key.priority; prefix = c.prefix } ≡ said_by a =
    λ i. record { endpoint = sym is.endpoint i; priority = a.key.priority; prefix = sym is.prefix i } in
    ap (option_map (λ (priority : ℕ). record { endpoint = c.endpoint; priority = priority; prefix = c.prefix })) is.published ∙ ap Some same

module _ (w : Parts) (r : Member) (usable : List Delegated) (case : IsCase w r usable) (s : Member) (s_in : IsReached w r s) where
  -- ---- the advertised prefixes

  of_other : (a : Advertised) (n : Entry) → Contains (view_of s.router) n → gathered.IsOfOther s.router.id.0 n a → IsAdvertisedInHome (home_of w r usable) a
  of_other a n there other =
      let u = of_view w r case.known s n s_in there in
      let says : HasAssigned u.0.router.own.body (said_by a) = subst (λ (body : List ℕ). HasAssigned body (said_by a)) u.2.body other.says.assigned in
      let from = from_filter_map publication_of u.0.router.held.assigned (said_by a) ((case.published u.0.router (said_by a) (router_of w r case.known u.0 u.1)).0 says) in
      let is = published_as from.0 a from.2 in
      record {
        held = record { node = u.0.router.id; assigned = from.0 };
        there = to_held w r case.known usable u.0 from.0 u.1 from.1;
        priority = a.key.priority;
        published = is.published;
        key = λ i. record { priority = a.key.priority; node = (other.says.node ∙ u.2.id) i; endpoint = is.endpoint i };
        prefix = is.prefix;
      }

  of_own : (a : Advertised) (c : Assigned) → Contains s.router.held.assigned c → gathered.IsOwn s.router.id.0 c a → IsAdvertisedInHome (home_of w r usable) a
  of_own a c there own = record {
    held = record { node = s.router.id; assigned = c };
    there = to_held w r case.known usable s c s_in there;
    priority = own.priority;
    published = own.published;
    key = ap (λ (b : Advertised). b.key) own.is;
    prefix = ap (λ (b : Advertised). b.prefix) own.is;
  }

  -- one of the set publishes it
  record IsBy (a : Advertised) (u : Member) (c : Assigned) : Type 0 where
    reached : IsReached w r u
    held : Contains u.router.held.assigned c
    node : a.key.node ≡ u.router.id
    says : IsPublishedAs c a

  advertised_by : (a : Advertised) → IsAdvertisedInHome (home_of w r usable) a → (u : Member) × (c : Assigned) × IsBy a u c
  advertised_by a from =
      let by = of_held w r case.known usable from.held from.there in (
        by.0,
        from.held.assigned,
        record {
          reached = by.1.reached;
          held = by.1.held;
          node = ap (λ k. k.node) from.key ∙ by.1.of_node;
          says = record {
            published = from.published ∙ ap Some (sym (ap (λ k. k.priority) from.key));
            endpoint = ap (λ k. k.endpoint) from.key;
            prefix = from.prefix;
          };
        },
      )

  to_other : (a : Advertised) (u : Member) (c : Assigned) → IsBy a u c → (u.router.id.0 ≡ s.router.id.0 → ⊥) → gathered.IsAdvertised (seen_by s.router) s.router.held.assigned a
  to_other a u c by differs =
      let n = in_view w r case.known s u s_in by.reached in
      let router = router_of w r case.known u by.reached in
      let says : HasAssigned u.router.own.body (said_by a) =
      (case.published u.router (said_by a) router).1 (in_filter_map publication_of u.router.held.assigned c (said_by a) by.held (as_published c a by.says)) in
      inl (
        n.0,
        n.1,
        record {
          another = λ same. differs (sym (ap (λ (id : NodeId). id.0) n.2.id) ∙ same);
          version = subst HasVersion (sym n.2.body) (plain_caps u.router.own.items.caps, case.versions u.router router);
          says = record { node = by.node ∙ sym n.2.id; assigned = subst (λ (body : List ℕ). HasAssigned body (said_by a)) (sym n.2.body) says };
        },
      )

  to_own : (a : Advertised) (u : Member) (c : Assigned) → IsBy a u c → u.router.id.0 ≡ s.router.id.0 → gathered.IsAdvertised (seen_by s.router) s.router.held.assigned a
  to_own a u c by is =
      let id : u.router.id ≡ s.router.id = same_node u.router.id s.router.id is in
      let same : u ≡ s = one_member w r case.known u s by.reached s_in id in
      inr (
        c,
        subst (λ (m : Member). Contains m.router.held.assigned c) same by.held,
        record {
          priority = a.key.priority;
          published = by.says.published;
          is = λ i. record { key = record { priority = a.key.priority; node = (by.node ∙ id) i; endpoint = by.says.endpoint i }; prefix = by.says.prefix i };
        },
      )

  pub gathered_is_published : (list : List Advertised) → gathered.AreAdvertised (seen_by s.router) s.router.held.assigned list → (a : Advertised)
      → Contains list a ↔ IsAdvertisedInHome (home_of w r usable) a
  gathered_is_published list are a = (
    λ there. elim ((are a).0 there) [
      | inl other ↦ of_other a other.0 other.1 other.2
      | inr own ↦ of_own a own.0 own.1 own.2
    ],
    λ from.
        let by = advertised_by a from in
        (are a).1 (elim (cases_eq by.0.router.id.0 s.router.id.0) [
          | inl is ↦ to_own a by.0 by.1 by.2 is
          | inr differs ↦ to_other a by.0 by.1 by.2 differs
        ]),
  )

  -- ---- the Common Link

  same_or_not : (e : EpId) (u : Member) (f : EpId) → IsSameEndpoint s.router e u.router f ⊎ ¬ (IsSameEndpoint s.router e u.router f)
  same_or_not e u f =
      elim (cases_eq s.router.id.0 u.router.id.0) [
        | inl id ↦
            elim (cases_eq e.0 f.0) [
              | inl ep ↦ inl (same_node s.router.id u.router.id id, same_id e f ep)
              | inr differs ↦ inr (λ same. differs (ap (λ (x : EpId). x.0) same.1))
            ]
        | inr differs ↦ inr (λ same. differs (ap (λ (x : NodeId). x.0) same.0))
      ]

  linked_in_view : (e f : EpId) (u : Member) → IsReached w r u → AreLinkedByRules s.router e u.router f → IsLinkedWithOwn (seen_by s.router) e.0 u.router.id.0 f.0
  linked_in_view e f u u_in linked =
      let own = in_view w r case.known s s s_in s_in in
      let node = in_view w r case.known s u s_in u_in in
      record {
        own = own.0;
        own_there = own.1;
        own_is = ap (λ (x : NodeId). x.0) own.2.id;
        node = node.0;
        node_there = node.1;
        node_is = ap (λ (x : NodeId). x.0) node.2.id;
        linked =
            subst (λ (body : List ℕ). IsLinked body s.router.id.0 e.0 node.0.body u.router.id.0 f.0) (sym own.2.body)
            (subst (λ (body : List ℕ). IsLinked s.router.own.body s.router.id.0 e.0 body u.router.id.0 f.0) (sym node.2.body) linked);
      }

  view_linked : (e f : EpId) (y : NodeId) → IsLinkedWithOwn (seen_by s.router) e.0 y.0 f.0 → (u : Member) × IsReached w r u × (u.router.id ≡ y) × AreLinkedByRules s.router e u.router f
  view_linked e f y at =
      let own = of_view w r case.known s at.own s_in at.own_there in
      let node = of_view w r case.known s at.node s_in at.node_there in
      let itself : own.0 ≡ s = one_member w r case.known own.0 s own.1 s_in (sym own.2.id ∙ same_node at.own.id s.router.id at.own_is) in
      let own_body : at.own.body ≡ s.router.own.body = own.2.body ∙ ap (λ (m : Member). m.router.own.body) itself in
      let id : node.0.router.id ≡ y = sym node.2.id ∙ same_node at.node.id y at.node_is in (
        node.0,
        node.1,
        id,
        subst (λ (x : NodeId). IsLinked s.router.own.body s.router.id.0 e.0 node.0.router.own.body x.0 f.0) (sym id)
            (subst (λ (body : List ℕ). IsLinked s.router.own.body s.router.id.0 e.0 body y.0 f.0) node.2.body
            (subst (λ (body : List ℕ). IsLinked body s.router.id.0 e.0 at.node.body y.0 f.0) own_body at.linked)),
      )

  module _ (x : Endpoint) (x_end : IsEndOf w r s x) where
    own_on_link : (node : NodeId) (id : EpId) → node ≡ s.router.id → id ≡ x.id → IsOnLinkOf (home_of w r usable) x node id
    own_on_link node id node_is id_is = record { endpoint = x; there = end_there w r case.known usable s x x_end; on_link = refl; of_node = x_end.of_node ∙ sym node_is; of_id = sym id_is }

    other_on_link : (place : ℕ) (u : Member) (f : EpId) → x_end.link ≡ Joint place → IsReached w r u → 0 < f.0 → AreOnOneLink s x.id u f → IsOnLinkOf (home_of w r usable) x u.router.id f
    other_on_link place u f is u_in positive one =
        let on : IsPostOn (Joint place) s x.id = subst (λ (l : Link). IsPostOn l s x.id) is x_end.on_link in
        let same : one.link ≡ place = same_Some one.link place (sym one.one ∙ on.1) in
        let other : link_of f u ≡ Some place = one.other ∙ ap Some same in
        record {
          endpoint = end_on (Joint place) u f;
          there = to_end w r case.known usable (Joint place) u f u_in (on_link_is_attached u f place (case.known.attached u u_in.runs.there) positive other, other);
          on_link = ap number_of (sym is) ∙ sym x_end.number;
          of_node = refl;
          of_id = refl;
        }

    -- an endpoint that has a peer is one of its router
    linked_is_numbered : (f : EpId) (u : Member) → IsReached w r u → HasPeer u.router.own.body (peer_link s.router.id.0 x.id.0 f.0) → 0 < f.0
    linked_is_numbered f u u_in has =
        let router = router_of w r case.known u u_in in
        port_is_numbered u f router (case.peers u.router (peer_link s.router.id.0 x.id.0 f.0) router has)

    -- an attached endpoint and one that is linked with it are on one link
    from_linked : (place : ℕ) (node : NodeId) (id : EpId) → x_end.link ≡ Joint place → IsLinkedWithOwn (seen_by s.router) x.id.0 node.0 id.0 → IsOnLinkOf (home_of w r usable) x node id
    from_linked place node id is linked =
        let by = view_linked x.id id node linked in
        subst (λ (n : NodeId). IsOnLinkOf (home_of w r usable) x n id) by.2 (
        elim (same_or_not x.id by.0 id) [
          | inl same ↦ own_on_link by.0.router.id id (sym same.0) (sym same.1)
          | inr differ ↦ other_on_link place by.0 id is by.1 (linked_is_numbered id by.0 by.1 by.3.back) ((case.known.settled.linked s by.0 x.id id s_in by.1 differ).0 by.3)
        ]
        )

    -- and the private post is alone
    from_own : (n : Member) (node : NodeId) (id : EpId) → x_end.link ≡ Private n → IsOnCommonLink (seen_by s.router) x.id.0 (node, id) → IsOnLinkOf (home_of w r usable) x node id
    from_own n node id is common =
        let on : IsPostOn (Private n) s x.id = subst (λ (l : Link). IsPostOn l s x.id) is x_end.on_link in
        let alone = case.alone s.router (node, id) (router_of w r case.known s s_in) (subst (λ (e : EpId). IsOnCommonLink (seen_by s.router) e.0 (node, id)) on.1 common) in
        own_on_link node id alone.0 (alone.1 ∙ sym on.1)

    from_common : (node : NodeId) (id : EpId) → IsOnCommonLink (seen_by s.router) x.id.0 (node, id) → IsOnLinkOf (home_of w r usable) x node id
    from_common node id common = go x_end.link refl common
      where
        go : (link : Link) → x_end.link ≡ link → IsOnCommonLink (seen_by s.router) x.id.0 (node, id) → IsOnLinkOf (home_of w r usable) x node id
        go (Private n) is common = from_own n node id is common
        go (Joint place) is (inl own) = own_on_link node id (same_node node s.router.id own.own) (same_id id x.id own.endpoint)
        go (Joint place) is (inr linked) = from_linked place node id is linked

    -- posts of two routers that are on one link are endpoints on one, unless they are one post
    both_on_link : (link : Link) (u : Member) (f : EpId) → ¬ (IsSameEndpoint s.router x.id u.router f) → IsPostOn link s x.id → IsPostOn link u f → AreOnOneLink s x.id u f
    both_on_link (Joint place) u f differ one two = record { link = place; one = one.1; other = two.1 }
    both_on_link (Private n) u f differ one two =
        absurd (differ (ap (λ (m : Member). m.router.id) (one.0 ∙ sym two.0), one.1 ∙ sym two.1))

    to_common : (node : NodeId) (id : EpId) → IsOnLinkOf (home_of w r usable) x node id → IsOnCommonLink (seen_by s.router) x.id.0 (node, id)
    to_common node id on =
        let u = of_end w r case.known usable on.endpoint on.there in
        let is : u.0.router.id ≡ node = sym u.1.of_node ∙ on.of_node in
        let f = on.endpoint.id in
        subst (λ (n : NodeId). IsOnCommonLink (seen_by s.router) x.id.0 (n, id)) is (
        subst (λ (g : EpId). IsOnCommonLink (seen_by s.router) x.id.0 (u.0.router.id, g)) on.of_id (
        elim (same_or_not x.id u.0 f) [
          | inl same ↦ inl (record { own = ap (λ (n : NodeId). n.0) (sym same.0); endpoint = ap (λ (g : EpId). g.0) (sym same.1) })
          | inr differ ↦
              let links : u.1.link ≡ x_end.link =
              same_link w r case.known u.1.link x_end.link u.0 s f x.id u.1.reached s_in u.1.on_link x_end.on_link (sym u.1.number ∙ (on.on_link ∙ x_end.number)) in
              let both = both_on_link x_end.link u.0 f differ x_end.on_link (subst (λ (l : Link). IsPostOn l u.0 f) links u.1.on_link) in
              inr (linked_in_view x.id f u.0 u.1.reached ((case.known.settled.linked s u.0 x.id f s_in u.1.reached differ).1 both))
        ]
        )
        )

    -- the Common Link of a post is the posts of the set on its link
    pub common_is_link : (node : NodeId) (id : EpId) → IsOnCommonLink (seen_by s.router) x.id.0 (node, id) ↔ IsOnLinkOf (home_of w r usable) x node id
    common_is_link node id = (from_common node id, to_common node id)
