-- Candidates for the best assignment of a link are what is published there for the delegated prefix, and the greatest
-- key among them is that of the best one.
use Rattle.hn_base.proofs.Names.{◌≡◌, ◌≢◌, ℕ, ◌⊎◌, inl, inr, Option, Some, None, refl, sym, ap, ◌∙◌, subst, rules, unwrap_or, IsTotalOrder, comparing, Less, Equal, Greater, on, ordering_then}
use Rattle.hn_base.proofs.Names.{cases_eq, on_total, tied_itself, key_cmp, PlainPrefix, IsWithin, Overlaps, prefix_cmp}
use Rattle.hn_sound.proofs.Names.{Contains, Ordering, EpId, Key, same_node, key_total, Advertised, Assigned, key_of, IsAdvertisedOnLink, advertised_cmp, IsCandidatePrefix, IsBest, Home, Endpoint}
use Rattle.hn_sound.proofs.Names.{Held, EndpointHasAssignment, HasPublished, advertised, common_link, key_at, Meets, IsHome, OneLink, OnceOnLink, UsedApart, ForUsed, PublishedInside, OneEach}
use Rattle.hn_sound.proofs.Names.{HasNoPublisher}
use Rattle.hn_base.proofs.Keys.{exact_key}
use Rattle.hn_sound.specs.Sound.{IsGreatestOnLink}
use Rattle.hn_sound.proofs.SameOrNot.{same_endpoint, cases_node, cases_id, cases_prefix}
use Rattle.hn_base.proofs.Greatest.{IsGreatestOf, greatest_of}
use Rattle.hn_sound.proofs.FoundOrNone.{find_one}
use Rattle.hn_sound.proofs.AdvertisedAndLinks.{to_advertised, from_advertised, to_common_link, from_common_link}

-- an assignment that is published for a delegated prefix, with its endpoint
pub record Published (home : Home) (d : PlainPrefix) : Type 0 where
  pub endpoint : Endpoint
  pub assigned : Assigned
  pub priority : ℕ
  pub fact : HasPublished home endpoint d assigned priority

-- as it is advertised
abbrev pub advert : {home : Home} {d : PlainPrefix} → Published home d → Advertised
advert x = record { key = key_at x.priority x.endpoint; prefix = x.assigned.prefix }

-- no key that is published on its link is greater
abbrev pub IsTop : {home : Home} {d : PlainPrefix} → Published home d → Type 0
IsTop {home} {d} x = IsGreatestOnLink home x.endpoint d x.assigned x.priority

-- what is advertised on the link of an endpoint is published there, for the delegated prefix
pub record OnLink (home : Home) (f : Endpoint) (d : PlainPrefix) (a : Advertised) : Type 0 where
  pub by : Published home d
  pub link : by.endpoint.link ≡ f.link
  pub is : a ≡ advert by

module _ (home : Home) where
  pub is_advertised : (d : PlainPrefix) (x : Published home d) → Contains (advertised home) (advert x)
  is_advertised d x =
      to_advertised home (advert x) (record {
        held = record { node = x.endpoint.node; assigned = x.assigned };
        there = x.fact.has.held;
        priority = x.priority;
        published = x.fact.published;
        key = ap (λ (id : EpId). key_of x.priority x.endpoint.node.0 id.0) (sym x.fact.has.of_endpoint);
        prefix = refl;
      })

  on_some_link : (f : Endpoint) (a : Advertised) → Contains (advertised home) a → IsAdvertisedOnLink (common_link home f) a → (d : PlainPrefix) × OnLink home f d a
  on_some_link f a advertised on =
      let from = from_advertised home a advertised in
      let at = from_common_link home f a.key.node a.key.endpoint on in
      let node : at.endpoint.node ≡ from.held.node = at.of_node ∙ ap (λ (k : Key). k.node) from.key in
      let id : at.endpoint.id ≡ from.held.assigned.endpoint = at.of_id ∙ ap (λ (k : Key). k.endpoint) from.key in
      let held : from.held ≡ record { node = at.endpoint.node; assigned = from.held.assigned } = λ i. record { node = sym node i; assigned = from.held.assigned } in
      let same_key : key_of from.priority from.held.node.0 from.held.assigned.endpoint.0 ≡ key_at from.priority at.endpoint =
      λ i. record { priority = from.priority; node = sym node i; endpoint = sym id i } in
      let key : a.key ≡ key_at from.priority at.endpoint = from.key ∙ same_key in (
        from.held.assigned.delegated,
        record {
          by = record {
            endpoint = at.endpoint;
            assigned = from.held.assigned;
            priority = from.priority;
            fact = record {
              has = record {
                there = at.there;
                held = subst (Contains home.assignments) held from.there;
                of_endpoint = sym id;
                of_delegated = refl;
              };
              published = from.published;
            };
          };
          link = at.on_link;
          is = λ i. record { key = key i; prefix = from.prefix i };
        },
      )

  pub key_tells : (e f : Endpoint) (p q : ℕ) → Meets home OneLink → Contains home.endpoints e → Contains home.endpoints f → key_cmp (key_at p e) (key_at q f) ≡ Equal → e ≡ f
  key_tells e f p q on_one e_there f_there equal =
      let same = exact_key (key_at p e) (key_at q f) equal in
      let node = ap (λ (k : Key). k.node) same in
      let id = ap (λ (k : Key). k.endpoint) same in
      same_endpoint e f node id (on_one e f e_there f_there node id)

-- ---- the greatest key is the best

module _ (home : Home) (is_home : IsHome home) where
  -- what is published inside a used prefix is for that prefix
  same_delegated : (d other : PlainPrefix) (x : Published home other) → Contains home.used d → IsWithin x.assigned.prefix d → other ≡ d
  same_delegated d other x used within =
      let inside = is_home PublishedInside x.endpoint other x.assigned x.priority x.fact in
      let overlap : Overlaps other d = (x.assigned.prefix.bits, inside x.assigned.prefix.bits refl, within x.assigned.prefix.bits refl) in
      is_home UsedApart other d (is_home ForUsed x.endpoint other x.assigned x.fact.has) used overlap

  -- a candidate is published on the link, for the delegated prefix
  pub from_candidate : (f : Endpoint) (d : PlainPrefix) (a : Advertised) → Contains home.used d → IsCandidatePrefix (advertised home) f.node.0 (common_link home f) d a → OnLink home f d a
  from_candidate f d a used candidate =
      let on = on_some_link home f a candidate.advertised candidate.on_link in
      let within : IsWithin on.1.by.assigned.prefix d = subst (λ (b : Advertised). IsWithin b.prefix d) on.1.is candidate.inside in
      subst (λ other. OnLink home f other a) (same_delegated d on.0 on.1.by used within) on.1

  -- two endpoints of one router on one link are one
  pub one_endpoint : (e f : Endpoint) → Contains home.endpoints e → Contains home.endpoints f → e.node ≡ f.node → e.link ≡ f.link → e ≡ f
  one_endpoint e f e_there f_there node link = same_endpoint e f node (is_home OnceOnLink e f e_there f_there node link) link

  -- what an endpoint publishes is a candidate for each other endpoint of its link
  pub to_candidate : (d : PlainPrefix) (x : Published home d) (f : Endpoint) → Contains home.endpoints f → f.link ≡ x.endpoint.link → f ≢ x.endpoint
      → IsCandidatePrefix (advertised home) f.node.0 (common_link home f) d (advert x)
  to_candidate d x f there link other = record {
    advertised = is_advertised home d x;
    of_another = λ same. other (sym (one_endpoint x.endpoint f x.fact.has.there there (same_node x.endpoint.node f.node same) (sym link)));
    on_link = to_common_link home f x.endpoint.node x.endpoint.id (record { endpoint = x.endpoint; there = x.fact.has.there; on_link = sym link; of_node = refl; of_id = refl });
    inside = is_home PublishedInside x.endpoint d x.assigned x.priority x.fact;
  }

  -- one endpoint publishes one assignment
  pub one_assigned : (d : PlainPrefix) (x y : Published home d) → x.endpoint ≡ y.endpoint → x.assigned ≡ y.assigned
  one_assigned d x y same =
      is_home OneEach x.endpoint d x.assigned y.assigned x.fact.has (subst (λ (e : Endpoint). EndpointHasAssignment home e d y.assigned) (sym same) y.fact.has)

  -- the greatest is not below what is published on the link
  top_not_below : (d : PlainPrefix) (x y : Published home d) → IsTop x → y.endpoint.link ≡ x.endpoint.link → ¬ (advertised_cmp (advert x) (advert y) ≡ Less)
  top_not_below d x y top link less = go (key_cmp (advert x).key (advert y).key) refl less
    where
      go : (r : Ordering) → key_cmp (advert x).key (advert y).key ≡ r → ordering_then r (prefix_cmp x.assigned.prefix y.assigned.prefix) ≡ Less → ⊥
      go Less is _ = top.greatest y.endpoint y.assigned y.priority link y.fact is
      go Greater is now = absurd (cc)
      go Equal is now =
          let same = key_tells home x.endpoint y.endpoint x.priority y.priority (is_home OneLink) x.fact.has.there y.fact.has.there is in
          let one = one_assigned d x y same in
          let prefixes : prefix_cmp x.assigned.prefix x.assigned.prefix ≡ prefix_cmp x.assigned.prefix y.assigned.prefix = ap (λ (c : Assigned). prefix_cmp x.assigned.prefix c.prefix) one in
          let total : IsTotalOrder prefix_cmp = search (comparing, rules) in
          let tied : prefix_cmp x.assigned.prefix y.assigned.prefix ≡ Equal = sym prefixes ∙ tied_itself total x.assigned.prefix in
          absurd (cc)

  pub top_is_best : (d : PlainPrefix) (x : Published home d) (f : Endpoint) → IsTop x → Contains home.endpoints f → f.link ≡ x.endpoint.link
      → f ≢ x.endpoint → IsBest (advertised home) f.node.0 (common_link home f) d (advert x)
  top_is_best d x f top there link other = record {
    candidate = to_candidate d x f there link other;
    greatest = λ a candidate less.
        let on = from_candidate f d a (is_home ForUsed x.endpoint d x.assigned x.fact.has) candidate in
        top_not_below d x on.by top (on.link ∙ link) (subst (λ (b : Advertised). advertised_cmp (advert x) b ≡ Less) on.is less);
  }

-- ---- a link has a greatest key, or nothing is published there

-- an endpoint of the link has the assignment for the delegated prefix, and it is published
record IsOfLink (home : Home) (link : ℕ) (d : PlainPrefix) (h : Held) : Type 0 where
  endpoint : Endpoint
  there : Contains home.endpoints endpoint
  on_link : endpoint.link ≡ link
  of_node : endpoint.node ≡ h.node
  of_endpoint : h.assigned.endpoint ≡ endpoint.id
  of_delegated : h.assigned.delegated ≡ d
  priority : ℕ
  published : h.assigned.published ≡ Some priority

abbrev IsItsEndpoint : ℕ → Held → Endpoint → Type 0
IsItsEndpoint link h e = (e.link ≡ link) × (e.node ≡ h.node) × (h.assigned.endpoint ≡ e.id)

cases_its_endpoint : (link : ℕ) (h : Held) (e : Endpoint) → IsItsEndpoint link h e ⊎ ¬ (IsItsEndpoint link h e)
cases_its_endpoint link h e =
    elim (cases_eq e.link link) [
      | inr differ ↦ inr (λ is. differ is.0)
      | inl of_link ↦
          elim (cases_node e.node h.node) [
            | inr differ ↦ inr (λ is. differ is.1)
            | inl of_node ↦
                elim (cases_id h.assigned.endpoint e.id) [
                  | inr differ ↦ inr (λ is. differ is.2)
                  | inl of_id ↦ inl (of_link, of_node, of_id)
                ]
          ]
    ]

cases_of_link : (home : Home) (link : ℕ) (d : PlainPrefix) (h : Held) → IsOfLink home link d h ⊎ ¬ (IsOfLink home link d h)
cases_of_link home link d h = go h.assigned.published refl
  where
    go : (o : Option ℕ) → h.assigned.published ≡ o → IsOfLink home link d h ⊎ ¬ (IsOfLink home link d h)
    go None is = inr (λ of. let e : None ≡ Some of.priority = sym is ∙ of.published in absurd (cc))
    go (Some p) is =
        elim (cases_prefix h.assigned.delegated d) [
          | inr differ ↦ inr (λ of. differ of.of_delegated)
          | inl of_delegated ↦
              elim (find_one (IsItsEndpoint link h) (cases_its_endpoint link h) home.endpoints) [
                | inr none ↦ inr (λ of. none of.endpoint of.there (of.on_link, of.of_node, of.of_endpoint))
                | inl found ↦ inl (record {
                  endpoint = found.0;
                  there = found.1;
                  on_link = found.2.0;
                  of_node = found.2.1;
                  of_endpoint = found.2.2;
                  of_delegated = of_delegated;
                  priority = p;
                  published = is;
                })
              ]
        ]

abbrev held_key : Held → Key
held_key h = key_of (unwrap_or h.assigned.published 0) h.node.0 h.assigned.endpoint.0

module _ (home : Home) (link : ℕ) (d : PlainPrefix) where
  to_of_link : (x : Published home d) → x.endpoint.link ≡ link → IsOfLink home link d (record { node = x.endpoint.node; assigned = x.assigned })
  to_of_link x on = record {
    endpoint = x.endpoint;
    there = x.fact.has.there;
    on_link = on;
    of_node = refl;
    of_endpoint = x.fact.has.of_endpoint;
    of_delegated = x.fact.has.of_delegated;
    priority = x.priority;
    published = x.fact.published;
  }

  from_of_link : (h : Held) → Contains home.assignments h → IsOfLink home link d h → Published home d
  from_of_link h contained of =
      let is : h ≡ record { node = of.endpoint.node; assigned = h.assigned } = λ i. record { node = sym of.of_node i; assigned = h.assigned } in
      record {
        endpoint = of.endpoint;
        assigned = h.assigned;
        priority = of.priority;
        fact = record {
          has = record { there = of.there; held = subst (Contains home.assignments) is contained; of_endpoint = of.of_endpoint; of_delegated = of.of_delegated };
          published = of.published;
        };
      }

  its_key : (h : Held) (of : IsOfLink home link d h) → held_key h ≡ key_at of.priority of.endpoint
  its_key h of = λ i. record { priority = unwrap_or (of.published i) 0; node = sym of.of_node i; endpoint = of.of_endpoint i }

  from_greatest : (h : Held) → IsGreatestOf (on held_key key_cmp) (IsOfLink home link d) home.assignments h → (x : Published home d) × (x.endpoint.link ≡ link) × IsTop x
  unfolding from_of_link to_of_link
  from_greatest h g =
      let x : Published home d = from_of_link h g.is_in g.fact in (
        x,
        g.fact.on_link,
        record {
          published = x.fact;
          greatest = λ f k q same_link k_published above.
              let y : Published home d = record { endpoint = f; assigned = k; priority = q; fact = k_published } in
              let of = to_of_link y (same_link ∙ g.fact.on_link) in
              let keys : key_cmp (held_key h) (held_key (record { node = f.node; assigned = k })) ≡ key_cmp (advert x).key (advert y).key =
              λ i. key_cmp (its_key h g.fact i) (its_key (record { node = f.node; assigned = k }) of i) in
              g.greatest (record { node = f.node; assigned = k }) k_published.has.held of (keys ∙ above);
        },
      )

  pub top_or_none : ((x : Published home d) × (x.endpoint.link ≡ link) × IsTop x) ⊎ HasNoPublisher home link d
  top_or_none =
      elim (greatest_of (on_total held_key key_total) (IsOfLink home link d) (cases_of_link home link d) home.assignments) [
        | inl found ↦ inl (from_greatest found.0 found.1)
        | inr none ↦ inr (λ e c p on fact.
            let x : Published home d = record { endpoint = e; assigned = c; priority = p; fact = fact } in
            none (record { node = e.node; assigned = c }) fact.has.held (to_of_link x on))
      ]
