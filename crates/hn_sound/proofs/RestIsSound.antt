-- In a home at rest what is published on different links does not overlap; and so a home at rest is sound.
use Rattle.hn_base.proofs.Names.{◌≡◌, ◌≢◌, ℕ, ◌<◌, ◌≤◌, inl, inr, Some, None, refl, sym, ap, ◌∙◌, subst, arith, Less, Equal, Greater, nat_cmp, ordering_then, cases_lt, lt-ltb, cond-true, key_cmp}
use Rattle.hn_base.proofs.Names.{IsAbove, PlainPrefix, IsWithin, Overlaps}
use Rattle.hn_sound.proofs.Names.{Contains, Ordering, EpId, Key, key_total, Assigned, key_of, IsAdvertisedOnLink, IsValid, IsAtRest, IsHomeAtRest, Home, Endpoint, EndpointHasAssignment, advertised}
use Rattle.hn_sound.proofs.Names.{common_link, wish_of, key_at, IsHome, OneLink, ForUsed, PublishedInside, OneEach, PriorityTwo, HasNoPublisher, IsLinkServed, IsSoundHome}
use Rattle.hn_sound.specs.Sound.{IsLinkWithout}
use Rattle.hn_sound.proofs.GreatestIsBest.{Published, advert, is_advertised, key_tells, top_or_none}
use Rattle.hn_sound.proofs.OnePublisher.{assignment_rests, one_publisher, not_beside_best, every_follows, none_without_publisher}
use Rattle.hn_sound.proofs.AdvertisedAndLinks.{from_common_link}

-- ---- keys neither of which is above the other's with priority 2

priority_above : (e f : Endpoint) (q : ℕ) → 2 < q → IsAbove (key_at q f) (key_at 2 e)
priority_above e f q more =
    let less : nat_cmp 2 q ≡ Less = cond-true _ _ _ (lt-ltb 2 q more) in
    ap (λ r. ordering_then r (ordering_then (nat_cmp e.node.0 f.node.0) (nat_cmp e.id.0 f.id.0))) less

is_two : (e f : Endpoint) (q : ℕ) → 2 ≤ q → ¬ (IsAbove (key_at q f) (key_at 2 e)) → q ≡ 2
is_two e f q low not_higher =
    elim (cases_lt 2 q) [
      | inl more ↦ absurd (not_higher (priority_above e f q more))
      | inr most ↦ omega arith
    ]

tied : (a b : Key) → ¬ (IsAbove a b) → ¬ (IsAbove b a) → key_cmp a b ≡ Equal
tied a b not_a not_b = go (key_cmp a b) refl
  where
    go : (r : Ordering) → key_cmp a b ≡ r → key_cmp a b ≡ Equal
    go Less is = absurd (not_b is)
    go Equal is = is
    go Greater is = absurd (not_a (key_total.antisymm b a ∙ (let back = is in cc)))

both_two : (e f : Endpoint) (p q : ℕ) → 2 ≤ p → 2 ≤ q → ¬ (IsAbove (key_at q f) (key_at 2 e)) → ¬ (IsAbove (key_at p e) (key_at 2 f)) → key_cmp (key_at 2 e) (key_at 2 f) ≡ Equal
both_two e f p q low_p low_q not_f not_e =
    let not_f_2 : ¬ (IsAbove (key_at 2 f) (key_at 2 e)) = subst (λ n. ¬ (IsAbove (key_at n f) (key_at 2 e))) (is_two e f q low_q not_f) not_f in
    let not_e_2 : ¬ (IsAbove (key_at 2 e) (key_at 2 f)) = subst (λ n. ¬ (IsAbove (key_at n e) (key_at 2 f))) (is_two f e p low_p not_e) not_e in
    tied (key_at 2 e) (key_at 2 f) not_e_2 not_f_2

module _ (home : Home) (is_home : IsHome home) (at_rest : IsHomeAtRest home) where
  -- ---- different links

  -- what is published is valid
  valid : (d : PlainPrefix) (x : Published home d) → IsValid (advertised home) x.endpoint.node.0 (common_link home x.endpoint) x.assigned
  valid d x = go (assignment_rests home is_home at_rest x.endpoint d x.assigned x.fact.has)
    where
      go : IsAtRest (advertised home) x.endpoint.node.0 (wish_of home x.endpoint d) (Some x.assigned) → IsValid (advertised home) x.endpoint.node.0 (common_link home x.endpoint) x.assigned
      go (inl alone) = alone.valid
      go (inr (inl ahead)) = absurd (not_beside_best home is_home at_rest d x ahead.best ahead.is_best.candidate)
      go (inr (inr following)) = absurd (let both : Some x.priority ≡ None = sym x.fact.published ∙ following.unpublished in cc)

  -- what is published on another link is not on the Common Link of the endpoint
  of_other_link : (e : Endpoint) (d : PlainPrefix) (x : Published home d) → e.link ≢ x.endpoint.link → ¬ (IsAdvertisedOnLink (common_link home e) (advert x))
  of_other_link e d x differ on =
      let at = from_common_link home e x.endpoint.node x.endpoint.id on in
      differ (sym at.on_link ∙ is_home OneLink at.endpoint x.endpoint at.there x.fact.has.there at.of_node at.of_id)

  -- and its key is not above the key of an assignment that it overlaps
  not_above : (d other : PlainPrefix) (x : Published home d) (y : Published home other) → x.endpoint.link ≢ y.endpoint.link
      → Overlaps y.assigned.prefix x.assigned.prefix → ¬ (IsAbove (advert y).key (key_at 2 x.endpoint))
  not_above d other x y differ overlap above =
      let judged : IsAbove (advert y).key (key_of 2 x.endpoint.node.0 x.assigned.endpoint.0) =
      subst (λ (id : EpId). IsAbove (advert y).key (key_of 2 x.endpoint.node.0 id.0)) (sym x.fact.has.of_endpoint) above in
      valid d x (advert y) (is_advertised home other y) (of_other_link x.endpoint other y differ) overlap judged

  pub links_apart : (d other : PlainPrefix) (x : Published home d) (y : Published home other) → x.endpoint.link ≢ y.endpoint.link → ¬ (Overlaps x.assigned.prefix y.assigned.prefix)
  links_apart d other x y differ overlap =
      let not_y = not_above d other x y differ (overlap.0, overlap.2, overlap.1) in
      let not_x = not_above other d y x (λ same. differ (sym same)) overlap in
      let low_x = is_home PriorityTwo x.endpoint d x.assigned x.priority x.fact in
      let low_y = is_home PriorityTwo y.endpoint other y.assigned y.priority y.fact in
      let equal = both_two x.endpoint y.endpoint x.priority y.priority low_x low_y not_y not_x in
      differ (ap (λ (e : Endpoint). e.link) (key_tells home x.endpoint y.endpoint 2 2 (is_home OneLink) x.fact.has.there y.fact.has.there equal))

  -- ---- a home at rest is sound

  -- what an endpoint has is what is published on its link
  has_prefix : (d : PlainPrefix) (x : Published home d) (e : Endpoint) (c : Assigned) → e.link ≡ x.endpoint.link → EndpointHasAssignment home e d c → c.prefix ≡ x.assigned.prefix
  has_prefix d x e c link has =
      let followed = every_follows home is_home at_rest d x e has.there link in
      ap (λ (b : Assigned). b.prefix) (is_home OneEach e d c followed.0 has followed.1) ∙ followed.2

  -- where an endpoint has an assignment, one is published on its link
  publisher_of : (e : Endpoint) (d : PlainPrefix) (c : Assigned) → EndpointHasAssignment home e d c → (x : Published home d) × (x.endpoint.link ≡ e.link)
  publisher_of e d c has =
      elim (top_or_none home e.link d) [
        | inl found ↦ (found.0, found.1)
        | inr none ↦ absurd ((none_without_publisher home is_home at_rest e d has.there (is_home ForUsed e d c has) none).0 c has)
      ]

  -- and so what it has is inside the delegated prefix
  pub is_inside : (e : Endpoint) (d : PlainPrefix) (c : Assigned) → EndpointHasAssignment home e d c → IsWithin c.prefix d
  is_inside e d c has =
      let x = publisher_of e d c has in
      let same = has_prefix d x.0 e c (sym x.1) has in
      subst (λ (p : PlainPrefix). IsWithin p d) (sym same) (is_home PublishedInside x.0.endpoint d x.0.assigned x.0.priority x.0.fact)

  served : (d : PlainPrefix) (x : Published home d) → IsLinkServed home x.endpoint.link d
  served d x = record {
    every = λ f there link. let found = every_follows home is_home at_rest d x f there link in (found.0, found.1);
    prefix = x.assigned.prefix;
    one_prefix = λ f k link has. has_prefix d x f k link has;
    publisher = x.endpoint;
    on_link = refl;
    assignment = x.assigned;
    priority = x.priority;
    published = x.fact;
    no_other = λ f k q link fact.
        let y : Published home d = record { endpoint = f; assigned = k; priority = q; fact = fact } in
        one_publisher home is_home at_rest d y x link;
  }

  without : (link : ℕ) (d : PlainPrefix) → Contains home.used d → HasNoPublisher home link d → IsLinkWithout home link d
  without link d d_used none = record {
    none = λ f k on has. (none_without_publisher home is_home at_rest f d has.there d_used (here f on)).0 k has;
    no_use = λ f there on. (none_without_publisher home is_home at_rest f d there d_used (here f on)).1;
  }
    where
      here : (f : Endpoint) → f.link ≡ link → HasNoPublisher home f.link d
      here f on e c p e_on = none e c p (e_on ∙ on)

  pub sound : IsSoundHome home
  sound = record {
    each_link = λ e d there d_used.
        elim (top_or_none home e.link d) [
          | inl found ↦ inl (subst (λ l. IsLinkServed home l d) found.1 (served d found.0))
          | inr none ↦ inr (without e.link d d_used none)
        ];
    links_apart = λ e f d other c k c_has k_has differ overlap.
        let x = publisher_of e d c c_has in
        let y = publisher_of f other k k_has in
        let of_x = has_prefix d x.0 e c (sym x.1) c_has in
        let of_y = has_prefix other y.0 f k (sym y.1) k_has in
        let published = subst (λ (p : PlainPrefix). Overlaps p y.0.assigned.prefix) of_x (subst (Overlaps c.prefix) of_y overlap) in
        links_apart d other x.0 y.0 (λ same. differ (sym x.1 ∙ same ∙ y.1)) published;
  }
