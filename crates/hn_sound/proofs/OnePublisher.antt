-- In a home at rest a link has one publisher for a used prefix, whom all its other endpoints follow.
use Rattle.hn_base.proofs.Names.{◌≡◌, ◌≢◌, ℕ, ◌⊎◌, inl, inr, Option, Some, None, refl, sym, ap, ◌∙◌, subst, Less, Equal, Greater, ordering_then, key_cmp, PlainPrefix}
use Rattle.hn_sound.proofs.Names.{Contains, IsTrue, Ordering, Key, key_total, Advertised, Assigned, IsCandidatePrefix, HasNoBest, HasNoFree, IsAtRest, IsAheadOfBest, IsFollowing, IsHomeAtRest}
use Rattle.hn_sound.proofs.Names.{IsAssignmentOf, Home, Endpoint, EndpointHasAssignment, advertised, common_link, wish_of, key_at, IsHome, ForUsed, OneEach, HasNoPublisher}
use Rattle.hn_sound.proofs.SameOrNot.{cases_node}
use Rattle.hn_sound.proofs.GreatestIsBest.{Published, advert, IsTop, from_candidate, one_endpoint, to_candidate, one_assigned, top_or_none}

-- what is above one key is above each key that is not greater than that one
above_lower : (a b x : Key) (r : Ordering) → ¬ (ordering_then (key_cmp a b) r ≡ Less) → key_cmp a x ≡ Less → key_cmp b x ≡ Less
above_lower a b x r not_below above = go (key_cmp a b) refl not_below
  where
    go : (o : Ordering) → key_cmp a b ≡ o → ¬ (ordering_then o r ≡ Less) → key_cmp b x ≡ Less
    go Less is not_less = absurd (not_less refl)
    go Equal is _ = sym (key_total.congr a b x is) ∙ above
    go Greater is _ = key_total.trans b a x (key_total.antisymm b a ∙ (let back = is in cc)) above

-- an endpoint has the prefix
abbrev HasPrefix : Home → Endpoint → PlainPrefix → PlainPrefix → Type 0
HasPrefix home f d prefix = (k : Assigned) × EndpointHasAssignment home f d k × (k.prefix ≡ prefix)

module _ (home : Home) (is_home : IsHome home) (at_rest : IsHomeAtRest home) where
  -- the pair of an endpoint and a delegated prefix is at rest with the assignment
  abbrev PairRests : Endpoint → PlainPrefix → Option Assigned → Type 0
  PairRests e d c = IsAtRest (advertised home) e.node.0 (wish_of home e d) c

  used : (d : PlainPrefix) (x : Published home d) → Contains home.used d
  used d x = is_home ForUsed x.endpoint d x.assigned x.fact.has

  -- the assignment that an endpoint has is at rest
  pub assignment_rests : (e : Endpoint) (d : PlainPrefix) (c : Assigned) → EndpointHasAssignment home e d c → IsAtRest (advertised home) e.node.0 (wish_of home e d) (Some c)
  assignment_rests e d c has =
      let pair = at_rest e d has.there (is_home ForUsed e d c has) in
      go pair.0 pair.1 pair.2
    where
      go : (o : Option Assigned) → IsAssignmentOf home e d o → PairRests e d o → PairRests e d (Some c)
      go None none rests = absurd (none c has)
      go (Some k) other rests = subst (λ (b : Assigned). PairRests e d (Some b)) (is_home OneEach e d k c other has) rests

  -- beside the greatest key of a link no other endpoint publishes
  not_beside_top : (d : PlainPrefix) (x y : Published home d) → IsTop x → y.endpoint.link ≡ x.endpoint.link → y.endpoint ≢ x.endpoint → ⊥
  not_beside_top d x y top link other = go (assignment_rests y.endpoint d y.assigned y.fact.has)
    where
      candidate : IsCandidatePrefix (advertised home) y.endpoint.node.0 (common_link home y.endpoint) d (advert x)
      candidate = to_candidate home is_home d x y.endpoint y.fact.has.there link other

      ahead : IsAheadOfBest (advertised home) y.endpoint.node.0 (wish_of home y.endpoint d) y.assigned → ⊥
      ahead a =
          let priority : a.priority ≡ y.priority = let both : Some a.priority ≡ Some y.priority = sym a.published ∙ y.fact.published in cc in
          let above : key_cmp a.best.key (advert y).key ≡ Less = subst (λ n. key_cmp a.best.key (key_at n y.endpoint) ≡ Less) priority a.above in
          let above_top = above_lower a.best.key (advert x).key (advert y).key _ (a.is_best.greatest (advert x) candidate) above in
          top.greatest y.endpoint y.assigned y.priority link y.fact above_top

      go : PairRests y.endpoint d (Some y.assigned) → ⊥
      go (inl alone) = alone.no_best (advert x) candidate
      go (inr (inl a)) = ahead a
      go (inr (inr a)) = let both : Some y.priority ≡ None = sym y.fact.published ∙ a.unpublished in absurd (cc)

  -- who publishes on a link has the greatest key there
  is_the_top : (d : PlainPrefix) (x y : Published home d) → IsTop x → y.endpoint.link ≡ x.endpoint.link → y.endpoint ≡ x.endpoint
  is_the_top d x y top link =
      elim (cases_node y.endpoint.node x.endpoint.node) [
        | inl same ↦ one_endpoint home is_home y.endpoint x.endpoint y.fact.has.there x.fact.has.there same link
        | inr differ ↦ absurd (not_beside_top d x y top link (λ same. differ (ap (λ (e : Endpoint). e.node) same)))
      ]

  pub one_publisher : (d : PlainPrefix) (x y : Published home d) → x.endpoint.link ≡ y.endpoint.link → (x.endpoint ≡ y.endpoint) × (x.assigned ≡ y.assigned)
  one_publisher d x y link =
      elim (top_or_none home x.endpoint.link d) [
        | inl found ↦
            let x_is = is_the_top d found.0 x found.2 (sym found.1) in
            let y_is = is_the_top d found.0 y found.2 (sym link ∙ sym found.1) in
            let same : x.endpoint ≡ y.endpoint = x_is ∙ sym y_is in
            (same, one_assigned home is_home d x y same)
        | inr none ↦ absurd (none x.endpoint x.assigned x.priority refl x.fact)
      ]

  pub not_beside_best : (d : PlainPrefix) (x : Published home d) → HasNoBest (advertised home) x.endpoint.node.0 (common_link home x.endpoint) d
  not_beside_best d x a candidate =
      let on = from_candidate home is_home x.endpoint d a (used d x) candidate in
      let one = one_publisher d x on.by (sym on.link) in
      candidate.of_another (ap (λ (b : Advertised). b.key.node.0) on.is ∙ ap (λ (e : Endpoint). e.node.0) (sym one.0))

  -- ---- the others follow

  -- the best that an endpoint follows is what is published on its link
  best_prefix : (d : PlainPrefix) (x : Published home d) (f : Endpoint) (k : Assigned) → f.link ≡ x.endpoint.link
      → IsFollowing (advertised home) f.node.0 (wish_of home f d) k → k.prefix ≡ x.assigned.prefix
  best_prefix d x f k link a =
      let on = from_candidate home is_home f d a.best (used d x) a.is_best.candidate in
      let one = one_publisher d x on.by (sym (on.link ∙ link)) in
      a.same ∙ ap (λ (b : Advertised). b.prefix) on.is ∙ ap (λ (b : Assigned). b.prefix) (sym one.1)

  other_follows : (d : PlainPrefix) (x : Published home d) (f : Endpoint) → Contains home.endpoints f → f.link ≡ x.endpoint.link → f ≢ x.endpoint → HasPrefix home f d x.assigned.prefix
  other_follows d x f there link other = go pair.0 pair.1 pair.2
    where
      pair : (o : Option Assigned) × IsAssignmentOf home f d o × PairRests f d o
      pair = at_rest f d there (used d x)

      candidate : IsCandidatePrefix (advertised home) f.node.0 (common_link home f) d (advert x)
      candidate = to_candidate home is_home d x f there link other

      not_published : (k : Assigned) (q : ℕ) → EndpointHasAssignment home f d k → k.published ≡ Some q → ⊥
      not_published k q has is =
          let y : Published home d = record { endpoint = f; assigned = k; priority = q; fact = record { has = has; published = is } } in
          other (one_publisher d y x link).0

      go : (o : Option Assigned) → IsAssignmentOf home f d o → PairRests f d o → HasPrefix home f d x.assigned.prefix
      go None none idle = absurd (idle.no_best (advert x) candidate)
      go (Some k) has (inl alone) = absurd (alone.no_best (advert x) candidate)
      go (Some k) has (inr (inl ahead)) = absurd (not_published k ahead.priority has ahead.published)
      go (Some k) has (inr (inr following)) = (k, has, best_prefix d x f k link following)

  pub every_follows : (d : PlainPrefix) (x : Published home d) (f : Endpoint) → Contains home.endpoints f → f.link ≡ x.endpoint.link → (k : Assigned)
      × EndpointHasAssignment home f d k × (k.prefix ≡ x.assigned.prefix)
  every_follows d x f there link =
      elim (cases_node f.node x.endpoint.node) [
        | inl same ↦
            let is : f ≡ x.endpoint = one_endpoint home is_home f x.endpoint there x.fact.has.there same link in
            (x.assigned, subst (λ (e : Endpoint). EndpointHasAssignment home e d x.assigned) (sym is) x.fact.has, refl)
        | inr differ ↦ other_follows d x f there link (λ same. differ (ap (λ (e : Endpoint). e.node) same))
      ]

  -- ---- where none is published

  pub none_without_publisher : (f : Endpoint) (d : PlainPrefix) → Contains home.endpoints f → Contains home.used d → HasNoPublisher home f.link d
      → ((k : Assigned) → ¬ EndpointHasAssignment home f d k) × (¬ (IsTrue (home.wants f.node d)) ⊎ HasNoFree (advertised home) d (home.length f))
  none_without_publisher f d there d_used no_publisher = go pair.0 pair.1 pair.2
    where
      pair : (o : Option Assigned) × IsAssignmentOf home f d o × PairRests f d o
      pair = at_rest f d there d_used

      not_published : (k : Assigned) (q : ℕ) → EndpointHasAssignment home f d k → k.published ≡ Some q → ⊥
      not_published k q has is = no_publisher f k q refl (record { has = has; published = is })

      not_followed : (a : Advertised) → ¬ (IsCandidatePrefix (advertised home) f.node.0 (common_link home f) d a)
      not_followed a candidate =
          let on = from_candidate home is_home f d a d_used candidate in
          no_publisher on.by.endpoint on.by.assigned on.by.priority on.link on.by.fact

      go : (o : Option Assigned) → IsAssignmentOf home f d o → PairRests f d o → ((k : Assigned) → ¬ EndpointHasAssignment home f d k)
          × (¬ (IsTrue (home.wants f.node d)) ⊎ HasNoFree (advertised home) d (home.length f))
      go None none idle = (none, idle.nothing_to_do)
      go (Some k) has (inl alone) = absurd (not_published k alone.published.0 has alone.published.1)
      go (Some k) has (inr (inl ahead)) = absurd (not_published k ahead.priority has ahead.published)
      go (Some k) has (inr (inr following)) = absurd (not_followed following.best following.is_best.candidate)
