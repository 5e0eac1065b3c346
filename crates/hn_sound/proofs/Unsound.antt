-- What a sound home cannot have.
use Rattle.hn_base.proofs.Names.{◌≡◌, ℕ, inl, inr, refl, sym, ◌∙◌, PlainPrefix}
use Rattle.hn_sound.proofs.Names.{Contains, IsTrue, Assigned, IsFreeIn, Home, Endpoint, EndpointHasAssignment, HasPublished, advertised, IsSoundHome, IsLinkServed, HasNoPublisher}

module _ (home : Home) (is_sound : IsSoundHome home) (d : PlainPrefix) (used : Contains home.used d) where
  -- where an endpoint has an assignment, its link is served
  serves : (e : Endpoint) (c : Assigned) → EndpointHasAssignment home e d c → IsLinkServed home e.link d
  serves e c has =
      elim (is_sound.each_link e d has.there used) [
        | inl served ↦ served
        | inr without ↦ absurd (without.none e c refl has)
      ]

  -- two published assignments on one link are one
  pub one_published : (e f : Endpoint) (c k : Assigned) (p q : ℕ) → HasPublished home e d c p → HasPublished home f d k q → f.link ≡ e.link → (e ≡ f) × (c ≡ k)
  one_published e f c k p q h l link =
      let served = serves e c h.has in
      let of_e = served.no_other e c p refl h in
      let of_f = served.no_other f k q link l in
      (of_e.0 ∙ sym of_f.0, of_e.1 ∙ sym of_f.1)

  -- where one endpoint has an assignment, the others of the link have one
  pub no_lonely : (e f : Endpoint) (c : Assigned) → EndpointHasAssignment home e d c → Contains home.endpoints f → f.link ≡ e.link → (k : Assigned) × EndpointHasAssignment home f d k
  no_lonely e f c has there link = (serves e c has).every f there link

  -- and some one is published
  pub no_unpublished : (e : Endpoint) (c : Assigned) → EndpointHasAssignment home e d c → ¬ (HasNoPublisher home e.link d)
  no_unpublished e c has none =
      let served = serves e c has in
      none served.publisher served.assignment served.priority served.on_link served.published

  -- and they have one prefix
  pub same_prefixes : (e f : Endpoint) (c k : Assigned) → EndpointHasAssignment home e d c → EndpointHasAssignment home f d k → f.link ≡ e.link → c.prefix ≡ k.prefix
  same_prefixes e f c k has l link =
      let served = serves e c has in
      served.one_prefix e c refl has ∙ sym (served.one_prefix f k link l)

  -- what is wanted and free is assigned
  pub no_unassigned : (e : Endpoint) (p : PlainPrefix) → Contains home.endpoints e → IsTrue (home.wants e.node d)
      → IsFreeIn (advertised home) d (home.length e) p → (c : Assigned) × EndpointHasAssignment home e d c
  no_unassigned e p there wanted free =
      elim (is_sound.each_link e d there used) [
        | inl served ↦ served.every e there refl
        | inr without ↦
            elim (without.no_use e there refl) [
              | inl unwanted ↦ absurd (unwanted wanted)
              | inr none ↦ absurd (none p free)
            ]
      ]
