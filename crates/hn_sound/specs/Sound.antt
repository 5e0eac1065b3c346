-- A sound home: each link is served with one prefix inside each used prefix, unless none was free or wanted, and
-- prefixes of different links never overlap.
use Rattle.std.specs.Prelude.{◌≡◌, ◌≢◌, ℕ, ◌⊎◌, IsTrue, Contains}
use Rattle.hn_base.specs.Key.{IsAbove}
use Rattle.hn_base.specs.Prefix.{PlainPrefix, Overlaps}
use Rattle.hn_pair.specs.declared.assigned.Assigned.{Assigned}
use Rattle.hn_assign.specs.Best.{HasNoFree}
use Rattle.hn_sound.specs.Home.{Home, Endpoint, EndpointHasAssignment, HasPublished, advertised, key_at}

-- every endpoint on the link has an assignment for d, all with one prefix, and exactly one of them is published
pub record IsLinkServed (home : Home) (link : ℕ) (d : PlainPrefix) : Type 0 where
  pub every : (e : Endpoint) → Contains home.endpoints e → e.link ≡ link → (c : Assigned) × EndpointHasAssignment home e d c
  pub prefix : PlainPrefix
  pub one_prefix : (e : Endpoint) (c : Assigned) → e.link ≡ link → EndpointHasAssignment home e d c → c.prefix ≡ prefix
  pub publisher : Endpoint
  pub on_link : publisher.link ≡ link
  pub assignment : Assigned
  pub priority : ℕ
  pub published : HasPublished home publisher d assignment priority
  pub no_other :
      (e : Endpoint) (c : Assigned) (q : ℕ) → e.link ≡ link → HasPublished home e d c q
      → (e ≡ publisher) × (c ≡ assignment)

-- none has one, and for each the router does not want d, or nothing in d is free for the endpoint
pub record IsLinkWithout (home : Home) (link : ℕ) (d : PlainPrefix) : Type 0 where
  pub none : (e : Endpoint) (c : Assigned) → e.link ≡ link → ¬ EndpointHasAssignment home e d c
  pub no_use :
      (e : Endpoint) → Contains home.endpoints e → e.link ≡ link
      → ¬ (IsTrue (home.wants e.node d)) ⊎ HasNoFree (advertised home) d (home.length e)

pub record IsSoundHome (home : Home) : Type 0 where
  -- for each link that has an endpoint
  pub each_link :
      (e : Endpoint) (d : PlainPrefix) → Contains home.endpoints e → Contains home.used d
      → IsLinkServed home e.link d ⊎ IsLinkWithout home e.link d
  -- prefixes held on different links do not overlap
  pub links_apart :
      (e f : Endpoint) (d other : PlainPrefix) (c k : Assigned) → EndpointHasAssignment home e d c → EndpointHasAssignment home f other k
      → e.link ≢ f.link → ¬ Overlaps c.prefix k.prefix

-- on the link of the endpoint no key published for d is greater than that of its assignment
pub record IsGreatestOnLink (home : Home) (e : Endpoint) (d : PlainPrefix) (c : Assigned) (priority : ℕ) : Type 0 where
  pub published : HasPublished home e d c priority
  pub greatest :
      (f : Endpoint) (k : Assigned) (q : ℕ) → f.link ≡ e.link → HasPublished home f d k q
      → ¬ IsAbove (key_at q f) (key_at priority e)

-- no assignment on the link is published for d
abbrev pub HasNoPublisher : Home → ℕ → PlainPrefix → Type 0
HasNoPublisher home link d =
    (e : Endpoint) (c : Assigned) (priority : ℕ) → e.link ≡ link → ¬ HasPublished home e d c priority
