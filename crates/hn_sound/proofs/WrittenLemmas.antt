-- What written-out homes have, and why they are not sound.
use Rattle.hn_base.proofs.Names.{◌≡◌, ℕ, Option, Some, [], refl, ap, subst, arith, PlainPrefix, Overlaps}
use Rattle.hn_sound.proofs.Names.{Contains, nothing_in, Assigned, Home, Endpoint, EndpointHasAssignment, HasPublished, first, second, subnet, has}
use Rattle.hn_sound.proofs.HomeTests.{assignments_of, to_assignments_of}

module _ (home : Home) (e : Endpoint) (d prefix : PlainPrefix) (there : Contains home.endpoints e) where
  pub has_it : (published : Option ℕ) → Contains home.assignments (has e d prefix published) → EndpointHasAssignment home e d (has e d prefix published).assigned
  has_it published held = record { there = there; held = held; of_endpoint = refl; of_delegated = refl }

  pub publishes_it : (priority : ℕ) → Contains home.assignments (has e d prefix (Some priority)) → HasPublished home e d (has e d prefix (Some priority)).assigned priority
  publishes_it priority held = record { has = has_it (Some priority) held; published = refl }

pub has_none : (home : Home) (e : Endpoint) (d : PlainPrefix) (c : Assigned) → assignments_of home e d ≡ [] → ¬ (EndpointHasAssignment home e d c)
has_none home e d c none h =
    nothing_in (record { node = e.node; assigned = c }) (subst (λ hs. Contains hs (record { node = e.node; assigned = c })) none (to_assignments_of home e d c h))

pub two_routers : ¬ (first ≡ second)
two_routers same = let nodes : ◌≡◌ {A = ℕ} 1 2 = ap (λ (e : Endpoint). e.node.0) same in absurd (omega arith)

pub two_subnets : ¬ (subnet 0 ≡ subnet 1)
two_subnets same = let bits : (subnet 0).bits ≡ (subnet 1).bits = ap (λ (p : PlainPrefix). p.bits) same in absurd (omega arith)

-- an address of both
pub overlaps_itself : (p : PlainPrefix) → Overlaps p p
overlaps_itself p = (p.bits, refl, refl)
