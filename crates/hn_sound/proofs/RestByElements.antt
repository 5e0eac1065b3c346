-- Rest is a matter of which elements the lists have.
use Rattle.hn_base.proofs.Names.{inl, inr, ℕ, List, Option, Some, None, PlainPrefix, HaveSame}
use Rattle.hn_sound.proofs.Names.{Contains, Advertised, Assigned, Wish, LinkEndpoints, IsCandidatePrefix, IsBest, HasNoBest, IsValid, HasNoFree, IsAtRest, IsAtRestWithout, IsHomeAtRest, Home, Endpoint}
use Rattle.hn_sound.proofs.Names.{advertised, common_link, wish_of}
use Rattle.hn_sound.specs.Members.{IsSeenAtRest}
use Rattle.hn_sound.proofs.AdvertisedAndLinks.{to_advertised, from_advertised, to_common_link, from_common_link}

module _ (adv others : List Advertised) (own : ℕ) (wish : Wish) (common : LinkEndpoints) (same : HaveSame adv others) (same_link : HaveSame wish.common common) where
  to_candidate : (a : Advertised) → IsCandidatePrefix adv own wish.common wish.delegated a → IsCandidatePrefix others own common wish.delegated a
  to_candidate a c = record { advertised = (same a).0 c.advertised; of_another = c.of_another; on_link = (same_link (a.key.node, a.key.endpoint)).0 c.on_link; inside = c.inside }

  from_candidate : (a : Advertised) → IsCandidatePrefix others own common wish.delegated a → IsCandidatePrefix adv own wish.common wish.delegated a
  from_candidate a c = record { advertised = (same a).1 c.advertised; of_another = c.of_another; on_link = (same_link (a.key.node, a.key.endpoint)).1 c.on_link; inside = c.inside }

  no_best : HasNoBest adv own wish.common wish.delegated → HasNoBest others own common wish.delegated
  no_best none a c = none a (from_candidate a c)

  best : (b : Advertised) → IsBest adv own wish.common wish.delegated b → IsBest others own common wish.delegated b
  best b is = record { candidate = to_candidate b is.candidate; greatest = λ a c. is.greatest a (from_candidate a c) }

  valid : (c : Assigned) → IsValid adv own wish.common c → IsValid others own common c
  valid c is a advertised off = is a ((same a).1 advertised) (λ on. off ((same_link (a.key.node, a.key.endpoint)).0 on))

  no_free : HasNoFree adv wish.delegated wish.length → HasNoFree others wish.delegated wish.length
  no_free none p free = none p (record { inside = free.inside; free = λ a advertised. free.free a ((same a).0 advertised) })

  idle : IsAtRestWithout adv own wish → IsAtRestWithout others own (record wish { common = common })
  idle is = record {
    no_best = no_best is.no_best;
    nothing_to_do = elim is.nothing_to_do [ inl unwanted ↦ inl unwanted | inr none ↦ inr (no_free none) ];
  }

  pub same_rest : (c : Option Assigned) → IsAtRest adv own wish c → IsAtRest others own (record wish { common = common }) c
  same_rest None is = idle is
  same_rest (Some c) (inl alone) = inl (record { no_best = no_best alone.no_best; published = alone.published; valid = valid c alone.valid })
  same_rest (Some c) (inr (inl ahead)) = inr (inl (record {
    best = ahead.best;
    is_best = best ahead.best ahead.is_best;
    priority = ahead.priority;
    published = ahead.published;
    above = ahead.above;
    valid = valid c ahead.valid;
  }))
  same_rest (Some c) (inr (inr following)) = inr (inr (record {
    best = following.best;
    is_best = best following.best following.is_best;
    unpublished = following.unpublished;
    same = following.same;
  }))

-- ---- as routers see it

pub at_rest_as_seen : (home : Home) → ((e : Endpoint) (d : PlainPrefix) → Contains home.endpoints e → Contains home.used d → IsSeenAtRest home e d) → IsHomeAtRest home
at_rest_as_seen home seen e d there d_used =
    let s = seen e d there d_used in
    let same : HaveSame s.adv (advertised home) = λ a. (
      (λ h. to_advertised home a ((s.advertised a).0 h)),
      (λ h. (s.advertised a).1 (from_advertised home a h)),
    ) in
    let same_link : HaveSame s.common (common_link home e) = λ p. (
      (λ h. to_common_link home e p.0 p.1 ((s.on_link p.0 p.1).0 h)),
      (λ h. (s.on_link p.0 p.1).1 (from_common_link home e p.0 p.1 h)),
    ) in
    let wish : Wish = record (wish_of home e d) { common = s.common } in
    (s.assignment, s.its_own, same_rest s.adv (advertised home) e.node.0 wish (common_link home e) same same_link s.assignment s.at_rest)
