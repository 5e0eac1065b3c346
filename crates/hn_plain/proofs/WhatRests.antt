-- The same routers are at rest.
use Rattle.hn_base.proofs.Names.{◌≡◌, ◌∙◌, ◌⊎◌, ◌<◌, ℕ, List, Option, Some, None, Contains, IsSome, is_some, inl, inr, refl, sym, ap, subst, arith, All, cases_lt, cases_eq, All-contains, same_Some}
use Rattle.hn_base.proofs.Names.{HasAt, IsAbove, PlainPrefix, IsPrefix}
use Rattle.hn_plain.proofs.Names.{slice_get, Contains-map, all_of, contains_at, one_of_ascending, part_stands, Decided, one_or_none, EpId, Delegated, AreUsable, IsUnwanted, prefixes_of, HasNoFree}
use Rattle.hn_plain.proofs.Names.{AreAdvertised, assigned_pair, pair_cmp, Advertised, Assigned, IsRouter, seen_by, State, HasAssignment}
use Rattle.hn_base.proofs.AtKey.{has_some}
use Rattle.hn_assign.specs.Advertised.{key_of}
use Rattle.hn_pair.specs.Facts.{HasOwnPriority}
use Rattle.hn_assign.specs.Fixed.{IsWishAtRest}
use Rattle.hn_pair.specs.Pair.{IsWished, wish_pair}
use Rattle.hn_assign.specs.Rest.{IsAtRestWithout, IsAtRest}
use Rattle.hn_pair.specs.declared.assigned.Wish.{Wish}
use Rattle.hn_pair.specs.declared.pair.Pair.{Pair}
use Rattle.hn_own.specs.Posts.{posts_of}
use Rattle.hn_rules.specs.Assigning.{IsWishFor, AreAsked}
use Rattle.hn_audit.specs.Quiet.{IsRouterAtRest}
use Rattle.hn_plain.specs.Plain as plain
use Rattle.hn_plain.specs.Same.{RestsAlike}
use Rattle.hn_plain.proofs.PlainLaws.{PlainLaws}
use Rattle.hn_plain.proofs.WhatIsBest.{to_rival, from_rival, to_best, from_best, to_valid, from_valid, best_or_none}
use Rattle.hn_plain.proofs.WhatIsSeen.{no_free_in, no_free_from}
use Rattle.hn_plain.proofs.WhatIsUsed.{uses_the_same, wants_the_same, unwanted_at}

its_priority : (o : Option ℕ) → IsSome o → (priority : ℕ) × (o ≡ Some priority)
its_priority (Some p) some = (p, refl)
its_priority None some = absurd (cc)

-- whether a used prefix is wanted
unwanted_or_not : (list : List Delegated) (k : ℕ) (u : Delegated) → slice_get list k ≡ Some u → Decided (IsUnwanted list k)
unwanted_or_not list k u at = elim (cases_eq u.preferred 0) [
  | inr lasts ↦ inr (λ un. lasts (subst (λ (v : Delegated). v.preferred ≡ 0) (same_Some un.deprecated u (sym un.at ∙ at)) un.ended))
  | inl ended ↦
      elim (one_or_none (λ (v : Delegated). 0 < v.preferred) list (λ v _. elim (cases_lt 0 v.preferred) [ inl some ↦ inl some | inr none ↦ inr (λ some. omega (arith, none, some)) ])) [
        | inl other ↦ inl (record { deprecated = u; at = at; ended = ended; other = other.0; in_list = other.1; preferred = other.2 })
        | inr none ↦ inr (λ un. none un.other un.in_list un.preferred)
      ]
]

module _ (laws : PlainLaws) (s : State) (router : IsRouter s) (usable : List Delegated) (are_usable : AreUsable (seen_by s) usable)
    (advertised : List Advertised) (are : AreAdvertised (seen_by s) s.held.assigned advertised) where
  -- ---- a pair that is asked for, with an assignment

  module _ (wish : Wish) (asked : IsWishFor s usable wish) where
    priority_two : (c : Assigned) → Contains s.held.assigned c → (priority : ℕ) → c.published ≡ Some priority → priority ≡ 2
    priority_two c held = All-contains HasOwnPriority s.held.assigned c router.well.pairs.priority held

    -- how it stays, plainly
    abbrev Stays : Assigned → Type 0
    Stays c = plain.StaysAhead s wish.endpoint wish.delegated c ⊎ plain.StaysBehind s wish.endpoint wish.delegated c

    stays_of : (c : Assigned) → Contains s.held.assigned c → c.endpoint ≡ wish.endpoint → IsAtRest advertised s.id.0 wish (Some c) → Stays c
    stays_of c held of (inl alone) = inl (
      ap (λ (o : Option ℕ). is_some o) alone.published.1,
      from_valid laws s router advertised are wish.endpoint wish.common asked.asked.common c of alone.valid,
      λ best is_best. absurd (alone.no_best best (to_best laws s router advertised are wish.endpoint wish.common asked.asked.common wish.delegated best is_best).candidate),
    )
    stays_of c held of (inr (inl ahead)) = inl (
      ap (λ (o : Option ℕ). is_some o) ahead.published,
      from_valid laws s router advertised are wish.endpoint wish.common asked.asked.common c of ahead.valid,
      λ best is_best.
          let also = to_best laws s router advertised are wish.endpoint wish.common asked.asked.common wish.delegated best is_best in
          let one : Some ahead.best ≡ Some best =
          laws.best (record { own = s.id.0; now = s.moment; wish = wish; advertised = advertised }) (Some ahead.best) (Some best) ahead.is_best also in
          subst (λ (b : Advertised). IsAbove (plain.own_key s wish.endpoint) b.key) (same_Some ahead.best best one)
          (subst (λ (n : ℕ). IsAbove (key_of n s.id.0 wish.endpoint.0) ahead.best.key) (priority_two c held ahead.priority ahead.published) ahead.above),
    )
    stays_of c held of (inr (inr follows)) = inr (
      follows.unpublished,
      follows.best,
      from_best laws s router advertised are wish.endpoint wish.common asked.asked.common wish.delegated follows.best follows.is_best,
      follows.same,
    )

    is_delegated : IsPrefix wish.delegated
    is_delegated =
        let u = asked.asked.delegated in
        subst IsPrefix (sym asked.asked.prefix)
        (All-contains (λ (u : Delegated). IsPrefix u.prefix) usable u (laws.prefixes (seen_by s) usable are_usable) (contains_at usable asked.place u asked.asked.at))

    rests_of : (c : Assigned) → Contains s.held.assigned c → c.endpoint ≡ wish.endpoint → Stays c → IsAtRest advertised s.id.0 wish (Some c)
    rests_of c held of (inr (unpublished, best, is_best, same)) = inr (inr (record {
      best = best;
      is_best = to_best laws s router advertised are wish.endpoint wish.common asked.asked.common wish.delegated best is_best;
      unpublished = unpublished;
      same = same;
    }))
    rests_of c held of (inl (some, valid, above)) =
        let (priority, published) = its_priority c.published some in
        let is_valid = to_valid laws s router advertised are wish.endpoint wish.common asked.asked.common c of valid in
        elim (best_or_none laws s router advertised are wish.endpoint wish.common asked.asked.common wish.delegated is_delegated) [
          | inl (best, is_best) ↦ inr (inl (record {
            best = best;
            is_best = is_best;
            priority = priority;
            published = published;
            above =
                subst (λ (n : ℕ). IsAbove (key_of n s.id.0 wish.endpoint.0) best.key) (sym (priority_two c held priority published))
                (above best (from_best laws s router advertised are wish.endpoint wish.common asked.asked.common wish.delegated best is_best));
            valid = is_valid;
          }))
          | inr none ↦ inl (record { no_best = none; published = (priority, published); valid = is_valid })
        ]

    -- ---- and without one

    abbrev IsPlainlyWithout : Pair → Type 0
    IsPlainlyWithout pair = ((a : Advertised) → ¬ plain.IsRival s pair.endpoint pair.delegated a) × (plain.DoesNotWant s pair.delegated ⊎ plain.SeesNoFree s pair.endpoint pair.delegated)

    unwanted_of : IsUnwanted usable asked.place → plain.DoesNotWant s wish.delegated
    unwanted_of un =
        let u = asked.asked.delegated in
        subst (plain.DoesNotWant s) (sym asked.asked.prefix)
        ((wants_the_same laws s u.prefix).1 (record {
          usable = usable;
          are_usable = are_usable;
          place = asked.place;
          at = part_stands (λ (u : Delegated). u.prefix) usable asked.place u asked.asked.at;
          unwanted = un;
        }))

    idle_of : IsAtRestWithout advertised s.id.0 wish → IsPlainlyWithout (wish_pair wish)
    idle_of idle = (
      λ a rival. idle.no_best a (to_rival laws s router advertised are wish.endpoint wish.common asked.asked.common wish.delegated a rival),
      elim idle.nothing_to_do [
        | inr none ↦ inr (no_free_from laws s advertised wish.endpoint wish.delegated router are (subst (HasNoFree advertised wish.delegated) asked.asked.length none))
        | inl not ↦
            elim (unwanted_or_not usable asked.place asked.asked.delegated asked.asked.at) [
              | inl un ↦ inl (unwanted_of un)
              | inr wanted ↦ absurd (not (asked.asked.wanted.1 wanted))
            ]
      ],
    )

    idles_of : IsPlainlyWithout (wish_pair wish) → IsAtRestWithout advertised s.id.0 wish
    idles_of idle = record {
      no_best = λ a h. idle.0 a (from_rival laws s router advertised are wish.endpoint wish.common asked.asked.common wish.delegated a h);
      nothing_to_do = elim idle.1 [
        | inr none ↦ inr (subst (HasNoFree advertised wish.delegated) (sym asked.asked.length) (no_free_in laws s advertised wish.endpoint wish.delegated are none))
        | inl un ↦ inl (λ wants. asked.asked.wanted.0 wants (unwanted_at laws s usable asked.place asked.asked.delegated are_usable asked.asked.at (subst (plain.DoesNotWant s) asked.asked.prefix un)))
      ];
    }

  -- ---- the lists of a router

  abbrev HasListed : PlainPrefix → Type 0
  HasListed d = Contains (prefixes_of usable) d

  uses_of : (d : PlainPrefix) → HasListed d → plain.Uses s d
  uses_of d there = (uses_the_same laws s d).1 (record { usable = usable; are_usable = are_usable; there = there })

  uses_in : (d : PlainPrefix) → plain.Uses s d → HasListed d
  uses_in d uses =
      let also = (uses_the_same laws s d).0 uses in
      subst (λ (list : List Delegated). Contains (prefixes_of list) d) (laws.one_usable (seen_by s) also.usable usable also.are_usable are_usable) also.there

  -- the prefix of a wish is used
  wish_uses : (wish : Wish) → IsWishFor s usable wish → HasListed wish.delegated
  wish_uses wish is =
      let u = is.asked.delegated in
      subst HasListed (sym is.asked.prefix) (Contains-map (λ (u : Delegated). u.prefix) usable u (contains_at usable is.place u is.asked.at))

  module _ (wishes : List Wish) (asked : AreAsked s usable wishes) where
    asked_for : (d : PlainPrefix) (e : EpId) → plain.Uses s d → Contains (posts_of s.private s.ports) e
        → (wish : Wish) × Contains wishes wish × (wish_pair wish ≡ record { delegated = d; endpoint = e }) × IsWishFor s usable wish
    asked_for d e uses post =
        let (all, w) = laws.wishes s router in
        let one : w.usable ≡ usable = laws.one_usable (seen_by s) w.usable usable w.are_usable are_usable in
        let there : Contains (prefixes_of w.usable) d = subst (λ (list : List Delegated). Contains (prefixes_of list) d) (sym one) (uses_in d uses) in
        let (wish, among, pair) = w.each (record { delegated = d; endpoint = e }) there post in
        let is : IsWishFor s usable wish = subst (λ (list : List Delegated). IsWishFor s list wish) one ((w.are_asked.exact wish).0 among) in
        (wish, (asked.exact wish).1 is, pair, is)

    -- ---- from plain rest

    module _ (rest : plain.Rests s) where
      all_wished : All (λ c. IsWished wishes (assigned_pair c)) s.held.assigned
      all_wished =
          all_of (λ (c : Assigned). IsWished wishes (assigned_pair c)) s.held.assigned (λ c there.
          let (uses, post) = rest.pairs c there in
          let found = asked_for c.delegated c.endpoint uses post in
          (found.0, found.1, found.2))

      rest_of : (wish : Wish) → IsWishFor s usable wish
          → ((c : Assigned) × HasAssignment s wish.endpoint wish.delegated c × (plain.StaysAhead s wish.endpoint wish.delegated c ⊎ plain.StaysBehind s wish.endpoint wish.delegated c))
          ⊎ (plain.GoesWithout s wish.endpoint wish.delegated × ((a : Advertised) → ¬ plain.IsRival s wish.endpoint wish.delegated a))
      rest_of wish is = rest.each wish.endpoint wish.delegated (uses_of wish.delegated (wish_uses wish is)) is.post

      wish_rests : (wish : Wish) → IsWishFor s usable wish → (o : Option Assigned) → HasAt assigned_pair (wish_pair wish) o s.held.assigned → IsAtRest advertised s.id.0 wish o
      wish_rests wish is None none = elim (rest_of wish is) [
        | inl (c, has, stays) ↦ absurd (none c has.held (λ i. record { delegated = has.of_delegated i; endpoint = has.of_endpoint i }))
        | inr (without, alone) ↦ idles_of wish is (alone, without.1)
      ]
      wish_rests wish is (Some c) (there, pair) = elim (rest_of wish is) [
        | inl (b, has, stays) ↦
            let same : b ≡ c =
            one_of_ascending assigned_pair pair_cmp laws.pairs_total s.held.assigned router.well.pairs.assigned b c has.held there
            (λ i. record { delegated = (has.of_delegated ∙ sym (ap (λ (p : Pair). p.delegated) pair)) i; endpoint = (has.of_endpoint ∙ sym (ap (λ (p : Pair). p.endpoint) pair)) i }) in
            rests_of wish is c there (ap (λ (p : Pair). p.endpoint) pair)
            (subst (λ (x : Assigned). plain.StaysAhead s wish.endpoint wish.delegated x ⊎ plain.StaysBehind s wish.endpoint wish.delegated x) same stays)
        | inr (without, alone) ↦ absurd (without.0 c (record { held = there; of_endpoint = ap (λ (p : Pair). p.endpoint) pair; of_delegated = ap (λ (p : Pair). p.delegated) pair }))
      ]

      to_rest : IsRouterAtRest s
      to_rest = record {
        usable = usable;
        are_usable = are_usable;
        wishes = wishes;
        are_asked = asked;
        advertised = advertised;
        are_advertised = are;
        wished = all_wished;
        at_rest = λ wish there. wish_rests wish ((asked.exact wish).0 there);
      }

    -- ---- to plain rest

    module _ (wished : All (λ c. IsWished wishes (assigned_pair c)) s.held.assigned) (at_rest : (wish : Wish) → Contains wishes wish → IsWishAtRest advertised s.id.0 s.held.assigned wish) where
      wished_for : (c : Assigned) → Contains s.held.assigned c → (wish : Wish) × IsWishFor s usable wish × (wish_pair wish ≡ assigned_pair c) × Contains wishes wish
      wished_for c there =
          let found = All-contains (λ (c : Assigned). IsWished wishes (assigned_pair c)) s.held.assigned c wished there in
          (found.0, (asked.exact found.0).0 found.1, found.2, found.1)

      from_pairs : (c : Assigned) → Contains s.held.assigned c → plain.Uses s c.delegated × Contains (posts_of s.private s.ports) c.endpoint
      from_pairs c there =
          let (wish, is, pair, _) = wished_for c there in
          subst (λ (p : Pair). plain.Uses s p.delegated × Contains (posts_of s.private s.ports) p.endpoint) pair
          (uses_of wish.delegated (wish_uses wish is), is.post)

      abbrev IsPairAtRest : Pair → Type 0
      IsPairAtRest p =
          ((c : Assigned) × HasAssignment s p.endpoint p.delegated c × (plain.StaysAhead s p.endpoint p.delegated c ⊎ plain.StaysBehind s p.endpoint p.delegated c))
          ⊎ (plain.GoesWithout s p.endpoint p.delegated × ((a : Advertised) → ¬ plain.IsRival s p.endpoint p.delegated a))

      pair_rests : (wish : Wish) → Contains wishes wish → (o : Option Assigned) → HasAt assigned_pair (wish_pair wish) o s.held.assigned → IsPairAtRest (wish_pair wish)
      pair_rests wish there (Some c) has =
          let is = (asked.exact wish).0 there in
          let of : c.endpoint ≡ wish.endpoint = ap (λ (p : Pair). p.endpoint) has.1 in
          inl (c, record { held = has.0; of_endpoint = of; of_delegated = ap (λ (p : Pair). p.delegated) has.1 }, stays_of wish is c has.0 of (at_rest wish there (Some c) has))
      pair_rests wish there None none =
          let idle = idle_of wish ((asked.exact wish).0 there) (at_rest wish there None none) in
          let no : (c : Assigned) → ¬ HasAssignment s wish.endpoint wish.delegated c =
          λ c has. none c has.held (λ i. record { delegated = has.of_delegated i; endpoint = has.of_endpoint i }) in
          inr ((no, idle.1), idle.0)

      from_each : (e : EpId) (d : PlainPrefix) → plain.Uses s d → Contains (posts_of s.private s.ports) e → IsPairAtRest (record { delegated = d; endpoint = e })
      from_each e d uses post =
          let (wish, there, pair, is) = asked_for d e uses post in
          let (o, has) = has_some assigned_pair pair_cmp laws.pairs_total laws.pairs_exact (wish_pair wish) s.held.assigned in
          subst IsPairAtRest pair (pair_rests wish there o has)

      from_rest : plain.Rests s
      from_rest = record { pairs = from_pairs; each = from_each }

pub rests_alike : PlainLaws → RestsAlike
rests_alike laws s router = (
  λ rest.
      let (advertised, are) = laws.advertised (seen_by s) s.held.assigned in
      let (wishes, w) = laws.wishes s router in
      to_rest laws s router w.usable w.are_usable advertised are wishes w.are_asked rest,
  λ rest. from_rest laws s router rest.usable rest.are_usable rest.advertised rest.are_advertised rest.wishes rest.are_asked rest.wished rest.at_rest,
)
