-- The best of a list that grows.
use Rattle.hn_base.proofs.Names.{◌≡◌, ◌≢◌, ℕ, ◌⊎◌, true, false, cond, List, [], ◌∷◌, ◌++◌, Contains, Option, Some, None, Ordering, refl, sym, subst, ap, ◌∙◌, inl, inr, ⊎_elim, Less, Equal, Greater}
use Rattle.hn_base.proofs.Names.{is_lt, is_gt, ordering_reverse, tied_itself, Contains-push, Contains-push_cases, Contains-append_left, PlainPrefix, IsWithin}
use Rattle.hn_assign.proofs.Names.{Advertised, LinkEndpoints, IsAdvertisedOnLink, advertised_cmp, IsCandidatePrefix, IsBest, IsBestIfAny}
use Rattle.std.proofs.Common.{MatchOption}
use Rattle.std.proofs.lemmas.Cmp.{upto}
use Rattle.hn_assign.proofs.Orders.{advertised_total}

-- what makes an advertised prefix a candidate
abbrev pub IsEligible : ℕ → LinkEndpoints → PlainPrefix → Advertised → Type 0
IsEligible own common d a = (a.key.node.0 ≢ own) × IsAdvertisedOnLink common a × IsWithin a.prefix d

module _ (own : ℕ) (common : LinkEndpoints) (d : PlainPrefix) where
  older : (xs : List Advertised) (x a : Advertised) → IsCandidatePrefix xs own common d a → IsCandidatePrefix (xs ++ x ∷ []) own common d a
  older xs x a h = record { advertised = Contains-append_left xs (x ∷ []) a h.advertised; of_another = h.of_another; on_link = h.on_link; inside = h.inside }

  newest : (xs : List Advertised) (x : Advertised) → IsEligible own common d x → IsCandidatePrefix (xs ++ x ∷ []) own common d x
  newest xs x h = record { advertised = Contains-push xs x; of_another = h.0; on_link = h.1; inside = h.2 }

  cases : (xs : List Advertised) (x a : Advertised) → IsCandidatePrefix (xs ++ x ∷ []) own common d a → IsCandidatePrefix xs own common d a ⊎ (x ≡ a)
  cases xs x a h =
      ⊎_elim (λ (old : Contains xs a). inl (record { advertised = old; of_another = h.of_another; on_link = h.on_link; inside = h.inside }))
      (λ (new : x ≡ a). inr new)
      (Contains-push_cases xs x a h.advertised)

  eligible : (xs : List Advertised) (a : Advertised) → IsCandidatePrefix xs own common d a → IsEligible own common d a
  eligible xs a h = (h.of_another, h.on_link, h.inside)

  -- one more that is no candidate
  pub best_passed : (xs : List Advertised) (x : Advertised) (best : Option Advertised) → IsBestIfAny xs own common d best → ¬ (IsEligible own common d x) → IsBestIfAny (xs ++ x ∷ []) own common d best
  best_passed xs x None none not = λ a h.
      ⊎_elim (λ (old : IsCandidatePrefix xs own common d a). none a old) (λ (new : x ≡ a). not (subst (IsEligible own common d) (sym new) (eligible (xs ++ x ∷ []) a h))) (cases xs x a h)
  best_passed xs x (Some best) is not = record {
    candidate = older xs x best is.candidate;
    greatest = λ a h. ⊎_elim (λ (old : IsCandidatePrefix xs own common d a). is.greatest a old)
        (λ (new : x ≡ a). absurd (not (subst (IsEligible own common d) (sym new) (eligible (xs ++ x ∷ []) a h)))) (cases xs x a h);
  }

  -- the newest is the greatest where none of the older ones is greater
  newest_best : (xs : List Advertised) (x : Advertised)
      → IsEligible own common d x → ((a : Advertised) → IsCandidatePrefix xs own common d a → ¬ (advertised_cmp x a ≡ Less)) → IsBest (xs ++ x ∷ []) own common d x
  newest_best xs x may none = record {
    candidate = newest xs x may;
    greatest = λ a h. ⊎_elim (none a) (λ (new : x ≡ a). λ less. let same : advertised_cmp x x ≡ Equal = tied_itself advertised_total x in
        let clash : advertised_cmp x x ≡ Less = subst (λ (y : Advertised). advertised_cmp x y ≡ Less) (sym new) less in cc) (cases xs x a h);
  }

  not_greater : (x y : Advertised) → ¬ (advertised_cmp x y ≡ Less) → is_gt (advertised_cmp y x) ≡ false
  not_greater x y not = ap is_gt (advertised_total.antisymm y x) ∙ by_order (advertised_cmp x y) not
    where
      by_order : (o : Ordering) → ¬ (o ≡ Less) → is_gt (ordering_reverse o) ≡ false
      by_order Less never = absurd (never refl)
      by_order Equal never = refl
      by_order Greater never = refl

  not_less : (x y : Advertised) → is_gt (advertised_cmp y x) ≡ false → ¬ (advertised_cmp x y ≡ Less)
  not_less x y h less = let turned : advertised_cmp y x ≡ Greater = advertised_total.antisymm y x ∙ ap ordering_reverse less in let clash : is_gt (advertised_cmp y x) ≡ true = ap is_gt turned in cc

  -- one more that is a candidate
  pub best_candidate : (xs : List Advertised) (x : Advertised) (best : Option Advertised) (greater : Advertised) → IsBestIfAny xs own common d best → IsEligible own common d x
      → MatchOption best (greater ≡ x) (λ b. greater ≡ cond (is_lt (advertised_cmp x b)) b x) → IsBest (xs ++ x ∷ []) own common d greater
  best_candidate xs x None greater none may is = subst (IsBest (xs ++ x ∷ []) own common d) (sym is) (newest_best xs x may (λ a h. absurd (none a h)))
  best_candidate xs x (Some b) greater old may is = subst (IsBest (xs ++ x ∷ []) own common d) (sym is) (by_order (advertised_cmp x b) refl)
    where
      by_order : (o : Ordering) → advertised_cmp x b ≡ o → IsBest (xs ++ x ∷ []) own common d (cond (is_lt o) b x)
      by_order Less e = record {
        candidate = older xs x b old.candidate;
        greatest = λ a h. ⊎_elim (old.greatest a) (λ (new : x ≡ a). λ less.
            let turned : advertised_cmp b x ≡ Greater = advertised_total.antisymm b x ∙ ap ordering_reverse e in
            let clash : advertised_cmp b x ≡ Less = subst (λ (y : Advertised). advertised_cmp b y ≡ Less) (sym new) less in cc) (cases xs x a h);
      }
      by_order Equal e = newest_best xs x may
          (λ a h. not_less x a (upto advertised_total a b x (not_greater b a (old.greatest a h)) (ap is_gt (advertised_total.antisymm b x) ∙ ap (λ o. is_gt (ordering_reverse o)) e)))
      by_order Greater e = newest_best xs x may
          (λ a h. not_less x a (upto advertised_total a b x (not_greater b a (old.greatest a h)) (ap is_gt (advertised_total.antisymm b x) ∙ ap (λ o. is_gt (ordering_reverse o)) e)))
