-- What a router advertises on an endpoint: it cannot be that there is nothing.
use Rattle.hn_base.proofs.Names.{◌≡◌, ◌<◌, ◌≤◌, ◌+◌, ◌^◌, ℕ, zero, suc, List, [], ◌∷◌, ◌++◌, length, take, slice_get, Contains, Some, refl, sym, subst, inl, inr, arith, take_all, AllByRecursion}
use Rattle.hn_base.proofs.Names.{All-contains, recursion_from_All, slice_get_cases, Some!, IsPrefix}
use Rattle.hn_router.proofs.Names.{is_some, EpId, H, contains_at, some_by, some_is, some_then, Info, Assigned, Delegated, InsideKeepsTheOrder, AreUsable, IsOutside, IsRangedHeld, IsRouter, seen_by}
use Rattle.hn_router.proofs.Names.{State, AreInfos, IsInfoOf, IsLifetime, IsInfoFrom, ElectedExists}
use Rattle.hn_base.proofs.Elements.{all_of}
use Rattle.hn_advert.specs.Advert.{IsInfo}
use Rattle.hn_deleg.specs.Laws.{LifetimesFit, UsableExists}
use Rattle.hn_deleg.specs.Used.{HasLifetimes}
use Rattle.hn_router.specs.Laws.{AdvertExists}
use Rattle.hn_router.proofs.InfoLists.{AreInfosOf, infos_none, infos_more_at, infos_same_at, infos_are}

module _ (keeps : InsideKeepsTheOrder) (s : State) (router : IsRouter s) (e : EpId) (usable : List Delegated) (are : AreUsable (seen_by s) usable) where
  -- ---- its prefixes

  -- what is advertised of the first assignments
  abbrev OfFirst : ℕ → List Info → Type 0
  OfFirst n infos = AreInfosOf usable e (take n s.held.assigned) infos

  of_next : (n : ℕ) (c : Assigned) → slice_get s.held.assigned n ≡ Some c → Contains s.held.assigned c → Some! (OfFirst n) → Some! (OfFirst (n + 1))
  of_next n c at there first = some_then first (λ infos were.
      some_by ((i : Info) × IsInfoFrom usable e c i)
      (λ from none.
      let valid : IsPrefix from.0.prefix = subst IsPrefix (sym from.1.prefix) (All-contains IsRangedHeld s.held.assigned c router.well.ranged.assigned there).prefix in
      none (infos ++ from.0 ∷ [])
      (infos_more_at keeps (seen_by s) usable e s.held.assigned n c infos from.0 at are router.well.pairs.assigned router.well.pairs.inside were from.1 valid))
      (λ not none. none infos (infos_same_at usable e s.held.assigned n c infos at were (λ i from. not (i, from)))))

  some_first : (n : ℕ) → n ≤ length s.held.assigned → Some! (OfFirst n)
  some_first zero within = some_is (OfFirst zero) [] (infos_none usable e)
  some_first (suc n) within = elim (slice_get_cases s.held.assigned n).1 [
    | inl (c, less, at, is) ↦
        let more : n + 1 ≡ suc n = omega arith in
        subst (λ (k : ℕ). Some! (OfFirst k)) more (of_next n c at (contains_at s.held.assigned n c at) (some_first n (omega (arith, within))))
    | inr (past, at) ↦ absurd (omega (arith, within, past))
  ]

  some_infos : Some! (AreInfos s e)
  some_infos = some_then (some_first (length s.held.assigned) (omega arith)) (λ infos were none.
      none infos (infos_are s usable e infos are
      (subst (λ (cs : List Assigned). AreInfosOf usable e cs infos) (take_all (length s.held.assigned) s.held.assigned (omega arith)) were)))

-- ---- its numbers fit their fields

info_fits : LifetimesFit → (s : State) (usable : List Delegated) (e : EpId) (i : Info) → IsRouter s → AreUsable (seen_by s) usable → IsInfoOf s usable e i → IsInfo i
info_fits fit s usable e i router are of =
    let seconds = fit (seen_by s) of.delegated (All-contains (HasLifetimes (seen_by s)) usable of.delegated are.lifetimes of.is_used) in
    record {
      prefix = subst IsPrefix (sym of.prefix) (All-contains IsRangedHeld s.held.assigned of.assignment router.well.ranged.assigned of.held).prefix;
      valid = subst (λ (n : ℕ). n < 2 ^ 32) (sym of.valid) seconds.0;
      preferred = subst (λ (n : ℕ). n < 2 ^ 32) (sym of.preferred) seconds.1;
    }

infos_fit : LifetimesFit → (s : State) (e : EpId) (infos : List Info) → IsRouter s → AreInfos s e infos → AllByRecursion IsInfo infos
infos_fit fit s e infos router are =
    recursion_from_All IsInfo infos (all_of IsInfo infos (λ i there. info_fits fit s are.usable e i router are.are_usable ((are.each i).0 there)))

-- ---- an advertisement

-- a lifetime, which fits its field
abbrev IsFittingLifetime : State → ℕ → Type 0
IsFittingLifetime s lifetime = IsLifetime s lifetime × (lifetime < 2 ^ 16)

some_lifetime : (s : State) → Some! (IsFittingLifetime s)
some_lifetime s = some_by (IsOutside (seen_by s)) (λ outside none. none 1800 (inl (outside, refl), omega arith)) (λ inside none. none 0 (inr (inside, refl), omega arith))

pub some_advert : InsideKeepsTheOrder → LifetimesFit → UsableExists → ElectedExists → AdvertExists
some_advert keeps fit usable_exists elected_exists s e router =
    let (usable, are) = usable_exists (seen_by s) in
    some_then (elected_exists s e H router) (λ who elected.
    some_then (some_lifetime s) (λ lifetime for.
    some_then (some_infos keeps s router e usable are) (λ infos of none.
    none (record { managed = is_some who; other = is_some who; lifetime = lifetime; infos = infos }) (
      record { who = who; is_elected = elected; managed = refl; other = refl; lifetime = for.0; infos = of },
      record { lifetime = for.1; infos = infos_fit fit s e infos router of },
    ))))
