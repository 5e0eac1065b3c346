-- Lists of the same advertised prefixes give the same best, valid and free prefixes.
use Rattle.hn_base.proofs.Names.{◌≡◌, ◌∙◌, ℕ, ◌<◌, List, Option, None, Some, Ordering, refl, sym, ap, subst, ⊎_elim, arith, Less, Equal, Greater, ordering_reverse, cases_lt, All-contains, PlainPrefix}
use Rattle.hn_base.proofs.Names.{Overlaps, HaveSame}
use Rattle.hn_assign.proofs.Names.{PlainView, IsFree, IsTakenPrefix, IsFirstFree, Contains-map, Contains-from_map, Advertised, Assigned, LinkEndpoints, advertised_cmp, IsCandidatePrefix, IsBest}
use Rattle.hn_assign.proofs.Names.{IsBestIfAny, IsValid, IsFreeIn, HasNoFree, AreAdvertised}
use Rattle.hn_prefix.specs.Free.{sub_prefix_after}
use Rattle.hn_assign.proofs.FreePrefixes.{prefixes}
use Rattle.hn_assign.proofs.Orders.{advertised_total, advertised_exact}

pub same_back : {A : Type 0} (xs ys : List A) → HaveSame xs ys → HaveSame ys xs
same_back xs ys same x = let both = same x in (both.1, both.0)

-- what is advertised in one state
pub same_advertised : (view : PlainView) (assigned : List Assigned) (a b : List Advertised) → AreAdvertised view assigned a → AreAdvertised view assigned b → HaveSame a b
same_advertised view assigned a b are_a are_b x = let of_a = are_a x in let of_b = are_b x in (λ h. of_b.1 (of_a.0 h), λ h. of_a.1 (of_b.0 h))

candidate_in : (a b : List Advertised) (own : ℕ) (common : LinkEndpoints) (d : PlainPrefix) (x : Advertised) → HaveSame a b → IsCandidatePrefix a own common d x → IsCandidatePrefix b own common d x
candidate_in a b own common d x same h = let both = same x in record { advertised = both.0 h.advertised; of_another = h.of_another; on_link = h.on_link; inside = h.inside }

pub best_in : (a b : List Advertised) (own : ℕ) (common : LinkEndpoints) (d : PlainPrefix) (best : Option Advertised) → HaveSame a b → IsBestIfAny a own common d best → IsBestIfAny b own common d best
best_in a b own common d None same none = λ x h. none x (candidate_in b a own common d x (same_back a b same) h)
best_in a b own common d (Some best) same is = record {
  candidate = candidate_in a b own common d best same is.candidate;
  greatest = λ x h. is.greatest x (candidate_in b a own common d x (same_back a b same) h);
}

-- the best is one
two_bests : (adv : List Advertised) (own : ℕ) (common : LinkEndpoints) (d : PlainPrefix) (x y : Advertised) → IsBest adv own common d x → IsBest adv own common d y → x ≡ y
two_bests adv own common d x y p q = by_order (advertised_cmp x y) refl
  where
    by_order : (o : Ordering) → advertised_cmp x y ≡ o → x ≡ y
    by_order Less e = absurd (p.greatest y q.candidate e)
    by_order Equal e = advertised_exact x y e
    by_order Greater e = absurd (q.greatest x p.candidate (advertised_total.antisymm y x ∙ ap ordering_reverse e))

pub best_one : (adv : List Advertised) (own : ℕ) (common : LinkEndpoints) (d : PlainPrefix) (a b : Option Advertised) → IsBestIfAny adv own common d a → IsBestIfAny adv own common d b → a ≡ b
best_one adv own common d None None p q = refl
best_one adv own common d None (Some y) p q = absurd (p y q.candidate)
best_one adv own common d (Some x) None p q = absurd (q x p.candidate)
best_one adv own common d (Some x) (Some y) p q = ap Some (two_bests adv own common d x y p q)

pub valid_in : (a b : List Advertised) (own : ℕ) (common : LinkEndpoints) (c : Assigned) → HaveSame a b → IsValid a own common c → IsValid b own common c
valid_in a b own common c same valid x h = let both = same x in valid x (both.1 h)

pub free_in : (a b : List Advertised) (d : PlainPrefix) (len : ℕ) (p : PlainPrefix) → HaveSame a b → IsFreeIn a d len p → IsFreeIn b d len p
free_in a b d len p same free = record { inside = free.inside; free = λ x h. let both = same x in free.free x (both.1 h) }

pub none_in : (a b : List Advertised) (d : PlainPrefix) (len : ℕ) → HaveSame a b → HasNoFree a d len → HasNoFree b d len
none_in a b d len same none p free = none p (free_in b a d len p (same_back a b same) free)

-- a prefix that is free is not taken by the same prefixes
clash : (a b : List Advertised) (p : PlainPrefix) → HaveSame a b → IsFree (prefixes a) p → IsTakenPrefix (prefixes b) p → ⊥
clash a b p same free (k, t, within, at, overlaps) =
    let x = Contains-from_map (λ x. x.prefix) b t (k, within, at) in
    let both = same x.0 in
    All-contains (λ q. ¬ (Overlaps q p)) (prefixes a) x.0.prefix free (Contains-map (λ x. x.prefix) a x.0 (both.1 x.1)) (subst (λ (q : PlainPrefix). Overlaps q p) (sym x.2) overlaps)

-- the first free one is one
pub first_one : (a b : List Advertised) (d : PlainPrefix) (start len : ℕ) (p q : PlainPrefix) → HaveSame a b → IsFirstFree d start (prefixes a) len p → IsFirstFree d start (prefixes b) len q → p ≡ q
first_one a b d start len p q same f g =
    ⊎_elim
    (λ (less : f.ahead < g.ahead). absurd (clash a b p same f.free (subst (IsTakenPrefix (prefixes b)) (sym f.at_place) (g.each_before_taken f.ahead less))))
    (λ over. ⊎_elim
    (λ (less : g.ahead < f.ahead). absurd (clash b a q (same_back a b same) g.free (subst (IsTakenPrefix (prefixes a)) (sym g.at_place) (f.each_before_taken g.ahead less))))
    (λ under. let equal : f.ahead ≡ g.ahead = omega arith in f.at_place ∙ ap (sub_prefix_after d len start) equal ∙ sym g.at_place)
    (cases_lt g.ahead f.ahead))
    (cases_lt f.ahead g.ahead)
