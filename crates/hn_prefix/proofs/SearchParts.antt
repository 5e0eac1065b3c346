-- Taken prefixes that are searched from a place on, and then before the place, are all searched.
use Rattle.hn_base.proofs.Names.{◌≡◌, ℕ, ◌+◌, ◌<◌, ◌≤◌, List, ◌++◌, Option, None, Some, IfSome, length, get_or, take, drop, ap, ◌∙◌, sym, subst, arith, PlainPrefix, Overlaps}
use Rattle.hn_prefix.proofs.Names.{IsFree}
use Rattle.std.proofs.Common.{IfNone, take-append-drop, length-drop, length-take-le}
use Rattle.std.proofs.lemmas.List.{get_or-drop, get_or-take}
use Rattle.std.proofs.lemmas.List.Elements.{All-append}
use Rattle.hn_prefix.specs.Free.{OverlapsAt}

module _ (taken : List PlainPrefix) (p : PlainPrefix) (from : ℕ) (within : from ≤ length taken) where
  -- what overlaps at a place of the later ones does so at its place of all
  pub found_after : (after : List PlainPrefix) (at : ℕ) → after ≡ drop from taken → OverlapsAt after p at → OverlapsAt taken p (from + at)
  found_after after at is found =
      let P : PlainPrefix → Type 0 = λ t. Overlaps t p in
      record {
        within = omega (arith, length-drop from taken, ap length is, found.within);
        overlap = λ d. subst P (ap (λ (xs : List PlainPrefix). get_or xs at d) is ∙ get_or-drop from taken at d) (found.overlap d);
      }

  -- what overlaps at a place of the earlier ones does so at the same place of all
  pub found_before : (before : List PlainPrefix) (r : Option ℕ) → before ≡ take from taken → IfSome r (OverlapsAt before p) → IfSome r (OverlapsAt taken p)
  found_before before None is found = tt
  found_before before (Some at) is found =
      let P : PlainPrefix → Type 0 = λ t. Overlaps t p in
      let short : at < from = omega (arith, length-take-le from taken within, ap length is, found.within) in
      record {
        within = omega arith;
        overlap = λ d. subst P (ap (λ (xs : List PlainPrefix). get_or xs at d) is ∙ get_or-take from taken at d short) (found.overlap d);
      }

  -- what overlaps none of either overlaps none
  pub free_of_both : (before after : List PlainPrefix) (r : Option ℕ) → before ≡ take from taken → after ≡ drop from taken → IsFree after p → IfNone r (IsFree before p)
      → IfNone r (IsFree taken p)
  free_of_both before after None front back free_after free_before =
      let P : PlainPrefix → Type 0 = λ t. ¬ (Overlaps t p) in
      let Q : List PlainPrefix → Type 0 = λ ts. IsFree ts p in
      subst Q (take-append-drop from taken) (All-append P (take from taken) (drop from taken) (subst Q front free_before) (subst Q back free_after))
  free_of_both before after (Some at) front back free_after free_before = tt
