use Rattle.hn_base.proofs.Names.{◌≡◌, ◌-◌, sym, slice_get, Some, length}
use Rattle.hn_deleg.proofs.Names.{contains_at}
use Rattle.hn_deleg.proofs.Filtered.{covered_by_last}
use Rattle.hn_deleg.proofs.nesting.is_covered.Goals as goal

pub returns-in-Some : goal.returns-in-Some
returns-in-Some c =
    let kept = c.args.kept.now in
    let last = c.in-Some.last.now in
    let at : slice_get kept (length kept - 1) ≡ Some last = sym c.in-Some.ensures.value in (
      λ t. record { outer = last; among = contains_at kept (length kept - 1) last at; inside = c.contains.ensures.0 t },
      λ h. c.contains.ensures.1 (covered_by_last c.prefixes_are_ranges.ensures.within c.prefixes_are_ranges.ensures.overlap c.overlap_is_nesting.ensures kept c.args.p.now last c.requires at h),
    )
