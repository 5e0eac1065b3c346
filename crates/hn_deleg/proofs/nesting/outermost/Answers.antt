use Rattle.hn_base.proofs.Names.{◌≡◌, subst, sym, refl, List, length, Some, slice_get, slice_get_read, take_all, PlainPrefix}
use Rattle.hn_deleg.proofs.Names.{IsCovered}
use Rattle.hn_deleg.proofs.Filtered.{IsFiltered, filtered_none, filtered_same_at, filtered_more_at, ready_at, outermost_from_filtered}
use Rattle.hn_deleg.proofs.nesting.outermost.Goals as goal
use Rattle.hn_deleg.proofs.nesting.outermost.Goals.{then-not-is_covered+in_ok-push, else-not-is_covered}

pub loop-p-init : goal.loop-p-init
loop-p-init c = rw c.in_ok-kept.ensures.items filtered_none

pub is_covered-requires : goal.is_covered-requires
is_covered-requires c =
    let xs = c.args.ascending.now in
    let n = c.loop-p.p-index in
    let at : slice_get xs n ≡ Some c.p-item.result = slice_get_read xs (length xs) n c.p-item.result refl c.loop-p-test.true c.p-item.is in
    rw c.as_slice.ensures.value (ready_at xs c.loop-p.kept.items n c.p-item.result at c.requires.ascending c.requires.valid c.loop-p.invariant)

pub loop-p-preserved : goal.loop-p-preserved
loop-p-preserved c =
    let xs = c.args.ascending.now in
    let n = c.loop-p.p-index in
    let p = c.p-item.result in
    let kept = c.loop-p.kept.items in
    let at : slice_get xs n ≡ Some p = slice_get_read xs (length xs) n p refl c.loop-p-test.true c.p-item.is in
    let same : c.as_slice.result.now ≡ kept = c.as_slice.ensures.value in
    elim c.if-not-is_covered.branch [
      | then-not-is_covered+in_ok-push w ↦ rw (w.kept-is, w.in_ok-push.ensures.items)
          (filtered_more_at c.prefixes_are_ranges.ensures.within xs kept n p at c.requires.ascending c.requires.valid c.loop-p.invariant
          (λ h. let clash = w.if-not-is_covered.ensures.1 (subst (λ (l : List PlainPrefix). IsCovered l p) (sym same) h) in cc))
      | else-not-is_covered w ↦ rw w.kept-is
          (filtered_same_at c.prefixes_are_ranges.ensures.within xs kept n p at c.requires.ascending c.requires.valid c.loop-p.invariant
          (subst (λ (l : List PlainPrefix). IsCovered l p) same (w.if-not-is_covered.ensures.0 refl)))
    ]

pub returns : goal.returns
returns c =
    outermost_from_filtered c.args.ascending.now c.loop-p.kept.items
    (subst (λ (xs : List PlainPrefix). IsFiltered xs c.loop-p.kept.items) (take_all c.loop-p.p-index c.args.ascending.now c.loop-p-test.false) c.loop-p.invariant)
