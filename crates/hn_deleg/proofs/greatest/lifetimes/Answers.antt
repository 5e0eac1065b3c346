use Rattle.hn_base.proofs.Names.{◌≡◌, subst, List, refl, length, Some, slice_get, slice_get_read, take_all}
use Rattle.hn_deleg.proofs.Names.{Delegated}
use Rattle.hn_deleg.proofs.Prefixes.{prefix_from_test, other_from_test}
use Rattle.hn_deleg.proofs.GreatestLifetimes.{AreTops, tops_none, tops_more_at, tops_other_at, lifetimes_from_tops}
use Rattle.hn_deleg.proofs.greatest.lifetimes.Goals as goal
use Rattle.hn_deleg.proofs.greatest.lifetimes.Goals.{then-eq, else-eq}

pub loop-one-init : goal.loop-one-init
loop-one-init c = tops_none c.args.prefix.now

pub loop-one-preserved : goal.loop-one-preserved
loop-one-preserved c =
    let xs = c.args.list.now in
    let n = c.loop-one.one-index in
    let u = c.one-item.result in
    let p = c.args.prefix.now in
    let at : slice_get xs n ≡ Some u = slice_get_read xs (length xs) n u refl c.loop-one-test.true c.one-item.is in
    elim c.if-eq.branch [
      | then-eq w ↦ rw (w.valid-is, w.preferred-is, w.max-valid.ensures, w.max-preferred.ensures)
          (tops_more_at xs n u p c.loop-one.valid c.loop-one.preferred at c.loop-one.invariant (prefix_from_test u.prefix p w.if-eq.ensures))
      | else-eq w ↦ rw (w.valid-is, w.preferred-is)
          (tops_other_at xs n u p c.loop-one.valid c.loop-one.preferred at c.loop-one.invariant (other_from_test u.prefix p w.if-eq.ensures))
    ]

pub returns-clause-lifetimes : goal.returns-clause-lifetimes
returns-clause-lifetimes c =
    let u : Delegated = record { prefix = c.args.prefix.now; valid = c.loop-one.valid; preferred = c.min.result } in
    lifetimes_from_tops c.args.list.now u c.loop-one.preferred c.requires
    (subst (λ (xs : List Delegated). AreTops xs c.args.prefix.now c.loop-one.valid c.loop-one.preferred) (take_all c.loop-one.one-index c.args.list.now c.loop-one-test.false) c.loop-one.invariant)
    c.min.ensures
