use Rattle.hn_base.proofs.Names.{◌≡◌, ap, ◌∙◌, sym, map_over_more}
use Rattle.hn_pair.proofs.Names.{marked_applied}
use Rattle.std.specs.Prelude.{slice_set}
use Rattle.hn_pair.proofs.assignments.mark_all.Goals as goal

pub loop-c-preserved : goal.loop-c-preserved
loop-c-preserved c =
    let f = marked_applied c.args.now in
    let x = c.c-item.result in
    let is : c.mark.new.self ≡ f x = c.mark.ensures ∙ ap f (sym c.c-item.is) in
    ap (slice_set c.loop-c.items c.loop-c.c-index) is ∙ map_over_more f c.args.items.now c.loop-c.items c.loop-c.c-index x c.loop-c-test.true c.loop-c.invariant c.c-item.is
