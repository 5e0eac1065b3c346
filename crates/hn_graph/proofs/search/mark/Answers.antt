use Rattle.hn_base.proofs.Names.{◌≡◌, ◌<◌, length, get_or, false, sym, ◌∙◌, arith, take_more}
use Rattle.std.proofs.lemmas.List.{get_or_read}
use Rattle.hn_graph.proofs.Marking.{none_marked, mark_again, mark_new}
use Rattle.hn_graph.proofs.search.mark.Goals as goal
use Rattle.hn_graph.proofs.search.mark.Goals.{then-not-index+in_ok-push, else-not-index}

pub loop-place-init : goal.loop-place-init
loop-place-init c = none_marked c.args.found.now.items c.args.visits.now.items

pub loop-place-preserved : goal.loop-place-preserved
loop-place-preserved c =
    let places = c.args.places.now in
    let n = c.loop-place.place-index in
    let found = c.loop-place.found.items in
    let visits = c.loop-place.visits.items in
    let m = c.loop-place.invariant in
    let p = get_or places n 0 in
    let lt : p < length found = let asked = c.requires n 0 c.loop-place-test.true in let same = m.same_length in omega arith in
    let read : c.index.result.now ≡ get_or found p false = get_or_read found p c.index.result.now lt c.index.ensures false in
    rw (take_more places n 0 c.loop-place-test.true) (elim c.if-not-index.branch [
      | then-not-index+in_ok-push w ↦ rw (w.found-is, w.visits-is, w.in_ok-push.ensures.items) (mark_new _ _ _ found visits p m lt (sym read ∙ w.if-not-index.true))
      | else-not-index w ↦ rw (w.found-is, w.visits-is) (mark_again _ _ _ found visits p m (sym read ∙ w.if-not-index.false))
    ])
