use Rattle.hn_base.proofs.Names.{length, refl, slice_get, Some, ◌≡◌, slice_get_read}
use Rattle.hn_graph.proofs.MarkedIds.{none_found, found_same, found_more, found_all}
use Rattle.hn_graph.proofs.search.found_ids.Goals as goal
use Rattle.hn_graph.proofs.search.found_ids.Goals.{then-is_found+in_ok-push, else-is_found}

pub loop-place-init : goal.loop-place-init
loop-place-init c = rw c.in_ok-ids.ensures.items (none_found c.args.nodes.now c.args.found.now)

pub loop-place-preserved : goal.loop-place-preserved
loop-place-preserved c =
    let nodes = c.args.nodes.now in
    let place = c.loop-place.place in
    let node = c.index-nodes-place.result in
    let at : slice_get nodes place ≡ Some node = slice_get_read nodes (length nodes) place node refl c.loop-place-test.true c.index-nodes-place.is in
    let were = c.loop-place.invariant in
    elim c.if-is_found.branch [
      | then-is_found+in_ok-push w ↦ rw (w.ids-is, w.in_ok-push.ensures.items) (found_more nodes c.args.found.now place c.loop-place.ids.items node c.requires.ascending were at w.if-is_found.true)
      | else-is_found w ↦ rw w.ids-is (found_same nodes c.args.found.now place c.loop-place.ids.items node were at (λ h. absurd (let un = w.if-is_found.false in cc)))
    ]

pub returns-clause-exact : goal.returns-clause-exact
returns-clause-exact c id = rw c.from.ensures (found_all c.args.nodes.now c.args.found.now c.loop-place.place c.loop-place.ids.items id c.loop-place-test.false c.loop-place.invariant)
