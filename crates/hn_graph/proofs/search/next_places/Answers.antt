use Rattle.hn_base.proofs.Names.{ℕ, Contains-get_or, slice_get-get_or}
use Rattle.hn_graph.proofs.WhereLinksLead.{across_more, across_same, next_across}
use Rattle.hn_graph.proofs.search.next_places.Goals as goal
use Rattle.hn_graph.proofs.search.next_places.Goals.{in-Some+in_ok-push, in_default}

pub loop-link-preserved : goal.loop-link-preserved
loop-link-preserved c =
    let nodes = c.args.nodes.now in
    let node = c.args.node.now in
    let links = c.peers-link-items.result.now in
    let n = c.loop-link.link-index in
    elim c.match-open_place.branch [
      | in-Some+in_ok-push w ↦ rw (w.places-is, w.in_ok-push.ensures.items)
          (across_more nodes node links c.args.found.now n c.loop-link.places.items _ w.in-Some.place c.requires.ascending c.loop-link.invariant
          (slice_get-get_or links n _ c.loop-link-test.true) w.in-Some.ensures.found)
      | in_default w ↦ rw w.places-is (across_same nodes node links c.args.found.now n c.loop-link.places.items _ c.loop-link.invariant
          (slice_get-get_or links n _ c.loop-link-test.true) w.in_default.ensures.absent)
    ]

pub open_place-requires-clause-said : goal.open_place-requires-clause-said
open_place-requires-clause-said c =
    let links = c.peers-link-items.result.now in
    let n = c.loop-link.link-index in
    (c.peers-link-items.ensures.exact _).0 (Contains-get_or links n _ c.loop-link-test.true)

pub returns : goal.returns
returns c =
    let across = λ (place : ℕ). next_across c.args.nodes.now c.args.node.now c.peers-link-items.result.now c.loop-link.link-index place
    c.loop-link-test.false c.peers-link-items.ensures.exact c.if-node-ge-AGE_LIMIT.false in
    let are = c.loop-link.invariant in
    record {
      only = λ place there. (across place).0 ((are place).0 there);
      all = λ place next. (are place).1 ((across place).1 next);
    }
