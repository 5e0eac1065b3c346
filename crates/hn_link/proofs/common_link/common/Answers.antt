use Rattle.hn_base.proofs.Names.{◌≡◌, get_or, IsTrue, refl, slice_get-get_or}
use Rattle.hn_link.proofs.Names.{plain_view, part_is}
use Rattle.hn_link.proofs.Joined.{joined_more, joined_same, common_from_joined}
use Rattle.hn_link.proofs.common_link.common.Goals as goal
use Rattle.hn_link.proofs.common_link.common.Goals.{then-is_joined+in_ok-push, else-is_joined}

pub loop-link-preserved : goal.loop-link-preserved
loop-link-preserved c =
    let nodes = c.args.view.now.nodes.now in
    let own = get_or nodes c.in-Some.place c.index-view-place.result in
    let links = c.peers-link-items.result.now in
    let n = c.loop-link.link-index in
    let endpoints = c.loop-link.endpoints.items in
    elim c.if-is_joined.branch [
      | then-is_joined+in_ok-push w ↦ rw (w.endpoints-is, w.in_ok-push.ensures.items)
          (joined_more nodes own c.args.e.0 links n _ (c.args.view.now.own, c.args.e) endpoints c.loop-link.invariant (slice_get-get_or links n _ c.loop-link-test.true)
          (c.is_joined.ensures.0 w.if-is_joined.true))
      | else-is_joined w ↦ rw w.endpoints-is (joined_same nodes own c.args.e.0 links n _ (c.args.view.now.own, c.args.e) endpoints c.loop-link.invariant
          (slice_get-get_or links n _ c.loop-link-test.true)
          (λ j. let yes : IsTrue c.is_joined.result = c.is_joined.ensures.1 j in let no = w.if-is_joined.false in absurd (cc)))
    ]

pub returns : goal.returns
returns c =
    let view = plain_view c.args.view.now in
    let place = c.in-Some.place in
    let own = get_or view.nodes place c.index-view-place.result in
    let at = slice_get-get_or view.nodes place c.index-view-place.result c.in-Some.ensures.within in
    let own_is : own.id.0 ≡ view.own = part_is (λ n. n.id.0) view.nodes place view.own own at c.in-Some.ensures.found in
    rw c.from.ensures (record {
      ascending = c.sort_to_set.ensures.ascending;
      exact = λ at_link.
          let same = c.sort_to_set.ensures.same at_link in
          let exact = common_from_joined view own place c.args.view.now.own c.args.e c.peers-link-items.result.now c.loop-link.link-index
          c.loop-link.endpoints.items c.requires.ascending at own_is refl c.loop-link-test.false c.peers-link-items.ensures.exact c.loop-link.invariant at_link in
          (λ h. exact.0 (same.0 h), λ h. same.1 (exact.1 h));
    })
