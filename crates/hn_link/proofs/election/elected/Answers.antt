use Rattle.hn_base.proofs.Names.{rules, ◌≡◌, option_map, option_map_or, ord_max, slice_get-get_or}
use Rattle.hn_link.proofs.Names.{plain_view, rank_cmp}
use Rattle.hn_link.proofs.Candidates.{candidate_more, candidate_same, outcome}
use Rattle.hn_link.proofs.election.elected.Goals as goal
use Rattle.hn_link.proofs.election.elected.Goals.{in-Some, in_default}

pub loop-node-preserved : goal.loop-node-preserved
loop-node-preserved c =
    let view = plain_view c.args.view.now in
    let common = c.args.common.now in
    let letter = c.args.letter in
    let n = c.loop-node.node-index in
    let best = c.loop-node.best in
    elim c.match-rank_in_view.branch [
      | in-Some w ↦
          let r = w.in-Some.rank in
          let is : w.map_or.result ≡ option_map_or (λ b. ord_max rank_cmp b r) best r = search rules in
          rw (w.best-is, is) (candidate_more view letter common n _ best r c.loop-node.invariant (slice_get-get_or common n _ c.loop-node-test.true) w.in-Some.ensures.found w.in-Some.ensures.each)
      | in_default w ↦ rw w.best-is (candidate_same view letter common n _ best c.loop-node.invariant (slice_get-get_or common n _ c.loop-node-test.true) w.in_default.ensures.absent)
    ]

pub returns : goal.returns
returns c =
    let view = plain_view c.args.view.now in
    let node : c.map.result ≡ option_map (λ r. r.node) c.loop-node.best = search rules in
    let either = outcome view c.args.letter c.args.common.now c.loop-node.node-index c.loop-node.best c.map.result c.loop-node-test.false c.loop-node.invariant node in
    record { found = either.0; none = either.1 }
