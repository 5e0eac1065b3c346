use Rattle.hn_table.proofs.Names.{plain_view, HasNoOuter}
use Rattle.hn_table.proofs.Outers.{each, each_more, has_this, no_outer_candidate, outer_candidate}
use Rattle.hn_table.proofs.outer.outer_of.Goals as goal

pub returns-in-Some-clause-found : goal.returns-in-Some-clause-found
returns-in-Some-clause-found c =
    outer_candidate (plain_view c.args.view.now) c.node-item.result c.args.prefix.now c.in-Some.outer
    (has_this c.args.view.now.nodes.now c.loop-node.node-index c.node-item.result c.loop-node-test.true c.node-item.is) c.in-Some.ensures.found

pub loop-node-preserved : goal.loop-node-preserved
loop-node-preserved c =
    each_more c.args.view.now.nodes.now c.loop-node.node-index (HasNoOuter c.args.prefix.now) c.node-item.result c.loop-node-test.true c.node-item.is c.loop-node.invariant
    c.in_default.ensures.none

pub returns-clause-none : goal.returns-clause-none
returns-clause-none c q candidate inside =
    let none = HasNoOuter c.args.prefix.now in
    let nodes = c.args.view.now.nodes.now in
    no_outer_candidate (plain_view c.args.view.now) c.args.prefix.now (each nodes c.loop-node.node-index none c.loop-node-test.false c.loop-node.invariant) q candidate inside
