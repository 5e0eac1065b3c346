use Rattle.hn_base.proofs.Names.{◌∙◌, arith}
use Rattle.hn_node.proofs.Names.{plain_site}
use Rattle.hn_node.proofs.Turned.{turn_more, cut_after}
use Rattle.hn_node.proofs.node.Node.turns.Goals as goal

pub loop-preserved : goal.loop-preserved
loop-preserved g c =
    let before = c.loop.invariant in
    let turned = c.in_default.ensures in
    record {
      so_far = turn_more (plain_site c.args.site.now) c.loop.counter _ _ _ c.now-now.result _ _ _ _ _ c.args.self.now c.loop.self _ before.so_far c.now-now.ensures.reading _ turned.ok;
      past = let moment = turned.moment in let last = c.now-now.ensures.last in omega (arith, moment, last);
      no_fault = turned.caused.counts.stays (λ failed. cc) ∙ before.no_fault;
      reliable = λ never. (turned.caused.reliable (before.reliable never)).0;
    }

pub returns-in-Err-clause-cut : goal.returns-in-Err-clause-cut
returns-in-Err-clause-cut g c = λ failed.
    let before = c.loop.invariant in
    cut_after (plain_site c.args.site.now) c.loop.counter _ _ _ c.now-now.result _ _ _ _ _ c.args.self.now c.loop.self _ before.so_far c.now-now.ensures.reading _ _
    (omega arith) (c.in-Err.ensures.cut failed)

pub returns-in-Err-clause-starved : goal.returns-in-Err-clause-starved
returns-in-Err-clause-starved g c = λ starved.
    let past = c.loop.invariant.so_far in record {
      made = c.loop.counter;
      fewer = omega arith;
      past = past.0;
      between = _;
      left = _;
      whole = past.1;
      now = c.now-now.result;
      reads = c.now-now.ensures.reading;
      starves = c.in-Err.ensures.starved starved;
    }
