use Rattle.hn_base.proofs.Names.{refl, string_bytes}
use Rattle.hn_table.proofs.Names.{plain_view, IsFateLine, delegated_line}
use Rattle.hn_table.proofs.Orders.{adds_more, adds_all, adds_said}
use Rattle.hn_table.proofs.Outers.{has_this}
use Rattle.hn_table.proofs.delegated_lines.push_seen.Goals as goal

pub fate_of-fate-requires-clause-said : goal.fate_of-fate-requires-clause-said
fate_of-fate-requires-clause-said c =
    (c.delegations-d-items.ensures.exact c.d-item.result).0 (has_this c.delegations-d-items.result.now c.loop-d.d-index c.d-item.result c.loop-d-test.true c.d-item.is)

pub loop-d-preserved : goal.loop-d-preserved
loop-d-preserved c =
    adds_more (IsFateLine (plain_view c.args.view.now) c.args.used.now c.args.node.now) c.delegations-d-items.result.now c.loop-d.d-index c.d-item.result (string_bytes c.args.text.now)
    (string_bytes c.loop-d.text) (string_bytes c.push_delegation.new.text) c.loop-d-test.true c.d-item.is c.loop-d.invariant (record {
      added = delegated_line c.args.node.now.id c.d-item.result c.fate_of-fate.result;
      is_added = (c.fate_of-fate.result, c.fate_of-fate.ensures, refl);
      after_is = c.in_ok-push_delegation.ensures;
    })

pub returns : goal.returns
returns c =
    let line = IsFateLine (plain_view c.args.view.now) c.args.used.now c.args.node.now in
    let said = c.delegations-d-items.result.now in
    adds_said line c.args.node.now.body said c.delegations-d-items.ensures.in_order c.delegations-d-items.ensures.exact (string_bytes c.args.text.now) (string_bytes c.loop-d.text)
    (adds_all line said c.loop-d.d-index (string_bytes c.args.text.now) (string_bytes c.loop-d.text) c.loop-d-test.false c.loop-d.invariant)
