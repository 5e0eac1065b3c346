use Rattle.hn_rules.proofs.TickDoesNothing.{nothing_came_undue}
use Rattle.hn_rules.proofs.laws.tick_of_nothing_is_undue.Goals as goal

pub returns : goal.returns
returns c = nothing_came_undue (record {
  one_order = c.ascending_is_unique.ensures;
  ending = c.ending_leaves.ensures;
  forgetting = c.forgetting_leaves.ensures.none;
  port = c.undue_port.ensures;
  packing = c.packing_is_not_empty.ensures;
})
