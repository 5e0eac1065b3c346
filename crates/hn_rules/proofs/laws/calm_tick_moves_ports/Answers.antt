use Rattle.hn_rules.proofs.MovedPorts.{tick_moves_ports}
use Rattle.hn_rules.proofs.laws.calm_tick_moves_ports.Goals as goal

pub returns : goal.returns
returns c = tick_moves_ports c.packing_is_not_empty.ensures (record {
  reach = c.reachability_stays.ensures;
  ending = c.ending_leaves.ensures;
  one_expiry = c.rules_have_one_result.ensures.expiry;
  one_refresh = c.rules_have_one_result.ensures.refresh;
})
