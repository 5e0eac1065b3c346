use Rattle.hn_rules.proofs.NothingKeptIsDue.{calm_tick_leaves_ages}
use Rattle.hn_rules.proofs.laws.calm_tick_leaves_ages.Goals as goal

pub returns : goal.returns
returns c = calm_tick_leaves_ages (record {
  reach = c.reachability_stays.ensures;
  ending = c.ending_leaves.ensures;
  one_expiry = c.rules_have_one_result.ensures.expiry;
  one_refresh = c.rules_have_one_result.ensures.refresh;
})
