use Rattle.hn_rules.proofs.NothingDueLasts.{undue_stays}
use Rattle.hn_rules.proofs.laws.undue_stays.Goals as goal

pub returns : goal.returns
returns c = undue_stays (record {
  expiry = c.expiry_is_a_moment.ensures;
  port = c.undue_port_stays.ensures;
  ending = c.ending_is_a_moment.ensures;
  forgetting = c.forgetting_is_a_moment.ensures;
  known = c.held_is_of_an_entry.ensures;
  reach = c.reachability_stays.ensures;
  usable = c.usable_of_later.ensures.usable;
  unwanted = c.usable_of_later.ensures.unwanted;
  common = c.common_link_of_later.ensures;
  run = c.idle_run_stays.ensures;
})
