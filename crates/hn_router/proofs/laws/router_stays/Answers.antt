use Rattle.hn_router.proofs.Stays.{StayLaws, stays}
use Rattle.hn_router.proofs.laws.router_stays.Goals as goal

pub returns : goal.returns
returns c =
    let rules = c.rules_keep_a_router.ensures in
    let rest = c.rules_keep_the_rest.ensures in
    let laws : StayLaws = record {
      later = c.router_stays_later.ensures;
      refreshes = c.refresh_makes_a_router.ensures;
      arrives = rules.arrival;
      forgets = rules.forgetting;
      ticks = rules.ports;
      expires = rest.expiry;
      ends = rest.ending;
      assigns = rest.assigning;
      delegates = rest.delegating;
      withdraws = rest.withdrawing;
      attaches = rest.attaching;
      detaches = rest.detaching;
      sets_caps = rest.caps;
      sets_private = rest.private;
      addresses = rest.addressing;
      restarts = rest.restarting;
    } in
    stays laws
