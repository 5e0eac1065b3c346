use Rattle.hn_router.proofs.SomeEvents.{SomeEventLaws, some_event}
use Rattle.hn_router.proofs.laws.event_has_a_result.Goals as goal

pub returns : goal.returns
returns c =
    let rules = c.rules_keep_a_router.ensures in
    let rest = c.rules_keep_the_rest.ensures in
    let results = c.rules_have_a_result.ensures in
    let laws : SomeEventLaws = record {
      list_or_fault = c.list_or_first_fault.ensures;
      refresh = results.refresh;
      arrival = results.arrival;
      tick = results.tick;
      attaching = results.attaching;
      restarting = results.restarting;
      stays = record {
        later = c.router_stays_later.ensures;
        refreshes = c.refresh_makes_a_router.ensures;
        arrives = rules.arrival;
        forgets = rules.forgetting;
        ticks = rules.ports;
        expires = rest.expiry;
        ends = rest.ending;
        assigns = rest.assigning;
        delegates = rest.delegating;
        withdraws = rest.withdrawing;
        attaches = rest.attaching;
        detaches = rest.detaching;
        sets_caps = rest.caps;
        sets_private = rest.private;
        addresses = rest.addressing;
        restarts = rest.restarting;
      };
    } in
    some_event laws
