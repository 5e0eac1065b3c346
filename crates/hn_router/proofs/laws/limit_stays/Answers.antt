use Rattle.hn_router.proofs.Changing.{ChangeLaws}
use Rattle.hn_router.proofs.Facts.{limit_stays}
use Rattle.hn_router.proofs.laws.limit_stays.Goals as goal

pub returns : goal.returns
returns c =
    let changes : ChangeLaws = record {
      refresh = c.rules_make_changes.ensures.refresh;
      arrival = c.rules_make_changes.ensures.arrival;
      expiry = c.rules_make_changes.ensures.expiry;
      ending = c.rules_make_changes.ensures.ending;
      forgetting = c.rules_make_changes.ensures.forgetting;
      assigning = c.rules_make_changes.ensures.assigning;
      ports = c.rules_make_changes.ensures.ports;
      delegating = c.rules_make_changes.ensures.delegating;
      withdrawing = c.rules_make_changes.ensures.withdrawing;
      caps = c.rules_make_changes.ensures.caps;
      private = c.rules_make_changes.ensures.private;
      addressing = c.rules_make_changes.ensures.addressing;
      restarting = c.rules_make_changes.ensures.restarting;
    } in
    limit_stays changes c.changes_keep_the_limit.ensures
