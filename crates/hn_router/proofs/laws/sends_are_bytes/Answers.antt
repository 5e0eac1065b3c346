use Rattle.hn_router.proofs.Changing.{ChangeLaws}
use Rattle.hn_router.proofs.Facts.{EndLaws, sends_bytes}
use Rattle.hn_router.proofs.laws.sends_are_bytes.Goals as goal

pub returns : goal.returns
returns c =
    let changes : ChangeLaws = record {
      refresh = c.rules_make_changes.ensures.refresh;
      arrival = c.rules_make_changes.ensures.arrival;
      expiry = c.rules_make_changes.ensures.expiry;
      ending = c.rules_make_changes.ensures.ending;
      forgetting = c.rules_make_changes.ensures.forgetting;
      assigning = c.rules_make_changes.ensures.assigning;
      ports = c.rules_make_changes.ensures.ports;
      delegating = c.rules_make_changes.ensures.delegating;
      withdrawing = c.rules_make_changes.ensures.withdrawing;
      caps = c.rules_make_changes.ensures.caps;
      private = c.rules_make_changes.ensures.private;
      addressing = c.rules_make_changes.ensures.addressing;
      restarting = c.rules_make_changes.ensures.restarting;
    } in
    let laws : EndLaws = record {
      changes = changes;
      later = c.router_stays_later.ensures;
      hashed = c.changes_keep_hashed.ensures.router;
      attaches = c.rules_keep_the_rest.ensures.attaching;
      detaches = c.rules_keep_the_rest.ensures.detaching;
    } in
    sends_bytes laws c.changes_keep_bytes.ensures
