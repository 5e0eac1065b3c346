use Rattle.hn_rules.proofs.Routers.{expiry_keeps, ending_keeps, assigning_keeps, delegating_keeps, withdrawing_keeps, attaching_keeps, detaching_keeps, caps_keep, private_keeps, addressing_keeps}
use Rattle.hn_rules.proofs.Routers.{restarting_keeps}
use Rattle.hn_rules.proofs.laws.rules_keep_the_rest.Goals as goal

pub returns : goal.returns
returns c =
    let each = c.changes_keep_the_rest.ensures in
    record {
      expiry = expiry_keeps each;
      ending = ending_keeps each;
      assigning = assigning_keeps each;
      delegating = delegating_keeps each;
      withdrawing = withdrawing_keeps each;
      attaching = attaching_keeps;
      detaching = detaching_keeps c.addresses_stay.ensures.some;
      caps = caps_keep each;
      private = private_keeps each;
      addressing = addressing_keeps each;
      restarting = restarting_keeps each;
    }
