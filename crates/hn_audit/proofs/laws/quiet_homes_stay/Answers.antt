use Rattle.hn_audit.proofs.BridgeWorlds.{WorldLaws}
use Rattle.hn_audit.proofs.StayingRests.{RestLaws}
use Rattle.hn_audit.proofs.StayingSteps.{quiet_stays}
use Rattle.hn_audit.proofs.laws.quiet_homes_stay.Goals as goal

pub returns : goal.returns
returns c =
    let worlds : WorldLaws = record {
      one_world = c.at_most_one_world.ensures.one;
      sound = c.always_sound.ensures.sound;
      attached = c.always_attached.ensures;
      network = c.view_is_a_network.ensures;
      entries = c.entries_are_as_known.ensures;
    } in
    let rests : RestLaws = record {
      unique = c.usable_is_unique.ensures;
      common = c.common_link_of_later.ensures;
      advertised_later = c.advertised_of_later.ensures;
      advertised_same = c.advertised_of_unchanged.ensures;
      rest_same = c.rest_stays.ensures.unchanged;
      rest_unwanted = c.rest_stays.ensures.unwanted;
      rest_changes = c.rest_changes_no_assignment.ensures;
      view = c.view_of_later.ensures;
      used = c.used_where_assigned.ensures;
      calm_tick = c.calm_tick.ensures;
    } in
    quiet_stays (record { worlds = worlds; rests = rests; id = c.tick_keeps_the_identifier.ensures; moment = c.moment_is_now.ensures })
    c.quiet_homes_stay_over_deliveries.ensures
