use Rattle.hn_audit.proofs.BridgeWorlds.{WorldLaws}
use Rattle.hn_audit.proofs.CalmDeliveries.{CalmLaws}
use Rattle.hn_audit.proofs.RestOfPassed.{PassLaws}
use Rattle.hn_audit.proofs.RoundsRenewed.{RoundLaws}
use Rattle.hn_audit.proofs.StayingRests.{RestLaws}
use Rattle.hn_audit.proofs.laws.rest_goes_in_turns.Goals as goal
use Rattle.hn_audit.proofs.TurnsOfTicks.{rest_goes_in_turns}
use Rattle.hn_audit.proofs.RestsHeard.{HeardLaws}
use Rattle.hn_audit.proofs.RestsOnwards.{RestingLaws}

pub returns : goal.returns
returns c =
    let worlds : WorldLaws = record {
      one_world = c.at_most_one_world.ensures.one;
      sound = c.always_sound.ensures.sound;
      attached = c.always_attached.ensures;
      network = c.view_is_a_network.ensures;
      entries = c.entries_are_as_known.ensures;
    } in
    let rests : RestLaws = record {
      unique = c.usable_is_unique.ensures;
      common = c.common_link_of_later.ensures;
      advertised_later = c.advertised_of_later.ensures;
      advertised_same = c.advertised_of_unchanged.ensures;
      rest_same = c.rest_stays.ensures.unchanged;
      rest_unwanted = c.rest_stays.ensures.unwanted;
      rest_changes = c.rest_changes_no_assignment.ensures;
      view = c.view_of_later.ensures;
      used = c.used_where_assigned.ensures;
      calm_tick = c.calm_tick.ensures;
    } in
    let pass : PassLaws = record {
      unique = c.usable_is_unique.ensures;
      common = c.common_link_of_later.ensures;
      advertised = c.advertised_of_later.ensures;
      view = c.view_of_later.ensures;
    } in
    let calm : CalmLaws = record {
      stay = record { worlds = worlds; rests = rests; id = c.tick_keeps_the_identifier.ensures; moment = c.moment_is_now.ensures };
      pass = pass;
      follow = c.endpoints_follow.ensures;
      updates = c.updates_of_peers_are_let_pass.ensures;
      one = c.one_result.ensures;
    } in
    let laws : RestingLaws = record {
      calm = calm;
      hash = c.hash_is_of_leaves.ensures;
      hashed = c.changes_keep_hashed.ensures.router;
      sends = c.ticks_send_status_updates.ensures;
      next = record { traces = c.at_most_one_world.ensures.trace; versions = c.at_most_one_world.ensures.version };
    } in
    let heard : HeardLaws = record { resting = laws; interval = c.own_interval_is_default.ensures; peers = c.calm_tick_moves_ports.ensures } in
    let rounds : RoundLaws = record { heard = heard; lists = c.list_is_unique.ensures; items = c.item_is_unique.ensures; attached = c.peers_are_attached.ensures } in
    rest_goes_in_turns (record { rounds = rounds; sent = c.ticks_have_sent.ensures })
