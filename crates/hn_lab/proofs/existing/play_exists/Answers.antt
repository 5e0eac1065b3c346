use Rattle.hn_lab.proofs.SomeChoices.{ChoiceLaws}
use Rattle.hn_lab.proofs.SomeEvents.{EventLaws}
use Rattle.hn_lab.proofs.SomeLines.{lines_have_a_play}
use Rattle.hn_lab.proofs.existing.play_exists.Goals as goal

pub returns : goal.returns
returns c =
    let events : EventLaws = record {
      steps = c.step_exists.ensures.replayed;
      enters = c.each_event_is_entered.ensures.entered;
      room = c.each_event_is_entered.ensures.room;
      trace = c.at_most_one_world.ensures.trace;
      version = c.at_most_one_world.ensures.version;
    } in
    let choices : ChoiceLaws = record {
      events = events;
      sound = c.always_sound.ensures.sound;
      choices = c.choice_exists.ensures;
      addresses = c.chosen_addresses_fit.ensures;
      decisions = c.decision_exists.ensures;
      announced = c.announced_is_a_prefix.ensures;
      exchanges = c.exchange_exists.ensures;
      repairs = c.exchange_repairs.ensures;
    } in
    lines_have_a_play (record {
      turns = record { events = events; sound = c.always_sound.ensures.sound; adverts = c.advert_exists.ensures; read = c.written_is_read.ensures };
      reports = record {
        sound = c.always_sound.ensures.sound;
        usable = c.usable_exists.ensures;
        elected = c.elected_exists.ensures;
        adverts = c.advert_exists.ensures;
        agreements = c.agreement_exists.ensures.routers;
        settled = c.settled_and_quiet_is_sound.ensures;
        see = c.settled_see_each_other.ensures;
        version = c.own_version_is_said.ensures;
        said = c.own_addresses_are_said.ensures;
        stays = c.still_addresses_stay.ensures;
        network = c.view_is_a_network.ensures;
        entries = c.entries_are_as_known.ensures;
      };
      choices = choices;
    })
