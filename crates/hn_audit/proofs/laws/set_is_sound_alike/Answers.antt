use Rattle.hn_audit.proofs.BridgeWorlds.{WorldLaws, alike_where_settled}
use Rattle.hn_audit.proofs.laws.set_is_sound_alike.Goals as goal

pub returns : goal.returns
returns c =
    let worlds : WorldLaws = record {
      one_world = c.at_most_one_world.ensures.one;
      sound = c.always_sound.ensures.sound;
      attached = c.always_attached.ensures;
      network = c.view_is_a_network.ensures;
      entries = c.entries_are_as_known.ensures;
    } in
    alike_where_settled c.usable_is_unique.ensures worlds
