use Rattle.hn_audit.proofs.BridgeViews.{see_each_other}
use Rattle.hn_audit.proofs.BridgeWorlds.{WorldLaws}
use Rattle.hn_audit.proofs.laws.settled_see_each_other.Goals as goal

pub returns : goal.returns
returns c =
    let worlds : WorldLaws = record {
      one_world = c.at_most_one_world.ensures.one;
      sound = c.always_sound.ensures.sound;
      attached = c.always_attached.ensures;
      network = c.view_is_a_network.ensures;
      entries = c.entries_are_as_known.ensures;
    } in
    see_each_other worlds
