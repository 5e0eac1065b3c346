use Rattle.hn_audit.proofs.BridgeVersions.{ReadLaws, own_versions}
use Rattle.hn_audit.proofs.BridgeWorlds.{WorldLaws, BridgeLaws, elect_where_settled}
use Rattle.hn_audit.proofs.FrontWorlds.{replayed}
use Rattle.hn_audit.proofs.laws.settled_elect_alike.Goals as goal

pub returns : goal.returns
returns c =
    let read : ReadLaws = record { published = c.items_are_published.ensures; one_items = c.items_are_unique.ensures } in
    let worlds : WorldLaws = record {
      one_world = c.at_most_one_world.ensures.one;
      sound = c.always_sound.ensures.sound;
      attached = c.always_attached.ensures;
      network = c.view_is_a_network.ensures;
      entries = c.entries_are_as_known.ensures;
    } in
    let laws : BridgeLaws = record {
      worlds = worlds;
      published = c.assigned_is_published.ensures;
      versions = own_versions read;
      peers = c.own_peers_are_of_endpoints.ensures;
      alone = c.private_post_is_alone.ensures;
      pairs_total = c.pairs_are_ordered.ensures.total;
      pairs_exact = c.pairs_are_ordered.ensures.exact;
      links = c.common_link_exists.ensures;
      unique = c.usable_is_unique.ensures;
      apart = c.usable_never_overlap.ensures;
      one_items = c.items_are_unique.ensures;
      advertised_exact = c.lists_are_exact.ensures.advertised;
      links_exact = c.lists_are_exact.ensures.common_link;
      rests = c.home_rests_as_seen.ensures;
      home_sound = c.home_at_rest_is_sound.ensures;
    } in
    let now = elect_where_settled laws c.usable_exists.ensures in
    record {
      now = now;
      always = λ w is past future split.
          let (then, leads, _) = c.always_sound.ensures.always w is past future split in
          let one = c.at_most_one_world.ensures in
          (then, leads, now then (replayed one.trace one.version w.version past then leads));
    }
