use Rattle.hn_data.specs.Peers.{peer_link}
use Rattle.hn_data.proofs.asked.linked.Goals as goal

pub returns-then-is_in_set : goal.returns-then-is_in_set
returns-then-is_in_set c =
    let there = peer_link c.args.y.0 c.args.f.0 c.args.e.0 in
    let back = peer_link c.args.x.0 c.args.e.0 c.args.f.0 in (
      λ h. record {
        there = (c.peers.ensures.exact there).0 (c.is_in_set.ensures.0 c.if-is_in_set.true);
        back = (c.peers-then-is_in_set.ensures.exact back).0 (c.is_in_set-then-is_in_set.ensures.0 h);
      },
      λ linked. c.is_in_set-then-is_in_set.ensures.1 ((c.peers-then-is_in_set.ensures.exact back).1 linked.back),
    )

pub returns-else-is_in_set : goal.returns-else-is_in_set
returns-else-is_in_set c =
    let there = peer_link c.args.y.0 c.args.f.0 c.args.e.0 in
    (λ h. absurd (cc), λ linked. c.is_in_set.ensures.1 ((c.peers.ensures.exact there).1 linked.there))
