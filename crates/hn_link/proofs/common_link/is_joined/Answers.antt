use Rattle.hn_base.proofs.Names.{rules, ◌≡◌}
use Rattle.hn_link.proofs.Joined.{joined_where_led}
use Rattle.hn_link.proofs.common_link.is_joined.Goals as goal

pub returns-then-eq : goal.returns-then-eq
returns-then-eq c =
    let here : c.args.link.now.endpoint.0 ≡ c.args.e.0 = search rules in
    rw c.is_some.ensures (joined_where_led c.args.nodes.now c.args.node.now c.args.e.0 c.args.link.now c.peer_place.result here c.peer_place.ensures.found c.peer_place.ensures.absent)
