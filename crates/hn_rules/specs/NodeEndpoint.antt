-- A Node Endpoint, and the asking for the network state (RFC 7787, sections 4.4, 4.5 and 7.2.1).
use Rattle.std.specs.Prelude.{ℕ, ◌==◌, if◌then◌else◌, [], Some, is_some}
use Rattle.hn_base.specs.declared.ids.NodeId.{NodeId}
use Rattle.hn_base.specs.declared.ids.EpId.{EpId}
use Rattle.hn_typed.specs.Item.{RequestNetwork}
use Rattle.hn_dncp.specs.declared.port.Port.{Port}
use Rattle.hn_dncp.specs.declared.greet.Greet.{Greet}
use Rattle.hn_dncp.specs.declared.greet.Greet.TheVariants.{Full, Unknown}
use Rattle.hn_dncp.specs.Greet.{greeting, greeted}
use Rattle.hn_dncp.specs.Ask.{may_ask, asked}
use Rattle.hn_rules.specs.declared.running.Running.{Running}
use Rattle.hn_rules.specs.declared.running.Origin.{Origin}
use Rattle.hn_rules.specs.declared.done.Note.TheVariants.{Ignored, PeersFull}
use Rattle.hn_rules.specs.declared.answers.Subject.TheVariants.{NetworkRequest}
use Rattle.hn_rules.specs.Rules.{noted, with_port}
use Rattle.hn_rules.specs.Answers.{with_answer}

-- the endpoint asks for the network state, if it may
abbrev pub asking : Port → Running → Running
asking port r =
    if may_ask r.state.moment port.asked then with_answer NetworkRequest (RequestNetwork []) (with_port (asked r.state.moment port) r)
    else r

-- what comes of the greeting beside the endpoint's peers: the router notes that it has no room for a peer, and asks an
-- unknown sender of a multicast
abbrev pub met : Greet → Port → Running → Running
met Full port r = noted PeersFull r
met Unknown port r = asking port r
met _ port r = r

-- the endpoint after it greeted the sender
abbrev pub greeting_port : Origin → NodeId → EpId → ℕ → Port → Port
greeting_port from node endpoint now port = greeted node endpoint from.from from.multicast now port

-- the sender is named, and the endpoint greets it
abbrev pub named : Origin → NodeId → EpId → Port → Running → Running
named from node endpoint port r =
    let after = greeting_port from node endpoint r.state.moment port in
    met (greeting node endpoint from.multicast port.peers) after (with_port after (record r { sender = Some (node, endpoint) }))

-- a Node Endpoint is refused with endpoint 0, with the own identifier, and after one that was accepted
abbrev pub node_endpoint : Origin → NodeId → EpId → Port → Running → Running
node_endpoint from node endpoint port r =
    if endpoint.0 == 0 then noted (Ignored 3 7) r
    else (if node.0 == r.state.id.0 then noted (Ignored 3 6) r
    else (if is_some r.sender then noted (Ignored 3 5) r
    else named from node endpoint port r))
