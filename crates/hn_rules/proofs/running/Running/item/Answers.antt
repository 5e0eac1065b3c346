use Rattle.hn_base.proofs.Names.{subst}
use Rattle.hn_rules.proofs.Names.{ArePorts}
use Rattle.hn_rules.proofs.Arriving.{ran_node_endpoint, ran_network_request}
use Rattle.hn_rules.proofs.TouchesNothingRead.{network_request_untouched, request_node_untouched, network_state_untouched}
use Rattle.hn_rules.proofs.running.Running.item.Goals as goal

pub returns-in_ok-touched-in-NodeEndpoint-clause-ran : goal.returns-in_ok-touched-in-NodeEndpoint-clause-ran
returns-in_ok-touched-in-NodeEndpoint-clause-ran g c =
    rw c.in-NodeEndpoint.is
    (ran_node_endpoint c.args.from.now c.in-NodeEndpoint.node c.in-NodeEndpoint.endpoint _ c.args.self.now c.node_endpoint.new.self c.in_ok-touched-in-NodeEndpoint.ensures.rule)

pub returns-in_ok-request_network-in-RequestNetwork-clause-ran : goal.returns-in_ok-request_network-in-RequestNetwork-clause-ran
returns-in_ok-request_network-in-RequestNetwork-clause-ran g c = rw c.in-RequestNetwork.is (ran_network_request _ c.args.self.now _ c.in_ok-request_network-in-RequestNetwork.ensures)

pub returns-in_ok-request_network-in-RequestNetwork-clause-untouched : goal.returns-in_ok-request_network-in-RequestNetwork-clause-untouched
returns-in_ok-request_network-in-RequestNetwork-clause-untouched g c none = network_request_untouched c.args.self.now c.request_network.new.self c.in_ok-request_network-in-RequestNetwork.ensures

pub returns-in_ok-request_node-in-RequestNode-clause-untouched : goal.returns-in_ok-request_node-in-RequestNode-clause-untouched
returns-in_ok-request_node-in-RequestNode-clause-untouched g c none = request_node_untouched c.in-RequestNode.node c.args.self.now c.request_node.new.self c.in_ok-request_node-in-RequestNode.ensures

pub returns-in_ok-network_state-in-NetworkState-clause-untouched : goal.returns-in_ok-network_state-in-NetworkState-clause-untouched
returns-in_ok-network_state-in-NetworkState-clause-untouched g c none =
    network_state_untouched c.args.from.now c.in-NetworkState.hash c.args.self.now c.network_state.new.self
    (subst ArePorts c.get.ensures c.as_slice-kept.ensures.kept) c.in_ok-network_state-in-NetworkState.ensures
