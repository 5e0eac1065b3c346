use Rattle.hn_base.proofs.Names.{subst, sym}
use Rattle.hn_typed.specs.Reading.{ReadsValue}
use Rattle.hn_typed.proofs.readers.read_value.Goals as goal

pub returns-in-1 : goal.returns-in-1
returns-in-1 c = subst (λ kind. ReadsValue kind c.args.value.now c.request_network.result) (sym c.in-1.is) c.request_network.ensures

pub returns-in-2 : goal.returns-in-2
returns-in-2 c = subst (λ kind. ReadsValue kind c.args.value.now c.request_node.result) (sym c.in-2.is) c.request_node.ensures

pub returns-in-3 : goal.returns-in-3
returns-in-3 c = subst (λ kind. ReadsValue kind c.args.value.now c.node_endpoint.result) (sym c.in-3.is) c.node_endpoint.ensures

pub returns-in-4 : goal.returns-in-4
returns-in-4 c = subst (λ kind. ReadsValue kind c.args.value.now c.network_state.result) (sym c.in-4.is) c.network_state.ensures

pub returns-in-5 : goal.returns-in-5
returns-in-5 c = subst (λ kind. ReadsValue kind c.args.value.now c.node_state.result) (sym c.in-5.is) c.node_state.ensures

pub returns-in-8 : goal.returns-in-8
returns-in-8 c = subst (λ kind. ReadsValue kind c.args.value.now c.peer.result) (sym c.in-8.is) c.peer.ensures

pub returns-in-9 : goal.returns-in-9
returns-in-9 c = subst (λ kind. ReadsValue kind c.args.value.now c.keep_alive.result) (sym c.in-9.is) c.keep_alive.ensures

pub returns-in-32 : goal.returns-in-32
returns-in-32 c = subst (λ kind. ReadsValue kind c.args.value.now c.version.result) (sym c.in-32.is) c.version.ensures

pub returns-in-33 : goal.returns-in-33
returns-in-33 c = subst (λ kind. ReadsValue kind c.args.value.now c.external.result) (sym c.in-33.is) c.external.ensures

pub returns-in-34 : goal.returns-in-34
returns-in-34 c = subst (λ kind. ReadsValue kind c.args.value.now c.delegated.result) (sym c.in-34.is) c.delegated.ensures

pub returns-in-35 : goal.returns-in-35
returns-in-35 c = subst (λ kind. ReadsValue kind c.args.value.now c.assigned.result) (sym c.in-35.is) c.assigned.ensures

pub returns-in-36 : goal.returns-in-36
returns-in-36 c = subst (λ kind. ReadsValue kind c.args.value.now c.address.result) (sym c.in-36.is) c.address.ensures
