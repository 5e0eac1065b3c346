-- Requests for the network state and for the state of a node (RFC 7787, sections 7.1.1 and 7.1.2).
use Rattle.std.specs.Prelude.{◌≡◌, ℕ, ◌-◌, ◌^◌, min, Bool, true, false, ◌==◌, if◌then◌else◌, List, [], Option, Some, None}
use Rattle.std.specs.List.{list_any}
use Rattle.std.specs.Option.{option_map}
use Rattle.hn_base.specs.declared.ids.NodeId.{NodeId}
use Rattle.hn_typed.specs.Item.{PlainItem}
use Rattle.hn_typed.specs.Item as item
use Rattle.hn_store.specs.Nodes.{held}
use Rattle.hn_store.specs.declared.stored.Stored.{Stored}
use Rattle.hn_rules.specs.declared.state.State.{State}
use Rattle.hn_rules.specs.declared.running.Running.{Running}
use Rattle.hn_rules.specs.declared.answers.Subject.{Subject}
use Rattle.hn_rules.specs.declared.answers.Subject.TheVariants.{NetworkState, NodeState, NodeData}
use Rattle.hn_rules.specs.Nodes.{age_at}
use Rattle.hn_base.specs.Rules.{Each}
use Rattle.hn_rules.specs.Rules.{Rule}
use Rattle.hn_rules.specs.Answers.{with_answer}

-- the age that is sent is at most 2^32 - 1 ms
abbrev pub sent_age : ℕ → ℕ
sent_age age = min age (2 ^ 32 - 1)

-- the node data that is sent with a state: all, or none
abbrev pub sent_data : Bool → List ℕ → List ℕ
sent_data with_data body = if with_data then body else []

-- the Node State of the own node, and of a held one
abbrev pub own_state : Bool → State → PlainItem
own_state with_data s = item.NodeState s.id.0 s.number (sent_age (s.moment - s.own.born)) s.own.hash (sent_data with_data s.own.body)

abbrev pub held_state : Bool → ℕ → NodeId → Stored → PlainItem
held_state with_data now id stored = item.NodeState id.0 stored.number (sent_age (age_at now stored)) stored.hash (sent_data with_data stored.body)

-- the Node State of a node that is known
abbrev pub state_item : Bool → State → NodeId → Option PlainItem
state_item with_data s id =
    if id.0 == s.id.0 then Some (own_state with_data s)
    else option_map (held_state with_data s.moment id) (held s.table.entries id.0)

-- an answer, if there is something to say
abbrev pub with_some_answer : Subject → Option PlainItem → Running → Running
with_some_answer subject None r = r
with_some_answer subject (Some item) r = with_answer subject item r

-- a node's state without its data
abbrev pub with_state : NodeId → Running → Running
with_state id r = with_some_answer (NodeState id) (state_item false r.state id) r

-- Request Network State: the network state hash, and the state of each reachable node in ascending order
abbrev pub IsNetworkRequest : Rule
IsNetworkRequest before after =
    Each (λ id b a. a ≡ with_state id b) before.state.reach (with_answer NetworkState (item.NetworkState before.state.net []) before) after

-- whether a node is reachable
abbrev pub is_reached : NodeId → List NodeId → Bool
is_reached id reach = list_any (λ r. r.0 == id.0) reach

-- Request Node State: a reachable node's state with its data; for another node there is no answer
abbrev pub request_node : NodeId → Running → Running
request_node id r =
    if is_reached id r.state.reach then with_some_answer (NodeData id) (state_item true r.state id) r
    else r
