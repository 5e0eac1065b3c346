-- The TLVs of a datagram: a rule for each kind, and a refresh after each TLV (RFC 7787, sections 4.2 to 4.5).
use Rattle.std.specs.Prelude.{◌≡◌, ℕ, ◌⊎◌, List, [], ◌++◌, map, Some}
use Rattle.hn_tlv.specs.Grammar.{PlainTlv}
use Rattle.hn_typed.specs.Item.{PlainItem}
use Rattle.hn_typed.specs.Item as item
use Rattle.hn_typed.specs.Table.{IsItem}
use Rattle.hn_typed.specs.Fault.{IsItemFault}
use Rattle.hn_dncp.specs.Packing.{IsPacking}
use Rattle.hn_rules.specs.declared.running.Running.{Running}
use Rattle.hn_rules.specs.declared.running.Origin.{Origin}
use Rattle.hn_rules.specs.declared.done.Note.TheVariants as note
use Rattle.hn_base.specs.Rules.{Then, Each}
use Rattle.hn_rules.specs.Rules.{Rule, AtPort, noted}
use Rattle.hn_rules.specs.NodeEndpoint.{node_endpoint}
use Rattle.hn_rules.specs.Requests.{IsNetworkRequest, request_node}
use Rattle.hn_rules.specs.NetworkState.{network_state}
use Rattle.hn_rules.specs.NodeState.{IsNodeState}
use Rattle.hn_rules.specs.Refresh.{IsRefresh}

-- which rule an item runs; one of another kind runs none
abbrev pub IsItemRule : Origin → PlainItem → Rule
IsItemRule from (item.NodeEndpoint node endpoint subs) before after =
    AtPort from.endpoint (λ port b a. a ≡ node_endpoint from (record { 0 = node }) (record { 0 = endpoint }) port b) before after
IsItemRule from (item.RequestNetwork subs) before after = IsNetworkRequest before after
IsItemRule from (item.RequestNode node subs) before after = after ≡ request_node (record { 0 = node }) before
IsItemRule from (item.NetworkState hash subs) before after =
    AtPort from.endpoint (λ port b a. a ≡ network_state hash port b) before after
IsItemRule from (item.NodeState node number age hash body) before after =
    IsNodeState (record { node = node; number = number; age = age; hash = hash; body = body }) before after
IsItemRule from _ before after = after ≡ before

-- a TLV: the rule of its item; one that the item table refuses is noted
abbrev pub IsTlvRule : Origin → PlainTlv → Rule
IsTlvRule from tlv before after =
    ((i : PlainItem) × IsItem tlv i × IsItemRule from i before after)
    ⊎ ((why : ℕ) × IsItemFault tlv why × (after ≡ noted (note.Ignored tlv.kind why) before))

-- the TLVs of a datagram in order, each followed by a refresh
abbrev pub IsTlvs : Origin → List PlainTlv → Rule
IsTlvs from tlvs = Each (λ tlv. Then (IsTlvRule from tlv) IsRefresh) tlvs

-- the answers are sent to the source, under the identifier that the router then has, and there are none after it
pub record IsAnswering (from : Origin) (before after : Running) : Type 0 where
  pub datagrams : List (List ℕ)
  pub packed : IsPacking before.state.id from.endpoint (map (λ a. a.tlv) before.answers) datagrams
  pub gives : after ≡ record before {
    done = record before.done { sends = before.done.sends ++ map (λ bytes. record { endpoint = from.endpoint; to = Some from.from; bytes = bytes }) datagrams };
    answers = [];
  }

-- the rule
abbrev pub IsArrival : Origin → List PlainTlv → Rule
IsArrival from tlvs = Then (IsTlvs from tlvs) (IsAnswering from)
