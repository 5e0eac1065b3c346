-- What a rule does to a router in the middle of an event is a list of elementary changes. What they take from a datagram
-- its TLVs say; beside an arrival there are none.
use Rattle.std.specs.Prelude.{◌≡◌, ◌≢◌, ℕ, ◌^◌, ◌<◌, ◌⊎◌, Bool, true, false, List, [], ◌∷◌, ◌++◌, map, length, Contains, Option, Some, All}
use Rattle.std.specs.Str.{bytes_eq}
use Rattle.hn_base.specs.Prefix.{PlainPrefix}
use Rattle.hn_base.specs.declared.addr.Addr.{Addr}
use Rattle.hn_base.specs.declared.caps.Caps.{Caps}
use Rattle.hn_base.specs.declared.ids.EpId.{EpId}
use Rattle.hn_base.specs.declared.ids.NodeId.{NodeId}
use Rattle.hn_tlv.specs.Grammar.{PlainTlv, spelling}
use Rattle.hn_timers.specs.Interval.{interval_from}
use Rattle.hn_typed.specs.Item.{PlainItem}
use Rattle.hn_typed.specs.Item as item
use Rattle.hn_typed.specs.Table.{InRange, IsItem}
use Rattle.hn_typed.specs.Written.{tlv_of}
use Rattle.hn_dncp.specs.declared.peers.Neighbour.{Neighbour}
use Rattle.hn_dncp.specs.declared.port.Port.{Port}
use Rattle.hn_dncp.specs.Ask.{asked}
use Rattle.hn_dncp.specs.Greet.{greeted}
use Rattle.hn_dncp.specs.Hash.{hashed}
use Rattle.hn_dncp.specs.Packing.{IsPacking}
use Rattle.hn_dncp.specs.Port.{attached_port}
use Rattle.hn_dncp.specs.Tick.{ticked, tick_words}
use Rattle.hn_store.specs.Nodes.{Nodes}
use Rattle.hn_store.specs.Acceptance.{PlainState, Accepts}
use Rattle.hn_store.specs.Loss.{loss_marked, remembered}
use Rattle.hn_store.specs.declared.state.Took.{Took}
use Rattle.hn_assign.specs.declared.ran.Ran.{Ran as Assigned}
use Rattle.hn_own.specs.Own.{IsOwnData, PlainData}
use Rattle.hn_own.specs.Addresses.{OwnAddress, may_address}
use Rattle.hn_own.specs.HeldPairs.{no_pairs, without_private}
use Rattle.hn_own.specs.OwnPrefixes.{own_prefix, may_delegate, delegated_with, delegated_without, delegated_after}
use Rattle.hn_own.specs.declared.own_prefixes.OwnPrefix.{OwnPrefix}
use Rattle.hn_own.specs.Ports.{port_at}
use Rattle.hn_own.specs.Ranges.{IsRangedAddress}
use Rattle.hn_rules.specs.declared.answers.Subject.{Subject}
use Rattle.hn_rules.specs.declared.answers.Subject.TheVariants.{NetworkRequest, NetworkState, NodeRequest, NodeState, NodeData}
use Rattle.hn_rules.specs.declared.done.Note.{Note}
use Rattle.hn_rules.specs.declared.done.Outgoing.{Outgoing}
use Rattle.hn_rules.specs.declared.running.Running.{Running}
use Rattle.hn_rules.specs.declared.state.State.{State}
use Rattle.hn_rules.specs.Answers.{with_answer}
use Rattle.hn_rules.specs.Assigning.{IsRunAssigned}
use Rattle.hn_rules.specs.Claim.{is_taken}
use Rattle.hn_rules.specs.Given.{IsRangedDelegation, IsPrivateLength}
use Rattle.hn_rules.specs.Nodes.{own_leaf, IsReach}
use Rattle.hn_rules.specs.Refresh.{own_items, network_state_hash}
use Rattle.hn_rules.specs.Requests.{state_item}
use Rattle.hn_rules.specs.Rules.{Rule, noted, with_port, with_words}
use Rattle.hn_rules.specs.Tick.{IsExpired, Without}

-- one of the TLVs says the item
abbrev pub IsSaid : List PlainTlv → PlainItem → Type 0
IsSaid tlvs i = (tlv : PlainTlv) × Contains tlvs tlv × IsItem tlv i

-- ---- an endpoint

-- how an endpoint changes
pub data PortChange : Type 0 where
  Reset : (word : ℕ) → PortChange
  Meet : (node : NodeId) (endpoint : EpId) (from : Addr) (multicast : Bool) → PortChange
  Ask : PortChange
  Hear : (hash : List ℕ) → PortChange
  Expire : (peers : List Neighbour) → PortChange
  Move : (words : List ℕ) → PortChange
  Begin : (word : ℕ) → PortChange

-- the endpoint after it: Trickle is reset, a sender is greeted, the network state is asked for, a network state hash is
-- heard, silent peers are gone, a tick has moved it on, it begins anew
abbrev pub port_after : PortChange → Running → Port → Port
port_after (Reset word) r port = record port { trickle = interval_from r.state.moment 200 word }
port_after (Meet node endpoint from multicast) r port = greeted node endpoint from multicast r.state.moment port
port_after Ask r port = asked r.state.moment port
port_after (Hear hash) r port = hashed (bytes_eq hash r.state.net) r.sender r.state.moment port
port_after (Expire peers) r port = record port { peers = peers }
port_after (Move words) r port = ticked r.state.moment words port
port_after (Begin word) r port = attached_port port.id r.state.moment word

-- who may be named as the sender: another node, at an endpoint that is not 0
pub record IsSender (tlvs : List PlainTlv) (s : State) (node : NodeId) (endpoint : EpId) : Type 0 where
  pub subs : List ℕ
  pub said : IsSaid tlvs (item.NodeEndpoint node.0 endpoint.0 subs)
  pub other : node.0 ≢ s.id.0
  pub some : endpoint.0 ≢ 0

-- when it changes so
abbrev pub MayChangePort : List PlainTlv → PortChange → Running → Port → Type 0
MayChangePort tlvs (Meet node endpoint from multicast) r port = IsSender tlvs r.state node endpoint
MayChangePort tlvs (Hear hash) r port = (subs : List ℕ) × IsSaid tlvs (item.NetworkState hash subs)
MayChangePort tlvs (Expire peers) r port = Without (IsExpired r.state) port.peers peers
MayChangePort tlvs (Move words) r port = length words ≡ tick_words r.state.moment port
MayChangePort tlvs _ r port = Unit {0}

-- ---- the table of the other nodes

-- how the table changes
pub data TableChange : Type 0 where
  Accept : (carried : PlainState) (how : Took) (next : Nodes) → TableChange
  Mark : TableChange
  Forget : TableChange
  Empty : TableChange

-- the table after it: a node state was accepted, moments of loss are marked, nodes lost for long are forgotten, all are
abbrev pub table_after : TableChange → State → Nodes
table_after (Accept carried how next) s = next
table_after Mark s = loss_marked s.reach s.moment s.table
table_after Forget s = remembered s.moment s.table
table_after Empty s = record s.table { entries = [] }

-- when it changes so
abbrev pub MayChangeTable : List PlainTlv → TableChange → State → Type 0
MayChangeTable tlvs (Accept carried how next) s =
    IsSaid tlvs (item.NodeState carried.node carried.number carried.age carried.hash carried.body)
    × Accepts s.table (own_leaf s) carried s.moment next how
MayChangeTable tlvs _ s = Unit {0}

-- ---- the own delegated prefixes

-- how they change
pub data PrefixChange : Type 0 where
  Delegate : (prefix : PlainPrefix) (valid preferred : ℕ) → PrefixChange
  Withdraw : (prefix : PlainPrefix) → PrefixChange
  End : PrefixChange

-- the prefixes after it: one was added, one was withdrawn, those are gone whose valid lifetime has ended
abbrev pub prefixes_after : PrefixChange → State → List OwnPrefix
prefixes_after (Delegate prefix valid preferred) s = delegated_with (own_prefix s.moment prefix valid preferred) s.delegated
prefixes_after (Withdraw prefix) s = delegated_without prefix s.delegated
prefixes_after End s = delegated_after s.moment s.delegated

-- when they change so
abbrev pub MayChangePrefixes : PrefixChange → State → Type 0
MayChangePrefixes (Delegate prefix valid preferred) s = IsRangedDelegation prefix valid preferred × (may_delegate prefix s.delegated ≡ true)
MayChangePrefixes _ s = Unit {0}

-- ---- what is published, answered and sent

-- node data that may be published: the own items as they are now
pub record IsPublishable (s : State) (number : ℕ) (own : PlainData) : Type 0 where
  pub fits : number < 2 ^ 32
  pub data_is : IsOwnData own
  pub items_are : own.items ≡ own_items s
  pub born_is : own.born ≡ s.moment

-- what is said about a subject: a request for the network state or for the state of a node, the network state hash, the
-- state of a known node without or with its data
abbrev pub IsAnswerAbout : Subject → State → PlainItem → Type 0
IsAnswerAbout NetworkRequest s i = i ≡ item.RequestNetwork []
IsAnswerAbout NetworkState s i = i ≡ item.NetworkState s.net []
IsAnswerAbout (NodeRequest id) s i = (i ≡ item.RequestNode id.0 []) × InRange i
IsAnswerAbout (NodeState id) s i = state_item false s id ≡ Some i
IsAnswerAbout (NodeData id) s i = state_item true s id ≡ Some i

-- what is sent: the answers so far, or the network state hash, as datagrams of an endpoint
pub record ArePacked (r : Running) (sends : List Outgoing) : Type 0 where
  pub endpoint : EpId
  pub to : Option Addr
  pub tlvs : List (List ℕ)
  pub datagrams : List (List ℕ)
  pub tlvs_are : (tlvs ≡ map (λ a. a.tlv) r.answers) ⊎ (tlvs ≡ spelling (tlv_of (item.NetworkState r.state.net [])) ∷ [])
  pub packed : IsPacking r.state.id endpoint tlvs datagrams
  pub sends_are : sends ≡ map (λ bytes. record { endpoint = endpoint; to = to; bytes = bytes }) datagrams

-- ---- a change

-- of an endpoint, the table, the own delegated prefixes and other parts of the router; or something is published, under
-- the identifier that the router has or a new one; the sender is named, an answer comes up, datagrams are sent, the answers are
-- forgotten, a note or words are taken
pub data Change : Type 0 where
  ChangePort : (port : Port) (how : PortChange) → Change
  ChangeTable : (how : TableChange) → Change
  ChangePrefixes : (how : PrefixChange) → Change
  PutReach : (reach : List NodeId) → Change
  PutHash : Change
  PutPairs : (ran : Assigned) → Change
  ForgetPairs : Change
  PutPrivate : (private : Option ℕ) → Change
  PutAddresses : (list : List OwnAddress) → Change
  PutId : (id : NodeId) (number : ℕ) (own : PlainData) → Change
  PutClaimed : (claimed : Bool) → Change
  PutCaps : (caps : Caps) → Change
  Publish : (number : ℕ) (own : PlainData) → Change
  NameSender : (node : NodeId) (endpoint : EpId) → Change
  AddAnswer : (about : Subject) (i : PlainItem) → Change
  AddSends : (sends : List Outgoing) → Change
  ForgetAnswers : Change
  TakeNote : (note : Note) → Change
  TakeWords : (words : List ℕ) → Change

-- what there is after it
abbrev pub change : Change → Running → Running
change (ChangePort port how) r = with_port (port_after how r port) r
change (ChangeTable how) r = record r { state = record r.state { table = table_after how r.state } }
change (ChangePrefixes how) r = record r { state = record r.state { delegated = prefixes_after how r.state } }
change (PutReach reach) r = record r { state = record r.state { reach = reach } }
change PutHash r = record r { state = record r.state { net = network_state_hash r.state } }
change (PutPairs ran) r = record r { state = record r.state { held = ran.held } }
change ForgetPairs r = record r { state = record r.state { held = no_pairs } }
change (PutPrivate private) r = record r { state = record r.state { private = private; held = without_private r.state.held } }
change (PutAddresses list) r = record r { state = record r.state { addresses = list } }
change (PutId id number own) r = record r {
  state = record r.state { id = id; number = number; own = own };
  done = record r.done { published = r.done.published ++ record { id = id; number = number; body = own.body } ∷ [] };
}
change (PutClaimed claimed) r = record r { state = record r.state { claimed = claimed } }
change (PutCaps caps) r = record r { state = record r.state { caps = caps } }
change (Publish number own) r = record r {
  state = record r.state { number = number; own = own };
  done = record r.done { published = r.done.published ++ record { id = r.state.id; number = number; body = own.body } ∷ [] };
}
change (NameSender node endpoint) r = record r { sender = Some (node, endpoint) }
change (AddAnswer about i) r = with_answer about i r
change (AddSends sends) r = record r { done = record r.done { sends = r.done.sends ++ sends } }
change ForgetAnswers r = record r { answers = [] }
change (TakeNote note) r = noted note r
change (TakeWords words) r = with_words words r

-- when a rule makes it: an endpoint is one that is attached, what is reachable is so, a private length fits, own addresses
-- may be such and fit, and an identifier is free
abbrev pub IsAllowed : List PlainTlv → Change → Running → Type 0
IsAllowed tlvs (ChangePort port how) r = (port_at port.id r.state.ports ≡ Some port) × MayChangePort tlvs how r port
IsAllowed tlvs (ChangeTable how) r = MayChangeTable tlvs how r.state
IsAllowed tlvs (ChangePrefixes how) r = MayChangePrefixes how r.state
IsAllowed tlvs (PutReach reach) r = IsReach r.state reach
IsAllowed tlvs (PutPairs ran) r = IsRunAssigned r.state ran
IsAllowed tlvs (PutPrivate private) r = IsPrivateLength private
IsAllowed tlvs (PutAddresses list) r = All IsRangedAddress list × (may_address list r.state.ports ≡ true)
IsAllowed tlvs (PutId id number own) r = (id.0 < 2 ^ 32) × (is_taken id.0 r.state ≡ false) × IsPublishable r.state number own
IsAllowed tlvs (Publish number own) r = IsPublishable r.state number own
IsAllowed tlvs (NameSender node endpoint) r = IsSender tlvs r.state node endpoint
IsAllowed tlvs (AddAnswer about i) r = IsAnswerAbout about r.state i
IsAllowed tlvs (AddSends sends) r = ArePacked r sends
IsAllowed tlvs _ r = Unit {0}

-- ---- changes one after another

-- each is allowed where it comes up
abbrev pub Leads : List PlainTlv → List Change → Running → Running → Type 0
Leads tlvs [] before after = after ≡ before
Leads tlvs (c ∷ cs) before after = IsAllowed tlvs c before × Leads tlvs cs (change c before) after

-- some changes lead there
abbrev pub IsOfChanges : List PlainTlv → Rule
IsOfChanges tlvs before after = (cs : List Change) × Leads tlvs cs before after

-- a fact that each change keeps
abbrev pub EachKeeps : List PlainTlv → (Running → Type 0) → Type 0
EachKeeps tlvs P = (c : Change) (r : Running) → IsAllowed tlvs c r → P r → P (change c r)
