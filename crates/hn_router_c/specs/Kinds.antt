-- What C gets of a router's values, and gives.
use Rattle.std.specs.Prelude.{ℕ, ◌≤◌, ◌==◌, Bool, true, false, if◌then◌else◌, Option, Some, None, is_some, is_none}
use Rattle.std.specs.Int.{w128, to_be_bytes, from_be_bytes}
use Rattle.hn_base.specs.declared.ids.NodeId.{NodeId}
use Rattle.hn_base.specs.declared.ids.EpId.{EpId}
use Rattle.hn_base.specs.declared.addr.Addr.{Addr}
use Rattle.hn_base.specs.declared.letter.Letter.{Letter}
use Rattle.hn_base.specs.declared.letter.Letter.TheVariants as letter
use Rattle.hn_own.specs.Addresses.{OwnAddress}
use Rattle.hn_deleg.specs.declared.delegated.Delegated.{Delegated}
use Rattle.hn_pair.specs.declared.assigned.Assigned as assign
use Rattle.hn_store.specs.declared.state.Took.{Took}
use Rattle.hn_store.specs.declared.state.Took.TheVariants as took
use Rattle.hn_dncp.specs.declared.peers.Neighbour.{Neighbour}
use Rattle.hn_store.specs.declared.stored.HeldNode.{HeldNode}
use Rattle.hn_rules.specs.declared.done.Outgoing.{Outgoing}
use Rattle.hn_rules.specs.declared.done.Note as noted
use Rattle.hn_rules.specs.declared.done.Note.TheVariants as note
use Rattle.hn_departed.specs.declared.departures.Told.{Told}
use Rattle.hn_departed.specs.Departed.{left_of}
use Rattle.hn_router_c.specs.declared.kinds.Departed.{Departed}
use Rattle.hn_router_c.specs.declared.kinds.Sent.{Sent}
use Rattle.hn_router_c.specs.declared.kinds.Assigned.{Assigned}
use Rattle.hn_router_c.specs.declared.kinds.Used.{Used}
use Rattle.hn_router_c.specs.declared.kinds.Elected.{Elected}
use Rattle.hn_router_c.specs.declared.kinds.Note.{Note}
use Rattle.hn_router_c.specs.declared.kinds.Address.{Address}
use Rattle.hn_router_c.specs.declared.kinds.Peer.{Peer}
use Rattle.hn_router_c.specs.declared.kinds.Known.{Known}

-- 1 and 0
abbrev pub flag : Bool → ℕ
flag true = 1
flag false = 0

-- where a datagram goes; ff02::11 and port 8231 where it is multicast (RFC 7788, section 3)
abbrev pub sent_to : EpId → Option Addr → Sent
sent_to at (Some to) = record { endpoint = at.0; unicast = 1; port = to.port; to = to_be_bytes w128 to.ip }
sent_to at None = record { endpoint = at.0; unicast = 0; port = 8231; to = to_be_bytes w128 338963523518870617245727861364146307089 }

abbrev pub sent_of : Outgoing → Sent
sent_of outgoing = sent_to outgoing.endpoint outgoing.to

-- an assignment
abbrev pub assigned_of : assign.Assigned → Assigned
assigned_of a = record {
  endpoint = a.endpoint.0;
  length = a.prefix.len;
  applied = flag a.applied;
  prefix = to_be_bytes w128 a.prefix.bits;
  delegated = to_be_bytes w128 a.delegated.bits;
  delegated_length = a.delegated.len;
}

-- a delegated prefix that is used
abbrev pub used_of : Delegated → Used
used_of d = record { valid = d.valid; preferred = d.preferred; length = d.prefix.len; prefix = to_be_bytes w128 d.prefix.bits }

-- a prefix that was advertised on an endpoint, at a moment
abbrev pub departed_of : ℕ → EpId × Told → Departed
departed_of now told = record {
  endpoint = told.0.0;
  valid = left_of now told.1.until;
  departed = flag (is_some told.1.departed);
  length = told.1.prefix.len;
  prefix = to_be_bytes w128 told.1.prefix.bits;
}

-- a peer on the link of an endpoint
abbrev pub peer_out : Neighbour → Peer
peer_out p = record {
  contact = p.contact;
  id = p.node.0;
  endpoint = p.endpoint.0;
  port = p.addr.port;
  address = to_be_bytes w128 p.addr.ip;
}

-- what is known of another node
abbrev pub known_out : HeldNode → Known
known_out node = record {
  came = node.stored.at;
  id = node.id.0;
  number = node.stored.number;
  age = node.stored.age;
  reachable = flag (is_none node.stored.lost);
  hash = node.stored.hash;
}

-- who is elected
abbrev pub elected_of : Option NodeId → Elected
elected_of (Some id) = record { id = id.0; some = 1 }
elected_of None = record { id = 0; some = 0 }

-- what came of the state of another node, from 0 on
abbrev pub took_number : Took → ℕ
took_number took.Kept = 0
took_number took.Renumbered = 1
took_number took.Ask = 2
took_number took.Stale = 3
took_number took.BadHash = 4
took_number took.BadBody = 5
took_number took.TooLong = 6
took_number took.Full = 7
took_number took.Own = 8

-- what is noted
abbrev pub note_of : noted.Note → Note
note_of note.Far = record { number = 0; kind = 1; why = 0 }
note_of (note.Malformed place why) = record { number = place; kind = 2; why = why }
note_of (note.Ignored kind why) = record { number = kind; kind = 3; why = why }
note_of (note.Took node how) = record { number = node.0; kind = 4; why = took_number how }
note_of (note.Own number) = record { number = number; kind = 5; why = 0 }
note_of note.PeersFull = record { number = 0; kind = 6; why = 0 }
note_of note.Refused = record { number = 0; kind = 7; why = 0 }

-- an address of an endpoint, as a router has it
abbrev pub own_address : Address → OwnAddress
own_address a = (record { 0 = a.endpoint }, from_be_bytes w128 a.address)

-- and as C gets it
abbrev pub address_out : OwnAddress → Address
address_out own = record { endpoint = own.0.0; address = to_be_bytes w128 own.1 }

-- capabilities, each of which is 0 to 15 (RFC 7788, section 10.1)
pub record AreCapsInRange (m p h l : ℕ) : Type 0 where
  pub m_in_range : m ≤ 15
  pub p_in_range : p ≤ 15
  pub h_in_range : h ≤ 15
  pub l_in_range : l ≤ 15

-- the length of the prefixes of a private link; with 0 there is none
abbrev pub private_length : ℕ → Option ℕ
private_length length = if length == 0 then None else Some length

-- the services that a node may be elected for: M, P, H and L (RFC 7788, section 10.1)
abbrev pub letter_of : ℕ → Option Letter
letter_of number =
    if number == 0 then Some letter.M else (if number == 1 then Some letter.P else (if number == 2 then Some letter.H else (if number == 3 then Some letter.L else None)))
