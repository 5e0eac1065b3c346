-- The datagrams that routers send, as copies for those who receive them.
use Rattle.std.specs.Prelude.{ℕ, suc, ◌+◌, ◌*◌, ◌^◌, Bool, true, not, ◌==◌, ◌&&◌, List, [], ◌∷◌, ◌++◌, map, filter, is_none, Option, None, Some}
use Rattle.std.specs.List.{flat_map}
use Rattle.hn_base.specs.declared.addr.Addr.{Addr}
use Rattle.hn_own.specs.Ports.{endpoints_of}
use Rattle.hn_rules.specs.declared.done.Outgoing.{Outgoing}
use Rattle.hn_world.specs.declared.copies.MailCopy.{MailCopy}
use Rattle.hn_world.specs.declared.copies.Target.{Target}
use Rattle.hn_world.specs.declared.member.Member.{Member}
use Rattle.hn_world.specs.Names.{link_of, is_on}

-- The address of a router's endpoint: fe80::, then 32 bits of the router's ordinal, counted from 1 in order of
-- definition, and 32 bits of the endpoint; the port is that of HNCP.
abbrev pub address_of_target : Target → Addr
address_of_target at = record { ip = 0xfe80 * 2 ^ 112 + (at.place + 1) * 2 ^ 32 + at.endpoint.0; port = 8231 }

-- the endpoints of a router that are attached to a link, in ascending order
abbrev pub on_link_at : ℕ → ℕ → Member → List Target
on_link_at link place m = map (λ e. record { place = place; endpoint = e }) (filter (is_on link m) (endpoints_of m.router.ports))

-- the endpoints that are attached to a link, in order of routers and endpoints; the first router has this place
abbrev pub on_link : ℕ → ℕ → List Member → List Target
on_link link place [] = []
on_link link place (m ∷ members) = on_link_at link place m ++ on_link link (suc place) members

-- whether it is the same endpoint
abbrev pub is_same : Target → Target → Bool
is_same a b = a.place == b.place && a.endpoint.0 == b.endpoint.0

-- whether it is the endpoint with that address
abbrev pub has_address : Addr → Target → Bool
has_address to at = (address_of_target at).ip == to.ip && (address_of_target at).port == to.port

-- whether an endpoint on the link of a sender gets what it sent: each other one by multicast, the one with the address
-- by unicast
abbrev pub gets : Target → Option Addr → Target → Bool
gets sender None at = not (is_same sender at)
gets sender (Some to) at = has_address to at

-- the copy for one of them
abbrev pub copy_for : Target → Option Addr → List ℕ → Target → MailCopy
copy_for sender to bytes at =
    record { to = at; from = address_of_target sender; multicast = is_none to; bytes = bytes; waiting = true }

-- the copies of a datagram that a router sends; there is none where its endpoint is attached to no link
abbrev pub copies_on : List Member → Target → Outgoing → Option ℕ → List MailCopy
copies_on members sender send None = []
copies_on members sender send (Some link) = map (copy_for sender send.to send.bytes) (filter (gets sender send.to) (on_link link 0 members))

abbrev pub copies_of_send : List Member → ℕ → Member → Outgoing → List MailCopy
copies_of_send members place m send =
    copies_on members (record { place = place; endpoint = send.endpoint }) send (link_of send.endpoint m)

-- the copies of all that the router at a place sends
abbrev pub copies_of : List Member → ℕ → Member → List Outgoing → List MailCopy
copies_of members place m sends = flat_map (copies_of_send members place m) sends
