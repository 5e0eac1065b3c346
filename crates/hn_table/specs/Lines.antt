-- The lines of what a router holds: itself, its peers, the nodes that it holds, its assignments and backoffs.
use Rattle.std.specs.Prelude.{ℕ, Bool, if◌then◌else◌, List, [], ◌∷◌, ◌++◌, codes, Option, None, Some}
use Rattle.std.specs.Fmt.{decimal}
use Rattle.std.specs.List.{flat_map}
use Rattle.hn_pair.specs.declared.assigned.Assigned.{Assigned}
use Rattle.hn_pair.specs.declared.backoff.Backoff.{Backoff}
use Rattle.hn_base.specs.HexText.{hex_text, id_text}
use Rattle.hn_base.specs.YesNo.{yes_no}
use Rattle.hn_base.specs.declared.ids.EpId.{EpId}
use Rattle.hn_dncp.specs.declared.peers.Neighbour.{Neighbour}
use Rattle.hn_dncp.specs.declared.port.Port.{Port}
use Rattle.hn_prefix.specs.AddressText.{address_text_of}
use Rattle.hn_prefix.specs.PrefixText.{prefix_text_of}
use Rattle.hn_store.specs.declared.stored.HeldNode.{HeldNode}
use Rattle.hn_world.specs.declared.member.Member.{Member}

-- the router: its identifier, sequence number and network state hash, the moment of its last event, and whether it runs
abbrev pub table_line : List ℕ → Member → List ℕ
table_line name m =
    codes "table " ++ name ++ codes " node=" ++ id_text m.router.id.0 ++ codes " number=" ++ decimal m.router.number
    ++ codes " hash=" ++ hex_text m.router.net ++ codes " moment=" ++ decimal m.router.moment ++ codes " running=" ++ yes_no m.running ++ 10 ∷ []

-- a peer of an endpoint: its node and endpoint, when it was last heard, and where it sends from
abbrev pub peer_line : EpId → Neighbour → List ℕ
peer_line e p =
    codes "peer ep=" ++ decimal e.0 ++ codes " node=" ++ id_text p.node.0 ++ codes " of=" ++ decimal p.endpoint.0
    ++ codes " contact=" ++ decimal p.contact ++ codes " at=" ++ address_text_of p.addr.ip ++ 10 ∷ []

-- the peers of an endpoint
abbrev pub peers_lines : Port → List ℕ
peers_lines port = flat_map (peer_line port.id) port.peers

-- whether a node is reachable, and if it is not, since when
abbrev pub lost_words : Option ℕ → List ℕ
lost_words (Some moment) = codes "reachable=no lost=" ++ decimal moment
lost_words None = codes "reachable=yes"

-- a node that is held: its sequence number and the hash of its data, how old these were when they arrived, and when that was
abbrev pub held_line : HeldNode → List ℕ
held_line node =
    codes "node " ++ id_text node.id.0 ++ codes " number=" ++ decimal node.stored.number ++ codes " hash=" ++ hex_text node.stored.hash
    ++ codes " age=" ++ decimal node.stored.age ++ codes " since=" ++ decimal node.stored.at ++ codes " " ++ lost_words node.stored.lost ++ 10 ∷ []

-- the priority with which an assignment is published, if it is
abbrev pub published_word : Option ℕ → List ℕ
published_word (Some priority) = decimal priority
published_word None = codes "no"

-- an assignment: the endpoint, the delegated prefix, the prefix that is assigned out of it, since when, and whether it may be used
abbrev pub assigned_line : Assigned → List ℕ
assigned_line a =
    codes "assigned ep=" ++ decimal a.endpoint.0 ++ codes " in=" ++ prefix_text_of a.delegated ++ codes " is=" ++ prefix_text_of a.prefix
    ++ codes " since=" ++ decimal a.since ++ codes " applied=" ++ yes_no a.applied ++ codes " published=" ++ published_word a.published ++ 10 ∷ []

-- a backoff: the endpoint, the delegated prefix, and the moment from which on an assignment may be made
abbrev pub backoff_line : Backoff → List ℕ
backoff_line b =
    codes "backoff ep=" ++ decimal b.endpoint.0 ++ codes " in=" ++ prefix_text_of b.delegated ++ codes " due=" ++ decimal b.due ++ 10 ∷ []
