-- What a line says of a TLV: the name of its item, and the item's fields.
use Rattle.std.specs.Prelude.{ℕ, List, ◌++◌, codes}
use Rattle.std.specs.Fmt.{decimal}
use Rattle.hn_base.specs.HexText.{hex_text, id_text}
use Rattle.hn_prefix.specs.AddressText.{address_text_of}
use Rattle.hn_prefix.specs.PrefixText.{prefix_text_of}
use Rattle.hn_typed.specs.Item.{PlainItem, RequestNetwork, RequestNode, NodeEndpoint, NetworkState, NodeState, Peer, KeepAlive, Version, External, Delegated, Assigned, Address, Other}

-- the text of a Node State and of an HNCP-Version
abbrev pub node_state_text : ℕ → ℕ → ℕ → List ℕ → List ℕ
node_state_text node number age hash =
    codes "node-state node=" ++ id_text node ++ codes " number=" ++ decimal number
    ++ codes " age=" ++ decimal age ++ codes " hash=" ++ hex_text hash

abbrev pub version_text : ℕ → ℕ → ℕ → ℕ → List ℕ → List ℕ
version_text m p h l agent =
    codes "version m=" ++ decimal m ++ codes " p=" ++ decimal p ++ codes " h=" ++ decimal h
    ++ codes " l=" ++ decimal l ++ codes " agent=" ++ hex_text agent

-- an item's name and its fields (RFC 7787, section 7; RFC 7788, section 10), without what lies within it
abbrev pub item_text : PlainItem → List ℕ
item_text (RequestNetwork subs) = codes "request-network"
item_text (RequestNode node subs) = codes "request-node node=" ++ id_text node
item_text (NodeEndpoint node endpoint subs) = codes "node-endpoint node=" ++ id_text node ++ codes " endpoint=" ++ decimal endpoint
item_text (NetworkState hash subs) = codes "network-state hash=" ++ hex_text hash
item_text (NodeState node number age hash body) = node_state_text node number age hash
item_text (Peer peer peer_endpoint endpoint subs) =
    codes "peer node=" ++ id_text peer ++ codes " endpoint=" ++ decimal peer_endpoint ++ codes " own=" ++ decimal endpoint
item_text (KeepAlive endpoint interval subs) = codes "keep-alive endpoint=" ++ decimal endpoint ++ codes " interval=" ++ decimal interval
item_text (Version caps agent) = version_text caps.m caps.p caps.h caps.l agent
item_text (External subs) = codes "external"
item_text (Delegated valid preferred prefix subs) =
    codes "delegated valid=" ++ decimal valid ++ codes " preferred=" ++ decimal preferred ++ codes " prefix=" ++ prefix_text_of prefix
item_text (Assigned endpoint priority prefix subs) =
    codes "assigned endpoint=" ++ decimal endpoint ++ codes " priority=" ++ decimal priority ++ codes " prefix=" ++ prefix_text_of prefix
item_text (Address endpoint address subs) = codes "address endpoint=" ++ decimal endpoint ++ codes " address=" ++ address_text_of address
item_text (Other kind value) = codes "other value=" ++ hex_text value

-- what is said of a TLV that decodes to no item: the cause, and the value
abbrev pub bad_text : ℕ → List ℕ → List ℕ
bad_text why value = codes "bad why=" ++ decimal why ++ codes " value=" ++ hex_text value
