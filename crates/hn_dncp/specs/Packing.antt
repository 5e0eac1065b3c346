-- How TLVs are packed into datagrams (RFC 7787, section 4.2). A TLV stands here as the bytes that it is written as.
use Rattle.std.specs.Prelude.{◌≡◌, ℕ, ◌+◌, ◌<◌, ◌≤◌, ◌⊎◌, List, [], ◌∷◌, ◌++◌, length, Contains}
use Rattle.std.specs.List.{concat}
use Rattle.hn_base.specs.declared.ids.NodeId.{NodeId}
use Rattle.hn_base.specs.declared.ids.EpId.{EpId}
use Rattle.hn_tlv.specs.Grammar.{PlainTlv, spelling, IsTlvList}
use Rattle.hn_typed.specs.Item.{NodeEndpoint}
use Rattle.hn_typed.specs.Written.{tlv_of}

-- the Node Endpoint TLV, which says who sends (RFC 7787, section 7.2.1)
abbrev pub sender_tlv : NodeId → EpId → PlainTlv
sender_tlv own endpoint = tlv_of (NodeEndpoint own.0 endpoint.0 [])

-- a datagram: the sender's Node Endpoint, and then these TLVs
abbrev pub datagram_of : NodeId → EpId → List (List ℕ) → List ℕ
datagram_of own endpoint tlvs = spelling (sender_tlv own endpoint) ++ concat tlvs

-- with the next TLV, if there is one, so many bytes become more than 4,000 (the limit is that of RFC 7788, section 3;
-- that the next TLV then begins a new datagram is this project's own)
abbrev pub IsFullBefore : List (List ℕ) → ℕ → Type 0
IsFullBefore [] len = Unit {0}
IsFullBefore (tlv ∷ tlvs) len = 4000 < len + length tlv

-- A datagram holds a group of TLVs, and the rest begins a new one: there is at least one TLV in it; a further one did
-- not carry it past 4,000 bytes; and the next one would.
pub record IsFilled (own : NodeId) (endpoint : EpId) (group rest : List (List ℕ)) (datagram : List ℕ) : Type 0 where
  pub datagram_is : datagram ≡ datagram_of own endpoint group
  pub not_empty : 0 < length group
  pub within : (length group ≡ 1) ⊎ (length datagram ≤ 4000)
  pub full : IsFullBefore rest (length datagram)

-- The datagrams hold these TLVs, in order, none left out and none twice: the first datagram a group at the front, and
-- the others the rest. No TLVs are packed into no datagrams.
abbrev pub IsPacking : NodeId → EpId → List (List ℕ) → List (List ℕ) → Type 0
IsPacking own endpoint tlvs [] = tlvs ≡ []
IsPacking own endpoint tlvs (datagram ∷ datagrams) =
    (group : List (List ℕ)) × (rest : List (List ℕ)) × (tlvs ≡ group ++ rest) × IsFilled own endpoint group rest datagram × IsPacking own endpoint rest datagrams

-- a datagram has at most 4,000 bytes, or those of one of the TLVs and the 12 of the sender's Node Endpoint
abbrev pub IsShortDatagram : List (List ℕ) → List ℕ → Type 0
IsShortDatagram tlvs datagram = (length datagram ≤ 4000) ⊎ ((tlv : List ℕ) × Contains tlvs tlv × (length datagram ≡ 12 + length tlv))

-- The datagrams are lists of TLVs, each beginning with the sender's Node Endpoint, and what follows in them is this
-- list of TLVs.
abbrev pub AreRead : NodeId → EpId → List PlainTlv → List (List ℕ) → Type 0
AreRead own endpoint tlvs [] = tlvs ≡ []
AreRead own endpoint tlvs (datagram ∷ datagrams) =
    (group : List PlainTlv) × (rest : List PlainTlv) × (tlvs ≡ group ++ rest) × IsTlvList (sender_tlv own endpoint ∷ group) datagram × AreRead own endpoint rest datagrams
