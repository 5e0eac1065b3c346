-- A datagram that is filled, one TLV after another.
use Rattle.hn_base.proofs.Names.{◌≡◌, ◌<◌, ◌+◌, ◌∙◌, ℕ, List, [], ◌∷◌, ◌++◌, length, take, get_or, ap, sym, append_assoc, concat, take_more, append-nil, concat-append}
use Rattle.hn_dncp.proofs.Names.{NodeId, EpId, spelling, sender_tlv, datagram_of}

-- one TLV more
pub datagram_of-take_more : (own : NodeId) (endpoint : EpId) (tlvs : List (List ℕ)) (i : ℕ) (d : List ℕ) → i < length tlvs
    → datagram_of own endpoint (take (i + 1) tlvs) ≡ datagram_of own endpoint (take i tlvs) ++ get_or tlvs i d
datagram_of-take_more own endpoint tlvs i d within =
    ap (datagram_of own endpoint) (take_more tlvs i d within)
    ∙ ap (λ (bytes : List ℕ). spelling (sender_tlv own endpoint) ++ bytes)
    (concat-append (take i tlvs) (get_or tlvs i d ∷ []) ∙ ap (λ (bytes : List ℕ). concat (take i tlvs) ++ bytes) (append-nil (get_or tlvs i d)))
    ∙ sym (append_assoc (spelling (sender_tlv own endpoint)) (concat (take i tlvs)) (get_or tlvs i d))
