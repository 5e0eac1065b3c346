-- What TLVs are spelled as is bytes.
use Rattle.hn_base.proofs.Names.{ℕ, List, [], ◌∷◌, ◌++◌, length, replicate, arith, All, w16, to_be_bytes, All-append, All-nil, All-replicate, All-same, IsByte}
use Rattle.hn_tlv.proofs.Names.{PlainTlv, IsTlv, padding, header, unpadded, spelling, IsTlvList}
use Rattle.hn_base.proofs.BigEndian.{number_bytes}

pub spelling_bytes : (tlv : PlainTlv) → IsTlv tlv → All IsByte (spelling tlv)
spelling_bytes tlv valid =
    let front : All IsByte (header tlv.kind (length tlv.value)) =
    All-append IsByte (to_be_bytes w16 tlv.kind) (to_be_bytes w16 (length tlv.value)) (number_bytes 2 tlv.kind) (number_bytes 2 (length tlv.value)) in
    let plain : All IsByte (unpadded tlv) = All-append IsByte (header tlv.kind (length tlv.value)) tlv.value front valid.bytes in
    All-append IsByte (unpadded tlv) (replicate (padding (length tlv.value)) 0) plain (All-replicate IsByte (padding (length tlv.value)) 0 (omega arith))

-- a list of TLVs is one of bytes
pub list_bytes : (tlvs : List PlainTlv) (bytes : List ℕ) → IsTlvList tlvs bytes → All IsByte bytes
list_bytes [] bytes list = All-same IsByte bytes [] list (All-nil IsByte)
list_bytes (tlv ∷ tlvs) bytes (rest, valid, is, more) =
    All-same IsByte bytes (spelling tlv ++ rest) is (All-append IsByte (spelling tlv) rest (spelling_bytes tlv valid) (list_bytes tlvs rest more))
