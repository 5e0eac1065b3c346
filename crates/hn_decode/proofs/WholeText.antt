-- The text of a datagram.
use Rattle.hn_base.proofs.Names.{ℕ, List, ◌++◌, length, ap}
use Rattle.hn_decode.proofs.Names.{PlainTlv, IsTlvList, ListIsUnique, ShowsList, Shows, tlvs_line, IsDecodeText}

-- the first line and the lines of the TLVs
pub whole_text : ListIsUnique → (bytes lines : List ℕ) (tlvs : List PlainTlv) → IsTlvList tlvs bytes → ShowsList (Shows 7) 0 bytes lines
    → IsDecodeText bytes (tlvs_line (length tlvs) ++ lines)
whole_text same_list bytes lines tlvs list shown =
    record { lines = lines; shown = shown; text_is = ap (λ (ts : List PlainTlv). tlvs_line (length ts) ++ lines) (same_list tlvs shown.tlvs bytes list shown.is_list) }
