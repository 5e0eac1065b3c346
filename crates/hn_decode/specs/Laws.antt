-- Laws of the text of a datagram.
use Rattle.std.specs.Prelude.{ℕ, List, ◌++◌, length}
use Rattle.hn_tlv.specs.Grammar.{PlainTlv, IsTlvList, HasTlvs}
use Rattle.hn_decode.specs.Nested.{tlvs_line, IsTextTo, IsDecodeText}

-- A datagram that is a list of TLVs has a text.
abbrev pub DecodeTextExists : Type 0
DecodeTextExists = (bytes : List ℕ) → HasTlvs bytes → (text : List ℕ) × IsDecodeText bytes text

-- The lines of a datagram before a place are followed by more, and with these they make its text.
abbrev pub LinesGoOn : Type 0
LinesGoOn =
    (bytes lines : List ℕ) (at : ℕ) (tlvs : List PlainTlv) → IsTlvList tlvs bytes → IsTextTo bytes at lines
    → (rest : List ℕ) × IsDecodeText bytes (tlvs_line (length tlvs) ++ (lines ++ rest))
