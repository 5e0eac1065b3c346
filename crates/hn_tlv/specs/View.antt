-- The TLVs and faults of the program, as the grammar sees them.
use Rattle.hn_tlv.specs.declared.reading.Tlv.{Tlv}
use Rattle.hn_tlv.specs.Grammar.{PlainTlv}

-- a TLV without where it lies in memory
abbrev pub plain : Tlv → PlainTlv
plain tlv = record { kind = tlv.kind; value = tlv.value.now }
