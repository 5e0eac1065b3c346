-- The names that proofs of this crate cite most, handed on from one place. Declares nothing.
pub use Rattle.hn_base.proofs.BigEndian.{AreOctets}
pub use Rattle.hn_tlv.specs.Grammar.{FirstFault, HasTlvs, IsFault, IsTlv, IsTlvAt, IsTlvList, PlainTlv, header, padding, spelling, tlv_size, unpadded}
pub use Rattle.hn_tlv.specs.Padding.{IsPaddingFault}
pub use Rattle.hn_tlv.specs.View.{plain}
pub use Rattle.std.proofs.lemmas.List.{length-append}
