-- The names that proofs of this crate cite most, handed on from one place. Declares nothing.
pub use Rattle.hn_base.proofs.BigEndian.{Bytes, Bytes-drop, Bytes-from_reads, Bytes-take, whole_is}
pub use Rattle.hn_tlv.specs.Grammar.{HasTlvs, PlainTlv, padding}
pub use Rattle.hn_typed.specs.Fault.{IsAfterFault, IsFieldFault, IsFirstCause, IsItemFault, LacksSubs, field_size, prefix_bits}
pub use Rattle.hn_typed.specs.Fields.{HasSubs, ThenSubs, bytes_for, prefix_field, two_in_byte, word}
pub use Rattle.hn_typed.specs.Item.{Other, PlainItem}
pub use Rattle.hn_typed.specs.Shape.{After, Anything, AreInFields, Halves, Hash, Ipv6, LowerHalf, Prefixed, Reserved, Subs, Text, ValueField, Word, field_bytes, fields_bytes, sample_among, samples}
pub use Rattle.hn_typed.specs.Shape.{shape, shape_of_kind}
pub use Rattle.hn_typed.specs.Table.{HasOtherKind, InRange, IsItem, IsValue}
pub use Rattle.hn_typed.specs.View.{plain_item}
pub use Rattle.hn_typed.specs.Written.{IsWritable, bytes_after, fixed_of, tail_of, tlv_of}
pub use Rattle.std.proofs.Common.{All}
pub use Rattle.std.proofs.lemmas.List.{length-append}
