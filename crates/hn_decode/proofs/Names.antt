-- The names that proofs of this crate cite most, handed on from one place. Declares nothing.
pub use Rattle.hn_decode.specs.ItemText.{bad_text, item_text}
pub use Rattle.hn_decode.specs.Line.{HasLines, HoldsNodeData, IsLineAbove, IsLineAlone, line, named_bytes, within, within_name}
pub use Rattle.hn_decode.specs.Nested.{GrowsByText, IsDecodeText, IsShownTo, IsTextTo, Shows, ShowsList, TextsInOrder, place_within, tlvs_line}
pub use Rattle.hn_tlv.specs.Grammar.{FirstFault, HasTlvs, IsTlvList, PlainTlv, tlv_size}
pub use Rattle.hn_tlv.specs.Laws.{ListHasNoFirstFault, ListIsUnique}
pub use Rattle.hn_tlv.specs.View.{plain}
pub use Rattle.hn_tlv.specs.declared.fault.TlvFault.{TlvFault}
pub use Rattle.hn_typed.specs.Item.{NodeState, PlainItem}
pub use Rattle.hn_typed.specs.Table.{IsItem}
pub use Rattle.std.proofs.Common.{OnOk}
