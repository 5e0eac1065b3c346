-- The names that proofs of this crate cite most, handed on from one place. Declares nothing.
pub use Rattle.hn_base.proofs.AscendingLists.{Contains-head, exact_nat}
pub use Rattle.hn_base.proofs.PartsAtPlaces.{filter_map-push, part_is}
pub use Rattle.hn_data.specs.Delegations.{AreInsideInOrder, IsConnected, IsDelegatedIn, delegation_of, external_of}
pub use Rattle.hn_data.specs.Items.{AreItems, HasItems, IsReading, first_of}
pub use Rattle.hn_data.specs.Kept.{AreKeptOf}
pub use Rattle.hn_data.specs.OwnData.{AreBytes}
pub use Rattle.hn_data.specs.Peers.{peer_of}
pub use Rattle.hn_data.specs.Said.{assigned_prefix_of, interval_of, node_address_of, version_of}
pub use Rattle.hn_data.specs.View.{ids_of}
pub use Rattle.hn_data.specs.Walk.{Decodes}
pub use Rattle.hn_data.specs.declared.said.Delegation.{Delegation}
pub use Rattle.hn_data.specs.declared.view.Entry.{Entry}
pub use Rattle.hn_tlv.specs.Grammar.{IsTlvAt, IsTlvList, PlainTlv}
pub use Rattle.hn_tlv.specs.View.{plain}
pub use Rattle.hn_typed.specs.Fault.{IsItemFault}
pub use Rattle.hn_typed.specs.Item.{External, PlainCaps, PlainItem}
pub use Rattle.hn_typed.specs.Laws.{ItemIsUnique}
pub use Rattle.hn_typed.specs.Table.{IsItem}
pub use Rattle.hn_typed.specs.View.{plain_caps, plain_item}
pub use Rattle.std.proofs.Common.{◌==◌}
