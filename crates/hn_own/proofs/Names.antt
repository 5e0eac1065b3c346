-- The names that proofs of this crate cite most, handed on from one place. Declares nothing.
pub use Rattle.hn_pair.specs.Facts.{HasOwnPriority}
pub use Rattle.hn_pair.specs.declared.assigned.Assigned.{Assigned}
pub use Rattle.hn_pair.specs.declared.held.Held.{Held}
pub use Rattle.hn_base.proofs.AscendingLists.{equal_from_is_eq, exact_lists, exact_nat}
pub use Rattle.hn_base.proofs.FrontOfList.{filter-back, filter-front}
pub use Rattle.hn_base.proofs.PassingElements.{map-unpassed}
pub use Rattle.hn_base.specs.declared.caps.Caps.{Caps}
pub use Rattle.hn_base.specs.declared.ids.EpId.{EpId}
pub use Rattle.hn_data.specs.OwnData.{IsAscendingSet, IsEncoded}
pub use Rattle.hn_data.specs.declared.said.AssignedPrefix.{AssignedPrefix}
pub use Rattle.hn_data.specs.declared.said.PeerLink.{PeerLink}
pub use Rattle.hn_dncp.specs.Hash.{hashed}
pub use Rattle.hn_dncp.specs.declared.port.Port.{Port}
pub use Rattle.hn_hash.specs.Hash.{hash_of}
pub use Rattle.hn_own.specs.Addresses.{OwnAddress, address_cmp, addresses_without}
pub use Rattle.hn_own.specs.Due.{IsOwnPrefixEnd}
pub use Rattle.hn_own.specs.HeldPairs.{published_in, without_private}
pub use Rattle.hn_own.specs.Lifetimes.{has_ended, seconds_left}
pub use Rattle.hn_own.specs.Own.{AreFew, address_item, assigned_item, delegated_item, encodings, external_items, items_of, link_at, links_at, peer_item, pieces_of, version_item}
pub use Rattle.hn_own.specs.OwnPrefixes.{AreOwnPrefixes, delegated_with, delegated_without, is_before, is_prefix}
pub use Rattle.hn_own.specs.Ports.{ArePorts, heard_at, is_attached, is_port, number}
pub use Rattle.hn_own.specs.Ranges.{IsRangedAssigned, IsRangedLink}
pub use Rattle.hn_own.specs.declared.own.OwnItems.{OwnItems}
pub use Rattle.hn_own.specs.declared.own_prefixes.OwnPrefix.{OwnPrefix}
pub use Rattle.hn_tlv.specs.Grammar.{HasTlvs, spelling}
pub use Rattle.hn_typed.specs.Fields.{bytes_for, prefix_field}
pub use Rattle.hn_typed.specs.Item.{External, PlainItem}
pub use Rattle.hn_typed.specs.Written.{IsEncoding, IsWritable, tlv_of, value_of}
pub use Rattle.std.specs.Prelude.{nat_lt}
