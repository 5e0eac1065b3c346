-- The names that proofs of this crate cite most, handed on from one place. Declares nothing.
pub use Rattle.hn_base.proofs.PassingElements.{map-unpassed}
pub use Rattle.hn_base.specs.declared.ids.EpId.{EpId}
pub use Rattle.hn_base.specs.declared.ids.NodeId.{NodeId}
pub use Rattle.hn_dncp.specs.Packing.{IsFilled, IsFullBefore, IsPacking, datagram_of, sender_tlv}
pub use Rattle.hn_dncp.specs.Peers.{ArePeers, IsOther, has_peer, is_peer}
pub use Rattle.hn_dncp.specs.declared.peers.Neighbour.{Neighbour}
pub use Rattle.hn_timers.specs.KeepAlive.{silence_end}
pub use Rattle.hn_tlv.specs.Grammar.{spelling}
