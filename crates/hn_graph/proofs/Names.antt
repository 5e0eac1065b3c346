-- The names that proofs of this crate cite most, handed on from one place. Declares nothing.
pub use Rattle.hn_base.proofs.AmongFirst.{IsOfFirst, first_cases, first_further, first_last, first_of_all, none_of_first}
pub use Rattle.hn_base.proofs.AscendingLists.{nothing_in}
pub use Rattle.hn_base.proofs.PartsAtPlaces.{contains_at, one_place, one_place_of, part_is, part_stands}
pub use Rattle.hn_base.specs.declared.ids.NodeId.{NodeId}
pub use Rattle.hn_data.specs.Links.{IsPeerAt}
pub use Rattle.hn_data.specs.Peers.{HasPeer, peer_link}
pub use Rattle.hn_data.specs.View.{ids_of}
pub use Rattle.hn_data.specs.declared.said.PeerLink.{PeerLink}
pub use Rattle.hn_data.specs.declared.view.Entry.{Entry}
pub use Rattle.hn_graph.specs.Later.{IsAgeLimit}
pub use Rattle.hn_graph.specs.Laws.{IsLike, KeepsReach}
pub use Rattle.hn_graph.specs.Path.{AreAdjacent, IsReachable, IsLeadingOn}
pub use Rattle.hn_graph.specs.Search.{ArePlacesNext, HasFound, HasMarked, IsNext, IsPlaceMarked}
