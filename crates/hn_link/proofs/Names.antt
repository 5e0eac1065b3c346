-- The names that proofs of this crate cite most, handed on from one place. Declares nothing.
pub use Rattle.hn_base.proofs.AmongFirst.{IsOfFirst, first_cases, first_further, first_last, first_of_all}
pub use Rattle.hn_base.proofs.AscendingLists.{Contains-cases, Contains-head, exact_nat, exact_then, nothing_in}
pub use Rattle.hn_base.proofs.PartsAtPlaces.{contains_at, one_element, part_is}
pub use Rattle.hn_base.specs.declared.ids.EpId.{EpId}
pub use Rattle.hn_base.specs.declared.ids.NodeId.{NodeId}
pub use Rattle.hn_base.specs.declared.letter.Letter.{Letter}
pub use Rattle.hn_data.specs.Links.{IsPeerAt}
pub use Rattle.hn_data.specs.Peers.{HasPeer, IsLinked, peer_link}
pub use Rattle.hn_data.specs.View.{PlainView, ids_of, plain_view}
pub use Rattle.hn_data.specs.declared.said.PeerLink.{PeerLink}
pub use Rattle.hn_data.specs.declared.view.Entry.{Entry}
pub use Rattle.hn_link.specs.CommonLink.{IsCommonLink, IsJoined, IsLinkedWithOwn, IsOnCommonLink, endpoint_cmp}
pub use Rattle.hn_link.specs.Election.{HasNoCandidate, IsElected, IsServing, rank_cmp, rank_of}
pub use Rattle.hn_link.specs.Standing.{IsBestRank}
pub use Rattle.hn_link.specs.declared.rank.Rank.{Rank}
pub use Rattle.hn_typed.specs.Item.{PlainCaps}
pub use Rattle.std.proofs.Common.{IfNone}
