-- The names that proofs of this crate cite most, handed on from one place. Declares nothing.
pub use Rattle.hn_assign.specs.Best.{HasNoFree}
pub use Rattle.hn_assign.specs.Gathered.{AreAdvertised}
pub use Rattle.hn_pair.specs.Pair.{assigned_pair, pair_cmp}
pub use Rattle.hn_assign.specs.declared.advertised.Advertised.{Advertised}
pub use Rattle.hn_pair.specs.declared.assigned.Assigned.{Assigned}
pub use Rattle.hn_audit.specs.Reached.{IsReached}
pub use Rattle.hn_audit.specs.Settled.{IsSettledByRules}
pub use Rattle.hn_audit.specs.Sound.{HasAssignment, UsesByRules}
pub use Rattle.hn_base.proofs.AscendingLists.{Contains-cases, Contains-from_map, Contains-head, Contains-map, Contains-tail, nothing_in}
pub use Rattle.hn_base.proofs.Elements.{all_of, from_filter_map}
pub use Rattle.hn_base.proofs.Keys.{same_id, same_node}
pub use Rattle.hn_base.proofs.PartsAtPlaces.{contains_at, one_of_ascending, part_stands}
pub use Rattle.hn_base.proofs.Prefixes.{prefix_total}
pub use Rattle.hn_base.proofs.SoOrNot.{Decided, one_or_none}
pub use Rattle.hn_base.specs.declared.ids.EpId.{EpId}
pub use Rattle.hn_base.specs.declared.ids.NodeId.{NodeId}
pub use Rattle.hn_data.specs.Peers.{HasPeer, peer_link}
pub use Rattle.hn_data.specs.declared.said.Delegation.{Delegation}
pub use Rattle.hn_data.specs.declared.view.Entry.{Entry}
pub use Rattle.hn_deleg.specs.Used.{AreUsable, IsUnwanted, prefixes_of}
pub use Rattle.hn_deleg.specs.declared.delegated.Delegated.{Delegated}
pub use Rattle.hn_plain.specs.Same.{QuietAlike, SettledAlike}
pub use Rattle.hn_rules.specs.Nodes.{entry_of, view_of}
pub use Rattle.hn_rules.specs.Router.{IsRouter}
pub use Rattle.hn_rules.specs.Seen.{seen_by}
pub use Rattle.hn_rules.specs.declared.state.State.{State}
pub use Rattle.hn_world.specs.Laws.{WorldIsSound}
pub use Rattle.hn_world.specs.Replay.{IsReplayed}
pub use Rattle.hn_world.specs.declared.member.Member.{Member}
pub use Rattle.hn_world.specs.declared.parts.Parts.{Parts}
pub use Rattle.std.specs.List.{slice_get}
