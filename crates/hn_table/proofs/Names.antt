-- The names that proofs of this crate cite most, handed on from one place. Declares nothing.
pub use Rattle.hn_pair.specs.declared.assigned.Assigned.{Assigned}
pub use Rattle.hn_data.specs.Delegations.{HasDelegation}
pub use Rattle.hn_data.specs.Said.{HasVersion}
pub use Rattle.hn_data.specs.View.{PlainView, plain_view}
pub use Rattle.hn_data.specs.declared.said.Delegation.{Delegation}
pub use Rattle.hn_data.specs.declared.view.Entry.{Entry}
pub use Rattle.hn_deleg.specs.Live.{IsAnnouncedPrefix, remaining}
pub use Rattle.hn_deleg.specs.Used.{AreUsable, IsOutermost, prefixes_of}
pub use Rattle.hn_deleg.specs.declared.delegated.Delegated.{Delegated}
pub use Rattle.hn_store.specs.Loss.{is_among}
pub use Rattle.hn_store.specs.declared.stored.HeldNode.{HeldNode}
pub use Rattle.hn_table.specs.Data.{IsDataText}
pub use Rattle.hn_table.specs.Delegated.{AreSeenLines, AreUnseenLines, IsFateLine}
pub use Rattle.hn_table.specs.Fate.{IsPastTheUsed}
pub use Rattle.hn_table.specs.FateText.{delegated_line}
pub use Rattle.hn_table.specs.InOrder.{Adds, InOrder}
pub use Rattle.hn_table.specs.Lines.{assigned_line, backoff_line, held_line, peers_lines, table_line}
pub use Rattle.hn_table.specs.Outer.{HasNoOuter, IsNoOuter}
pub use Rattle.hn_table.specs.declared.fate.Fate.TheVariants.{Unreachable}
pub use Rattle.hn_world.specs.declared.member.Member.{Member}
pub use Rattle.std.proofs.Common.{All}
pub use Rattle.std.specs.Prelude.{filter, not}
