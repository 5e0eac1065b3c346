-- The names that proofs of this crate cite most, handed on from one place. Declares nothing.
pub use Rattle.hn_base.proofs.AscendingLists.{Contains-cases, Contains-from_map, Contains-head, Contains-map, Contains-tail, nothing_in}
pub use Rattle.hn_base.proofs.Keys.{same_node}
pub use Rattle.hn_base.specs.declared.ids.NodeId.{NodeId}
pub use Rattle.hn_tlv.specs.View.{plain}
pub use Rattle.hn_watch.specs.Claim.{IsClaimOf, hashes_of, number_cmp, number_of}
pub use Rattle.hn_watch.specs.Remembered.{HasRoom, Remembers, RemembersSame, seen_of}
pub use Rattle.hn_watch.specs.Seen.{AreConflicts, AreSeen, is_older, keeping, latest_of}
pub use Rattle.hn_watch.specs.Shown.{AreShownBy, Shows}
pub use Rattle.hn_watch.specs.declared.claim.Claim.{Claim}
pub use Rattle.hn_watch.specs.declared.claim.NodeNumber.{NodeNumber}
pub use Rattle.hn_watch.specs.declared.remembered.Remembered.{Remembered}
pub use Rattle.hn_watch.specs.declared.seen.Seen.{Seen}
pub use Rattle.hn_watch.specs.declared.shown.Shown.{Shown}
pub use Rattle.std.proofs.Common.{All, nat_eq, ◌||◌}
pub use Rattle.std.specs.Prelude.{option_to_list}
pub use Rattle.std.specs.declared.cmp.Ordering.{Ordering}
