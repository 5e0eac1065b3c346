-- The names that proofs of this crate cite most, handed on from one place. Declares nothing.
pub use Rattle.hn_base.proofs.AscendingLists.{Contains-cases, Contains-head, Contains-tail, not_below_itself, nothing_in}
pub use Rattle.hn_base.proofs.FrontOfList.{front_more}
pub use Rattle.hn_base.proofs.NextDue.{sooner_each}
pub use Rattle.hn_base.proofs.SomeExists.{IsPart, some_part, some_then}
pub use Rattle.hn_pair.specs.Due.{IsBackoffDue, IsHeldDue, IsMarkDue}
pub use Rattle.hn_pair.specs.Facts.{IsFitting}
pub use Rattle.hn_pair.specs.Marks.{marked_applied}
pub use Rattle.hn_pair.specs.Pair.{IsAscending, IsPlaceOfPair, IsWished, KeepsWished, Updates, assigned_pair, backoff_pair, pair_cmp, wish_pair}
pub use Rattle.hn_pair.specs.declared.assigned.Assigned.{Assigned}
pub use Rattle.hn_pair.specs.declared.assigned.Wish.{Wish}
pub use Rattle.hn_pair.specs.declared.backoff.Backoff.{Backoff}
pub use Rattle.hn_pair.specs.declared.pair.Pair.{Pair}
