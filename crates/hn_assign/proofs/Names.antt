-- The names that proofs of this crate cite most, handed on from one place. Declares nothing.
pub use Rattle.hn_assign.specs.Advertised.{IsAdvertisedOnLink, LinkEndpoints, advertised_cmp, key_of}
pub use Rattle.hn_assign.specs.Best.{HasNoFree, IsBest, IsBestIfAny, IsCandidatePrefix, IsFreeIn, IsValid}
pub use Rattle.hn_pair.specs.Due.{IsBackoffDue, IsHeldDue, IsMarkDue}
pub use Rattle.hn_pair.specs.Facts.{IsFitting}
pub use Rattle.hn_assign.specs.Fixed.{AreAssignmentsUnchanged, AreAtRest, AreDue, IsDueRun, unmarked}
pub use Rattle.hn_assign.specs.Gathered.{AreAdvertised, IsAdvertised, IsOfOther, IsOwn, IsSaidByNode, own_advertised}
pub use Rattle.hn_assign.specs.Indexed.{IsFrontUpTo, short_of}
pub use Rattle.hn_assign.specs.Laws.{AdvertisedExists}
pub use Rattle.hn_assign.specs.Lines.{IfValid, IsAhead, IsLine, IsPairTurn}
pub use Rattle.hn_pair.specs.Marks.{marked_applied}
pub use Rattle.hn_pair.specs.Pair.{IsAscending, IsPlaceOfPair, IsWished, KeepsWished, Updates, assigned_pair, backoff_pair, pair_cmp, wish_pair}
pub use Rattle.hn_assign.specs.Rest.{IsAtRest, RestsWith}
pub use Rattle.hn_assign.specs.Scene.{HasNoFreeFor, IsBestFor, IsFirstFreeFor, IsFreeFor, IsValidFor, PlainScene, new_assigned, scene_of}
pub use Rattle.hn_assign.specs.Step.{IsPairStep}
pub use Rattle.hn_assign.specs.Subroutine.{AreSteps, IsSubroutine, with_marks}
pub use Rattle.hn_assign.specs.Unassigned.{HasNothingToDo, backoff_after}
pub use Rattle.hn_assign.specs.declared.advertised.Advertised.{Advertised}
pub use Rattle.hn_pair.specs.declared.assigned.Assigned.{Assigned}
pub use Rattle.hn_pair.specs.declared.assigned.Wish.{Wish}
pub use Rattle.hn_pair.specs.declared.backoff.Backoff.{Backoff}
pub use Rattle.hn_pair.specs.declared.held.Held.{Held}
pub use Rattle.hn_assign.specs.declared.ran.Ran.{Ran}
pub use Rattle.hn_pair.specs.declared.pair.Pair.{Pair}
pub use Rattle.hn_assign.specs.declared.slot.Slot.{Slot}
pub use Rattle.hn_base.proofs.AscendingLists.{Contains-cases, Contains-from_map, Contains-head, Contains-map, Contains-tail, not_below_itself, nothing_in, sorted_parts}
pub use Rattle.hn_base.proofs.FrontOfList.{front_more}
pub use Rattle.hn_base.proofs.NextDue.{sooner_each}
pub use Rattle.hn_base.proofs.SomeExists.{IsPart, some_is, some_part, some_then}
pub use Rattle.hn_base.specs.declared.ids.EpId.{EpId}
pub use Rattle.hn_data.specs.Later.{IsLater}
pub use Rattle.hn_data.specs.Said.{HasAssigned, HasVersion, assigned_prefix_of}
pub use Rattle.hn_data.specs.View.{PlainView, plain_view}
pub use Rattle.hn_data.specs.declared.said.AssignedPrefix.{AssignedPrefix}
pub use Rattle.hn_data.specs.declared.view.Entry.{Entry}
pub use Rattle.hn_prefix.specs.Free.{IsFirstFree, IsFree, IsTakenPrefix}
pub use Rattle.hn_prefix.specs.Laws.{FreeOrFull, InsideAreSubPrefixes}
pub use Rattle.hn_typed.specs.Item.{PlainItem}
pub use Rattle.std.proofs.Common.{length-drop}
