-- The names that proofs of this crate cite most, handed on from one place. Declares nothing.
pub use Rattle.hn_assign.specs.Advertised.{IsAdvertisedOnLink, LinkEndpoints, advertised_cmp, key_of}
pub use Rattle.hn_assign.specs.Best.{HasNoBest, HasNoFree, IsBest, IsCandidatePrefix, IsFreeIn, IsValid}
pub use Rattle.hn_assign.specs.Rest.{IsAheadOfBest, IsAtRest, IsFollowing, IsAtRestWithout}
pub use Rattle.hn_assign.specs.declared.advertised.Advertised.{Advertised}
pub use Rattle.hn_pair.specs.declared.assigned.Assigned.{Assigned}
pub use Rattle.hn_pair.specs.declared.assigned.Wish.{Wish}
pub use Rattle.hn_base.proofs.AscendingLists.{Contains-cases, Contains-head, nothing_in}
pub use Rattle.hn_base.proofs.Elements.{any_of, from_filter, in_filter}
pub use Rattle.hn_base.proofs.Keys.{key_total, same_id, same_node}
pub use Rattle.hn_base.proofs.Prefixes.{is_one_prefix, prefix_decided}
pub use Rattle.hn_base.specs.declared.ids.EpId.{EpId}
pub use Rattle.hn_base.specs.declared.ids.NodeId.{NodeId}
pub use Rattle.hn_base.specs.declared.key.Key.{Key}
pub use Rattle.hn_sound.specs.AtRest.{IsAssignmentOf, IsHomeAtRest}
pub use Rattle.hn_sound.specs.Conditions.Condition.{BestPrefix, GreaterKey, NothingToDo, Published, Unpublished, Valid}
pub use Rattle.hn_sound.specs.Home.{Endpoint, EndpointHasAssignment, HasPublished, Held, Home, advertised, common_link, key_at, wish_of}
pub use Rattle.hn_sound.specs.Homes.{far, first, second}
pub use Rattle.hn_sound.specs.Premises.{IsHome, Meets}
pub use Rattle.hn_sound.specs.Premises.Premise.{ForUsed, OnceOnLink, OneEach, OneLink, PriorityTwo, PublishedInside, UsedApart}
pub use Rattle.hn_sound.specs.Sound.{HasNoPublisher, IsLinkServed, IsSoundHome}
pub use Rattle.hn_sound.specs.Written.{delegated, endpoint, has, subnet}
pub use Rattle.std.proofs.Common.{◌&&◌, ◌||◌}
pub use Rattle.std.specs.Prelude.{Contains, IsTrue}
pub use Rattle.std.specs.declared.cmp.Ordering.{Ordering}
