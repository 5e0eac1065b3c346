-- The names that proofs of this crate cite most, handed on from one place. Declares nothing.
pub use Rattle.hn_assign.specs.Fixed.{AreAssignmentsUnchanged, AreAtRest, unmarked}
pub use Rattle.hn_assign.specs.Gathered.{AreAdvertised}
pub use Rattle.hn_assign.specs.Laws.{AdvertisedOfLater}
pub use Rattle.hn_pair.specs.Pair.{IsWished, assigned_pair, pair_cmp, wish_pair}
pub use Rattle.hn_assign.specs.Rest.{IsAtRest}
pub use Rattle.hn_assign.specs.declared.advertised.Advertised.{Advertised}
pub use Rattle.hn_pair.specs.declared.assigned.Assigned.{Assigned}
pub use Rattle.hn_pair.specs.declared.assigned.Wish.{Wish}
pub use Rattle.hn_pair.specs.declared.held.Held.{Held}
pub use Rattle.hn_assign.specs.declared.ran.Ran.{Ran}
pub use Rattle.hn_pair.specs.declared.pair.Pair.{Pair}
pub use Rattle.hn_audit.specs.Calm.{AreCurrent, IsCalmSinceCopies, IsResting}
pub use Rattle.hn_audit.specs.First.{FindsOne, IsFirstFound, IsFoundOf, OrElse}
pub use Rattle.hn_audit.specs.FirstWitness.{AreSaid, FindsAct, FindsAlike, FindsHeld, FindsId, FindsKnown, FindsNear, FindsOfPeers, FindsOfRouter, FindsOnLinks, FindsReach, FindsNotAtRest}
pub use Rattle.hn_audit.specs.FirstWitness.{FindsStranger, FindsUnasked, FindsUnseen, FindsUntrue, FindsUsed, IsFirstUnquiet, IsFirstUnsettled, IsSeenPair, IsTrueOf, act_of, unheld_of}
pub use Rattle.hn_audit.specs.Heard.{AreDelivered, AreHeardSince, ArePeersLinked, AreSendsHeard, AreSendsHeardSince, GoesInTurns, GoesLossless, HasTicked, IsCalmSince, IsLosslessEvent, IsSteady, IsSteadyEvent}
pub use Rattle.hn_audit.specs.Laws.{AnewHasARun, RestHasARun, WitnessNamesOneNotAtRest}
pub use Rattle.hn_audit.specs.Quiet.{IsQuietByRules, IsRouterAtRest}
pub use Rattle.hn_audit.specs.Reached.{AreOnOneLink, IsOfOne, IsOnLink, IsReached, IsRunning, runs_as}
pub use Rattle.hn_audit.specs.Set.{AreSameAt, PlainSpot, is_in_set, members_of, plain_spot, plain_spots, set_of, spot_at, spots_in}
pub use Rattle.hn_audit.specs.Settled.{AreLinkedByRules, AreSame, HoldsState, IsSameEndpoint, IsSettledByRules, UseSame}
pub use Rattle.hn_audit.specs.Sound.{IsHeldOn, IsPostOn, IsServedLink, IsSoundByRules, IsThereByRules, IsWithout, Joint, Link, Private, UsesByRules}
pub use Rattle.hn_audit.specs.Staying.{IsCalmArrival, IsCurrent, origin_of, IsMemberAt, IsCalmTick, KeepAssignments}
pub use Rattle.hn_audit.specs.Witness.{Disturbs, IsOfSet, Refutes}
pub use Rattle.hn_audit.specs.declared.spots.Spot.{Spot}
pub use Rattle.hn_audit.specs.declared.witness.Unquiet.{Unquiet}
pub use Rattle.hn_audit.specs.declared.witness.Unsettled.{Unsettled}
pub use Rattle.hn_base.proofs.AscendingLists.{Contains-cases, Contains-from_map, Contains-head, Contains-map, Contains-one, Contains-tail, ascending_unique, nothing_in, sorted_parts}
pub use Rattle.hn_base.proofs.AtKey.{has_one}
pub use Rattle.hn_base.proofs.Elements.{all_of, any_from, any_of, found_passes, from_filter, from_filter_map, in_filter, in_filter_map, one_of_apart}
pub use Rattle.hn_base.proofs.Keys.{same_id, same_node}
pub use Rattle.hn_base.proofs.PartsAtPlaces.{contains_at, one_of_ascending, part_at, part_stands}
pub use Rattle.hn_base.specs.declared.addr.Addr.{Addr}
pub use Rattle.hn_base.specs.declared.ids.EpId.{EpId}
pub use Rattle.hn_base.specs.declared.ids.NodeId.{NodeId}
pub use Rattle.hn_base.specs.declared.name.Name.{Name}
pub use Rattle.hn_base.specs.declared.version.Version.{Version}
pub use Rattle.hn_data.specs.Items.{HasItems}
pub use Rattle.hn_data.specs.Later.{IsLater}
pub use Rattle.hn_data.specs.Laws.{ItemsAreUnique}
pub use Rattle.hn_data.specs.Peers.{HasPeer, IsLinked, peer_link}
pub use Rattle.hn_data.specs.Said.{version_of}
pub use Rattle.hn_data.specs.View.{PlainView}
pub use Rattle.hn_data.specs.declared.said.PeerLink.{PeerLink}
pub use Rattle.hn_data.specs.declared.view.Entry.{Entry}
pub use Rattle.hn_deleg.specs.Laws.{UsableIsUnique, UsableNeverOverlap}
pub use Rattle.hn_deleg.specs.Used.{AreUsable, IsUnwanted, prefixes_of}
pub use Rattle.hn_deleg.specs.declared.delegated.Delegated.{Delegated}
pub use Rattle.hn_dncp.specs.Hash.{contacted, hashed}
pub use Rattle.hn_dncp.specs.Peers.{is_peer}
pub use Rattle.hn_dncp.specs.declared.peers.Neighbour.{Neighbour}
pub use Rattle.hn_dncp.specs.declared.port.Port.{Port}
pub use Rattle.hn_link.specs.CommonLink.{IsCommonLink, IsOnCommonLink}
pub use Rattle.hn_link.specs.Laws.{CommonLinkExists, CommonLinkOfLater}
pub use Rattle.hn_own.specs.Own.{PlainData}
pub use Rattle.hn_own.specs.Ports.{ArePorts, endpoints_of, is_attached, is_port, port_at, put_port}
pub use Rattle.hn_own.specs.Posts.{length_at, posts_of, private_posts}
pub use Rattle.hn_own.specs.declared.own_prefixes.OwnPrefix.{OwnPrefix}
pub use Rattle.hn_router.specs.Act.{Happened, Tick}
pub use Rattle.hn_router.specs.Laws.{MomentIsNow}
pub use Rattle.hn_rules.specs.Assigning.{AreAsked, IsRunAssigned, IsWishAt}
pub use Rattle.hn_rules.specs.Lasting.{IsLastingUntil}
pub use Rattle.hn_rules.specs.Laws.{AssignedIsPublished, EntriesAreAsKnown, HashIsOfLeaves, OwnPeersAreOfEndpoints, PrivatePostIsAlone, ViewIsNetwork}
pub use Rattle.hn_rules.specs.Nodes.{entry_of, held_entry, own_entry, view_of}
pub use Rattle.hn_rules.specs.Passing.{IsStatusUpdate, after_passing}
pub use Rattle.hn_rules.specs.KeptAtRest.{IsKeptAtRest, ViewOfLater}
pub use Rattle.hn_rules.specs.Router.{IsRouter}
pub use Rattle.hn_rules.specs.Rules.{begun_at}
pub use Rattle.hn_rules.specs.Seen.{seen_by}
pub use Rattle.hn_rules.specs.Undue.{AreHeard, IsKeptUndue, at_moment}
pub use Rattle.hn_rules.specs.Ticks.{IsTick}
pub use Rattle.hn_rules.specs.Updates.{IsStatusSend, AreAgesUndue, OwnIntervalIsDefault}
pub use Rattle.hn_rules.specs.declared.arrival.passing.Passing.{Passing}
pub use Rattle.hn_rules.specs.declared.done.Done.{Done}
pub use Rattle.hn_rules.specs.declared.done.Note.{Note}
pub use Rattle.hn_rules.specs.declared.done.Outgoing.{Outgoing}
pub use Rattle.hn_rules.specs.declared.running.Running.{Running}
pub use Rattle.hn_rules.specs.declared.state.State.{State}
pub use Rattle.hn_sound.specs.Home.{Endpoint, EndpointHasAssignment}
pub use Rattle.hn_sound.specs.Laws.{AdvertisedIsExact, CommonLinkIsExact, RestKnowsNoOrder}
pub use Rattle.hn_sound.specs.Members.{IsOnLinkOf}
pub use Rattle.hn_store.specs.Nodes.{held}
pub use Rattle.hn_store.specs.declared.stored.Stored.{Stored}
pub use Rattle.hn_tlv.specs.Laws.{ListIsUnique}
pub use Rattle.hn_typed.specs.Item.{PlainItem}
pub use Rattle.hn_typed.specs.Laws.{ItemIsUnique}
pub use Rattle.hn_world.specs.Laws.{WorldHasItsTrace, WorldHasItsVersion}
pub use Rattle.hn_world.specs.Mail.{copies_of, copies_of_send, copies_on, copy_for, gets, on_link, on_link_at}
pub use Rattle.hn_world.specs.Names.{is_named, is_of, is_on, link_of}
pub use Rattle.hn_world.specs.Refusal.{first_code, refusal}
pub use Rattle.hn_world.specs.Replay.{Goes, IsAttachedMember, IsReplayed, IsSoundMember, IsSoundWorld, Replays}
pub use Rattle.hn_world.specs.Step.{Does, Step}
pub use Rattle.hn_world.specs.declared.copies.MailCopy.{MailCopy}
pub use Rattle.hn_world.specs.declared.copies.Target.{Target}
pub use Rattle.hn_world.specs.declared.event.Traced.{Traced}
pub use Rattle.hn_world.specs.declared.event.WEvent.{WEvent}
pub use Rattle.hn_world.specs.declared.member.Attachment.{Attachment}
pub use Rattle.hn_world.specs.declared.member.Member.{Member}
pub use Rattle.hn_world.specs.declared.parts.Parts.{Parts}
pub use Rattle.std.proofs.Common.{All, find, ◌&&◌, ◌==◌}
pub use Rattle.std.specs.List.{slice_get, slice_set}
pub use Rattle.std.specs.Prelude.{IsTrue}
pub use borrow.Author.Tests.{tests}
