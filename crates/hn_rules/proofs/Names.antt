-- The names that proofs of this crate cite most, handed on from one place. Declares nothing.
pub use Rattle.hn_pair.specs.Due.{IsHeldDue}
pub use Rattle.hn_pair.specs.Facts.{HasOwnPriority, IsAssignedPast, IsInDelegated}
pub use Rattle.hn_assign.specs.Laws.{AssignedAreWished, SubroutineKeepsLengths, SubroutineKeepsPrefixes, SubroutineKeepsSoon}
pub use Rattle.hn_pair.specs.Pair.{IsAscending, IsWished, assigned_pair, pair_cmp, wish_pair}
pub use Rattle.hn_assign.specs.Subroutine.{IsSubroutine}
pub use Rattle.hn_pair.specs.declared.assigned.Assigned.{Assigned}
pub use Rattle.hn_pair.specs.declared.assigned.Wish.{Wish}
pub use Rattle.hn_pair.specs.declared.backoff.Backoff.{Backoff}
pub use Rattle.hn_pair.specs.declared.held.Held.{Held}
pub use Rattle.hn_pair.specs.declared.pair.Pair.{Pair}
pub use Rattle.hn_base.proofs.AscendingLists.{Contains-cases, Contains-from_map, Contains-head, Contains-map, Contains-one, Contains-tail, nothing_in, sorted_parts}
pub use Rattle.hn_base.proofs.AscendingNumbers.{ascending-around}
pub use Rattle.hn_base.proofs.BigEndian.{number_bytes}
pub use Rattle.hn_base.proofs.Elements.{all_given, all_of, any_from, found_passes, from_filter, from_filter_map, given_by_parts, given_next, in_filter, in_filter_map, none_given, none_or_some}
pub use Rattle.hn_base.proofs.Elements.{passed_next, passing_found}
pub use Rattle.hn_base.proofs.Keys.{same_id, same_node}
pub use Rattle.hn_base.proofs.NextDue.{sooner_both, sooner_each}
pub use Rattle.hn_base.proofs.PartsAtPlaces.{contains_at, one_of_ascending, part_at, part_stands}
pub use Rattle.hn_base.proofs.RulesInTurn.{each_next, each_words, on_some_words, ran_both, ran_next, ran_plain}
pub use Rattle.hn_base.proofs.SomeExists.{some_is, some_then}
pub use Rattle.hn_base.proofs.SomeResult.{total_after, total_both, total_by, total_each, total_from, total_given, total_plain, total_start, total_test, total_word}
pub use Rattle.hn_base.specs.declared.caps.Caps.{Caps}
pub use Rattle.hn_base.specs.declared.ids.EpId.{EpId}
pub use Rattle.hn_base.specs.declared.ids.NodeId.{NodeId}
pub use Rattle.hn_base.specs.declared.memory.NoMemory.{NoMemory}
pub use Rattle.hn_data.specs.Items.{AreItems, IsReading}
pub use Rattle.hn_data.specs.Later.{IsLater}
pub use Rattle.hn_data.specs.Laws.{ItemsAreUnique}
pub use Rattle.hn_data.specs.Peers.{HasPeer, peer_link}
pub use Rattle.hn_data.specs.Said.{interval_of, keep_alive_of}
pub use Rattle.hn_data.specs.View.{IsNetwork, PlainView, ids_of, plain_view}
pub use Rattle.hn_data.specs.declared.said.AssignedPrefix.{AssignedPrefix}
pub use Rattle.hn_data.specs.declared.said.Delegation.{Delegation}
pub use Rattle.hn_data.specs.declared.said.PeerLink.{PeerLink}
pub use Rattle.hn_data.specs.declared.view.Entry.{Entry}
pub use Rattle.hn_deleg.specs.Candidates.{IsPreferred}
pub use Rattle.hn_deleg.specs.Due.{IsLifetimeEnd}
pub use Rattle.hn_deleg.specs.Live.{IsAnnouncedPrefix, remaining}
pub use Rattle.hn_deleg.specs.Used.{AreUsable, IsUnwanted, prefixes_of}
pub use Rattle.hn_deleg.specs.declared.delegated.Delegated.{Delegated}
pub use Rattle.hn_dncp.specs.Ask.{asked, may_ask}
pub use Rattle.hn_dncp.specs.Due.{IsIdleAt, IsPortUndue}
pub use Rattle.hn_dncp.specs.Greet.{greeting, peers_heard}
pub use Rattle.hn_dncp.specs.Hash.{asks_for_state, contacted, hashed}
pub use Rattle.hn_dncp.specs.Laws.{PackingExists, PackingIsNotEmpty, PackingIsRead, UnduePortIsIdle}
pub use Rattle.hn_dncp.specs.Packing.{AreRead, IsPacking, sender_tlv}
pub use Rattle.hn_dncp.specs.Peers.{has_peer, is_peer}
pub use Rattle.hn_dncp.specs.Port.{attached_port}
pub use Rattle.hn_dncp.specs.Tick.{tick_sends, tick_words, ticked}
pub use Rattle.hn_dncp.specs.declared.greet.Greet.{Greet}
pub use Rattle.hn_dncp.specs.declared.greet.Greet.TheVariants.{Added, Full, Known, Unknown}
pub use Rattle.hn_dncp.specs.declared.peers.Neighbour.{Neighbour}
pub use Rattle.hn_dncp.specs.declared.port.Port.{Port}
pub use Rattle.hn_graph.specs.Later.{IsAgeLimit}
pub use Rattle.hn_graph.specs.Laws.{IsLike, KeepsReach, ReachabilityStays}
pub use Rattle.hn_graph.specs.Path.{IsReachable}
pub use Rattle.hn_hash.specs.Hash.{hash_of}
pub use Rattle.hn_hash.specs.Laws.{HashHasEightBytes}
pub use Rattle.hn_hash.specs.declared.part.Part.{Part}
pub use Rattle.hn_link.specs.Laws.{CommonLinkIsUnique}
pub use Rattle.hn_own.specs.Addresses.{OwnAddress, may_address}
pub use Rattle.hn_own.specs.Due.{IsOwnEnd}
pub use Rattle.hn_own.specs.HeldPairs.{AreHeldPairs}
pub use Rattle.hn_own.specs.Laws.{AddressesMayBe, AddressesStay, FewPosts, NoneEnds}
pub use Rattle.hn_own.specs.Lifetimes.{has_ended, seconds_left}
pub use Rattle.hn_own.specs.Own.{IsOwnData, PlainData, address_item, assigned_item, external_items, items_of, link_at, links_at, links_of, peer_item}
pub use Rattle.hn_own.specs.OwnPrefixes.{AreOwnPrefixes, delegated_after, has_ended_one, is_prefix, own_prefix}
pub use Rattle.hn_own.specs.Ports.{ArePorts, attached, detached, endpoints_of, is_port, number, port_at, put_port}
pub use Rattle.hn_own.specs.Posts.{length_at, posts_of, private_post}
pub use Rattle.hn_own.specs.Ranges.{IsRangedAddress}
pub use Rattle.hn_own.specs.declared.own.OwnItems.{OwnItems}
pub use Rattle.hn_own.specs.declared.own_prefixes.OwnPrefix.{OwnPrefix}
pub use Rattle.hn_rules.specs.Answers.{is_answered, with_answer}
pub use Rattle.hn_rules.specs.Arrival.{IsAnswering, IsArrival, IsItemRule, IsTlvRule, IsTlvs}
pub use Rattle.hn_rules.specs.Assigning.{AreAsked, IsAssigning, IsRunAssigned, IsWishAt}
pub use Rattle.hn_rules.specs.Changes.{Accept, AddAnswer, AddSends, ArePacked, Ask, Begin, Change, ChangePort, ChangePrefixes, ChangeTable, Delegate, EachKeeps, Empty, End, Expire, Forget}
pub use Rattle.hn_rules.specs.Changes.{ForgetAnswers, ForgetPairs, Hear, IsAllowed, IsAnswerAbout, IsOfChanges, IsSaid, Leads, Mark, MayChangePort, MayChangePrefixes, MayChangeTable, Meet, Move}
pub use Rattle.hn_rules.specs.Changes.{PortChange, PrefixChange, Publish, PutAddresses, PutCaps, PutClaimed, PutHash, PutId, PutPairs, PutPrivate, PutReach, Reset, TableChange, TakeNote, TakeWords}
pub use Rattle.hn_rules.specs.Changes.{Withdraw, change, port_after, prefixes_after, table_after}
pub use Rattle.hn_rules.specs.Claim.{IsClaim, IsFirstClaim, IsFirstFreeId, IsSecondClaim, is_taken}
pub use Rattle.hn_rules.specs.Delegating.{ending, withdrawing}
pub use Rattle.hn_rules.specs.Done.{nothing}
pub use Rattle.hn_rules.specs.Due.{IsDueAt, IsDueAtPort, IsPeerEnd}
pub use Rattle.hn_rules.specs.Events.{IsAttaching, IsPortRestart, IsRestarting, detaching, emptied, setting_caps, setting_private}
pub use Rattle.hn_rules.specs.Genuine.{BytesSayPublished, HoldsPublished, IsGenuineAnswer, SaysPublished, TextsCollide, TlvSaysPublished, TlvsSayPublished}
pub use Rattle.hn_rules.specs.Given.{IsPrivateLength}
pub use Rattle.hn_rules.specs.Grows.{BeginsWith, GrowsFrom}
pub use Rattle.hn_rules.specs.Idle.{IsLeft}
pub use Rattle.hn_rules.specs.KnownReach.{HaveSamePeers, KnowsReach, LeadsAs}
pub use Rattle.hn_rules.specs.Laws.{AssigningKeeps, ChangesKeepHashed, ChangesKeepWell, ChangesOnlyAdd, KeepsEndpoints, KeepsRouter, KeepsWell, NextDueStays, RefreshMakesRouter, RouterStaysLater}
pub use Rattle.hn_rules.specs.Laws.{UndueStays, ViewIsNetwork}
pub use Rattle.hn_rules.specs.NetworkState.{compared, network_state}
pub use Rattle.hn_rules.specs.NodeEndpoint.{greeting_port, met, named, node_endpoint}
pub use Rattle.hn_rules.specs.NodeState.{IsNodeState, IsTaken, TakesState, took_noted}
pub use Rattle.hn_rules.specs.Nodes.{IsReach, age_at, entry_of, held_entries, held_entry, leaf_of, nodes_of, own_entry, own_leaf, part_of, parts_of, view_of}
pub use Rattle.hn_rules.specs.Passing.{IsStatusUpdate}
pub use Rattle.hn_rules.specs.Posts.{HasCommonLink, endpoints_at}
pub use Rattle.hn_rules.specs.Refresh.{IsHashing, IsPortReset, IsPublished, IsPublishing, IsReaching, IsRefresh, IsReset, Publishes, network_state_hash, next_number, own_items}
pub use Rattle.hn_rules.specs.Requests.{IsNetworkRequest, held_state, is_reached, own_state, request_node, sent_age, sent_data, state_item, with_some_answer, with_state}
pub use Rattle.hn_rules.specs.Router.{IfThere, IsJustRefreshed, IsHashed, IsRefreshed, IsRouter, IsUntouched, IsWell}
pub use Rattle.hn_rules.specs.Rules.{AtPort, IsSole, IsTotal, Ran, Rule, begun_at, noted, with_port, with_words, words_taken}
pub use Rattle.hn_rules.specs.Seen.{seen_by}
pub use Rattle.hn_rules.specs.Undue.{AreHeard, IsKeptUndue, at_moment}
pub use Rattle.hn_rules.specs.Tick.{HasInterval, IsExpired, IsExpiry, IsPortExpiry, IsPortMoving, IsPortSending, IsPortTick, IsPortsTick, IsStateSending, Without, forgetting}
pub use Rattle.hn_rules.specs.Ticks.{IsLosing, IsSettling, IsTick}
pub use Rattle.hn_rules.specs.declared.answers.Answer.{Answer}
pub use Rattle.hn_rules.specs.declared.answers.Subject.{Subject}
pub use Rattle.hn_rules.specs.declared.assigning.Post.{Post}
pub use Rattle.hn_rules.specs.declared.done.Done.{Done}
pub use Rattle.hn_rules.specs.declared.done.Outgoing.{Outgoing}
pub use Rattle.hn_rules.specs.declared.done.Publication.{Publication}
pub use Rattle.hn_rules.specs.declared.running.Origin.{Origin}
pub use Rattle.hn_rules.specs.declared.running.Running.{Running}
pub use Rattle.hn_rules.specs.declared.state.State.{State}
pub use Rattle.hn_store.specs.Acceptance.{Accepts, PlainState, entries_after, entries_changed, plain_state, stored_from, stored_renumbered}
pub use Rattle.hn_store.specs.Due.{IsForgetting}
pub use Rattle.hn_store.specs.Laws.{HeldIsOfAnEntry, NoNodesAreTable}
pub use Rattle.hn_store.specs.Loss.{is_among, is_forgotten, loss_marked, lost_after, marked_node, remembered}
pub use Rattle.hn_store.specs.Nodes.{IsIntact, IsTable, Nodes, held, put, stored_part}
pub use Rattle.hn_store.specs.declared.state.OwnLeaf.{OwnLeaf}
pub use Rattle.hn_store.specs.declared.state.Took.{Took}
pub use Rattle.hn_store.specs.declared.stored.HeldNode.{HeldNode}
pub use Rattle.hn_store.specs.declared.stored.Stored.{Stored}
pub use Rattle.hn_timers.specs.Due.{IsExpiryMoment}
pub use Rattle.hn_timers.specs.Interval.{Interval, has_to_send, interval_from}
pub use Rattle.hn_timers.specs.KeepAlive.{is_keep_alive_due}
pub use Rattle.hn_tlv.specs.Grammar.{IsTlv, IsTlvAt, IsTlvList, PlainTlv, spelling}
pub use Rattle.hn_tlv.specs.Laws.{ListIsOfBytes, ListIsUnique, SpellingIsPrefixFree}
pub use Rattle.hn_tlv.specs.View.{plain}
pub use Rattle.hn_typed.specs.Fields.{IsHash, bytes_for, prefix_field, word}
pub use Rattle.hn_typed.specs.Item.{External, NetworkState, NodeState, PlainItem, RequestNetwork, RequestNode, Version}
pub use Rattle.hn_typed.specs.Laws.{ItemHasNoFault, ItemIsUnique, ItemOrFault, WrittenIsRead}
pub use Rattle.hn_typed.specs.Table.{IsItem}
pub use Rattle.hn_typed.specs.Written.{IsWritable, tlv_of, value_of}
pub use Rattle.std.proofs.Common.{nat_le}
pub use Rattle.std.specs.List.{slice_get}
pub use Rattle.std.specs.Prelude.{Contains, IfSome, IsTrue, codes, is_some, nat_lt, not, ◌↔◌, ◌≢◌, ◌⊎◌}
