-- The names that proofs of this crate cite most, handed on from one place. Declares nothing.
pub use Rattle.hn_base.proofs.AscendingLists.{Contains-cases, Contains-from_map, Contains-head, Contains-map, Contains-one, Contains-tail, nothing_in}
pub use Rattle.hn_base.proofs.AscendingNumbers.{lt_from_less}
pub use Rattle.hn_base.proofs.Elements.{all_of, any_from, any_of, found_passes, from_filter, in_filter, passing_found}
pub use Rattle.hn_base.proofs.Keys.{same_node}
pub use Rattle.hn_base.proofs.PartsAtPlaces.{contains_at}
pub use Rattle.hn_base.proofs.Results.{same_error}
pub use Rattle.hn_base.specs.declared.addr.Addr.{Addr}
pub use Rattle.hn_base.specs.declared.ids.EpId.{EpId}
pub use Rattle.hn_base.specs.declared.ids.NodeId.{NodeId}
pub use Rattle.hn_base.specs.declared.name.Name.{Name}
pub use Rattle.hn_base.specs.declared.version.Version.{Version}
pub use Rattle.hn_data.specs.declared.view.Entry.{Entry}
pub use Rattle.hn_dncp.specs.Hash.{hashed}
pub use Rattle.hn_dncp.specs.Packing.{IsPacking, datagram_of, sender_tlv}
pub use Rattle.hn_dncp.specs.Peers.{has_peer}
pub use Rattle.hn_dncp.specs.declared.peers.Neighbour.{Neighbour}
pub use Rattle.hn_dncp.specs.declared.port.Port.{Port}
pub use Rattle.hn_hash.specs.Hash.{hash_of}
pub use Rattle.hn_hash.specs.declared.part.Part.{Part}
pub use Rattle.hn_io.specs.Laws.{WordsJoin}
pub use Rattle.hn_own.specs.Own.{links_of}
pub use Rattle.hn_own.specs.Ports.{ArePorts, endpoints_of, is_attached, is_port, port_at}
pub use Rattle.hn_router.specs.Act.{Arrive, Happened, IsEvent}
pub use Rattle.hn_rules.specs.Answers.{with_answer}
pub use Rattle.hn_rules.specs.Arrival.{IsArrival, IsItemRule, IsTlvRule}
pub use Rattle.hn_rules.specs.Claim.{IsClaim}
pub use Rattle.hn_rules.specs.Laws.{RefreshRests}
pub use Rattle.hn_rules.specs.NetworkState.{network_state}
pub use Rattle.hn_rules.specs.NodeEndpoint.{met, named, node_endpoint}
pub use Rattle.hn_rules.specs.NodeState.{IsNodeState, IsTaken, took_noted}
pub use Rattle.hn_rules.specs.Nodes.{entry_of, held_entry, own_entry, own_leaf}
pub use Rattle.hn_rules.specs.Refresh.{IsHashing, IsPortReset, IsPublished, IsPublishing, IsReaching, IsRefresh}
pub use Rattle.hn_rules.specs.Requests.{IsNetworkRequest, is_reached, request_node, sent_age, sent_data, state_item, with_some_answer, with_state}
pub use Rattle.hn_rules.specs.Router.{IsRouter}
pub use Rattle.hn_rules.specs.Rules.{AtPort, IsSole, begun_at, noted}
pub use Rattle.hn_rules.specs.declared.answers.Answer.{Answer}
pub use Rattle.hn_rules.specs.declared.answers.Subject.{Subject}
pub use Rattle.hn_rules.specs.declared.answers.Subject.TheVariants.{NetworkRequest, NetworkState, NodeData, NodeRequest, NodeState}
pub use Rattle.hn_rules.specs.declared.done.Done.{Done}
pub use Rattle.hn_rules.specs.declared.done.Note.{Note}
pub use Rattle.hn_rules.specs.declared.done.Outgoing.{Outgoing}
pub use Rattle.hn_rules.specs.declared.running.Origin.{Origin}
pub use Rattle.hn_rules.specs.declared.running.Running.{Running}
pub use Rattle.hn_rules.specs.declared.state.State.{State}
pub use Rattle.hn_store.specs.Acceptance.{IsAnswer, IsStale, PlainState, entries_after, known_of}
pub use Rattle.hn_store.specs.Laws.{HeldIsOfAnEntry, MarksKeepTable, PutChangesOneNode}
pub use Rattle.hn_store.specs.Loss.{loss_marked}
pub use Rattle.hn_store.specs.Nodes.{IsIntact, IsTable, Nodes, held}
pub use Rattle.hn_store.specs.declared.state.OwnLeaf.{OwnLeaf}
pub use Rattle.hn_store.specs.declared.state.Took.{Took}
pub use Rattle.hn_store.specs.declared.stored.HeldNode.{HeldNode}
pub use Rattle.hn_store.specs.declared.stored.Stored.{Stored}
pub use Rattle.hn_sync.specs.Exchange.{CopiesAreDelivered, AreDeliveries, AreOfExchange, ExchangeEnds, ExchangesSoFar, IsQuestion, delivery, next_event, request, unless_exchange}
pub use Rattle.hn_sync.specs.Joined.{AreLeast, HasPeerAt, joint_of}
pub use Rattle.hn_sync.specs.Laws.{AsksOrIsRefused, QuestionIsUnique}
pub use Rattle.hn_sync.specs.Repairs.{HasRoomFor, IsRepaired, is_news, state_of}
pub use Rattle.hn_tlv.specs.Grammar.{HasTlvs, IsTlvList, PlainTlv}
pub use Rattle.hn_tlv.specs.Laws.{ListHasNoFirstFault, ListIsOfBytes, ListIsUnique}
pub use Rattle.hn_typed.specs.Fields.{IsHash}
pub use Rattle.hn_typed.specs.Item.{PlainItem, RequestNetwork, RequestNode}
pub use Rattle.hn_typed.specs.Written.{tlv_of}
pub use Rattle.hn_world.specs.Laws.{EachEventIsEntered, WorldHasItsTrace, WorldHasItsVersion}
pub use Rattle.hn_world.specs.Mail.{address_of_target, copies_of, copies_of_send, copies_on, copy_for, gets, on_link, on_link_at}
pub use Rattle.hn_world.specs.Names.{is_named, is_on, link_of, member_named, router_place}
pub use Rattle.hn_world.specs.Refusal.{acting, first_code, is_full_of_mail, is_stopped, lacks_a_copy, lacks_room, lacks_the_endpoint, names_nothing, refusal}
pub use Rattle.hn_world.specs.Replay.{Goes, IsReplayed, IsSoundMember, Replays, empty_world, words_of_trace}
pub use Rattle.hn_world.specs.Routed.{routed}
pub use Rattle.hn_world.specs.Step.{RouterActs, ActsAt, DeliversCopy, Does, IsStep, Step, acted, entered, taken}
pub use Rattle.hn_world.specs.declared.copies.MailCopy.{MailCopy}
pub use Rattle.hn_world.specs.declared.copies.Target.{Target}
pub use Rattle.hn_world.specs.declared.event.Traced.{Traced}
pub use Rattle.hn_world.specs.declared.event.WEvent.{WEvent}
pub use Rattle.hn_world.specs.declared.member.Member.{Member}
pub use Rattle.hn_world.specs.declared.parts.Parts.{Parts}
pub use Rattle.std.proofs.Common.{All, find, is_none, ◌&&◌, ◌==◌}
