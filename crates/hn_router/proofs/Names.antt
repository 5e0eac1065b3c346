-- The names that proofs of this crate cite most, handed on from one place. Declares nothing.
pub use Rattle.hn_advert.specs.Advert.{advert_bytes}
pub use Rattle.hn_advert.specs.declared.advert.Info.{Info}
pub use Rattle.hn_pair.specs.Facts.{IsInDelegated}
pub use Rattle.hn_pair.specs.Pair.{IsAscending, assigned_pair}
pub use Rattle.hn_pair.specs.declared.assigned.Assigned.{Assigned}
pub use Rattle.hn_base.proofs.AscendingLists.{nothing_in, sorted_parts}
pub use Rattle.hn_base.proofs.PartsAtPlaces.{contains_at}
pub use Rattle.hn_base.proofs.Prefixes.{prefix_total}
pub use Rattle.hn_base.proofs.SomeExists.{some_by, some_is, some_then}
pub use Rattle.hn_base.specs.declared.caps.Caps.{Caps}
pub use Rattle.hn_base.specs.declared.ids.EpId.{EpId}
pub use Rattle.hn_base.specs.declared.ids.NodeId.{NodeId}
pub use Rattle.hn_base.specs.declared.letter.Letter.{Letter}
pub use Rattle.hn_base.specs.declared.letter.Letter.TheVariants.{H}
pub use Rattle.hn_data.specs.View.{PlainView}
pub use Rattle.hn_data.specs.declared.view.Entry.{Entry}
pub use Rattle.hn_deleg.specs.Laws.{InsideKeepsTheOrder}
pub use Rattle.hn_deleg.specs.Used.{AreUsable, IsOutside}
pub use Rattle.hn_deleg.specs.declared.delegated.Delegated.{Delegated}
pub use Rattle.hn_dncp.specs.declared.port.Port.{Port}
pub use Rattle.hn_link.specs.Election.{HasNoCandidate, IsElected}
pub use Rattle.hn_own.specs.Addresses.{OwnAddress}
pub use Rattle.hn_own.specs.HeldPairs.{no_pairs}
pub use Rattle.hn_own.specs.Own.{links_of}
pub use Rattle.hn_own.specs.Ports.{endpoints_of, is_attached}
pub use Rattle.hn_own.specs.Ranges.{IsRangedAddress, IsRangedHeld}
pub use Rattle.hn_own.specs.declared.own.OwnItems.{OwnItems}
pub use Rattle.hn_own.specs.declared.own_prefixes.OwnPrefix.{OwnPrefix}
pub use Rattle.hn_router.specs.Act.{Arrive, Attach, DidNothing, Happened, HasResults, HasRun, IsDueAfter, IsEdit, IsEvent, IsEventInRange, IsEventRule, PlainEvent, Restart, Tick, is_refused}
pub use Rattle.hn_router.specs.Act.{plain_event}
pub use Rattle.hn_router.specs.Advertising.{AreInfos, IsAdvertBytes, IsInfoOf, IsLifetime}
pub use Rattle.hn_router.specs.Infos.{HasNoInfo, IsInfoFrom}
pub use Rattle.hn_router.specs.Kept.{IsKeptRouter}
pub use Rattle.hn_router.specs.Laws.{ElectedExists, endpoints_by}
pub use Rattle.hn_router.specs.Sends.{IsShortSend}
pub use Rattle.hn_rules.specs.Arrival.{IsArrival}
pub use Rattle.hn_rules.specs.Assigning.{IsAssigning}
pub use Rattle.hn_rules.specs.Changes.{EachKeeps}
pub use Rattle.hn_rules.specs.Delegating.{delegating, ending, withdrawing}
pub use Rattle.hn_rules.specs.Done.{nothing}
pub use Rattle.hn_rules.specs.Due.{IsNextDue}
pub use Rattle.hn_rules.specs.Events.{IsAttaching, IsRestarting, detaching, setting_addresses, setting_caps, setting_private}
pub use Rattle.hn_rules.specs.Given.{IsPrivateLength}
pub use Rattle.hn_rules.specs.Idle.{IsIdleTick}
pub use Rattle.hn_rules.specs.Laws.{AttachingKeeps, KeepsWell, RouterStaysLater}
pub use Rattle.hn_rules.specs.Passing.{after_passing}
pub use Rattle.hn_rules.specs.Refresh.{IsRefresh, network_state_hash}
pub use Rattle.hn_rules.specs.Router.{IsRouter, IsWell}
pub use Rattle.hn_rules.specs.Rules.{IsSole, Rule, begun_at, noted, words_taken}
pub use Rattle.hn_rules.specs.Seen.{IsElectedAt, seen_by}
pub use Rattle.hn_rules.specs.Undue.{at_moment}
pub use Rattle.hn_rules.specs.Tick.{IsExpiry, IsPortsTick, forgetting}
pub use Rattle.hn_rules.specs.Ticks.{IsTick}
pub use Rattle.hn_rules.specs.declared.done.Done.{Done}
pub use Rattle.hn_rules.specs.declared.running.Origin.{Origin}
pub use Rattle.hn_rules.specs.declared.running.Running.{Running}
pub use Rattle.hn_rules.specs.declared.state.State.{State}
pub use Rattle.hn_tlv.specs.Grammar.{IsTlvList, PlainTlv}
pub use Rattle.hn_tlv.specs.Laws.{ListHasNoFirstFault}
pub use Rattle.std.specs.Prelude.{IfSome, IsTrue, is_some, length, nat_lt}
