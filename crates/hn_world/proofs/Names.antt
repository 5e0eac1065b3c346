-- The names that proofs of this crate cite most, handed on from one place. Declares nothing.
pub use Rattle.hn_base.proofs.PassingElements.{none_passes}
pub use Rattle.hn_base.proofs.Results.{ok_both}
pub use Rattle.hn_base.proofs.SomeExists.{some_then}
pub use Rattle.hn_base.specs.declared.ids.EpId.{EpId}
pub use Rattle.hn_base.specs.declared.ids.NodeId.{NodeId}
pub use Rattle.hn_base.specs.declared.name.Name.{Name}
pub use Rattle.hn_base.specs.declared.version.Version.{Version}
pub use Rattle.hn_dncp.specs.declared.port.Port.{Port}
pub use Rattle.hn_hash.specs.Agreement.{EqualHashesAgreeOrCollide, body_at}
pub use Rattle.hn_hash.specs.Hash.{hash_of}
pub use Rattle.hn_hash.specs.Network.{leaf_text, network_hash}
pub use Rattle.hn_hash.specs.declared.agreement.Agreement.TheVariants.{Collide, Differ, Same}
pub use Rattle.hn_hash.specs.declared.leaf.Leaf.{Leaf}
pub use Rattle.hn_own.specs.Ports.{endpoints_of}
pub use Rattle.hn_router.specs.Act.{Arrive, Happened, IsEventInRange, PlainEvent, Tick, plain_event}
pub use Rattle.hn_rules.specs.Done.{nothing}
pub use Rattle.hn_rules.specs.Genuine.{BytesSayPublished, TextsCollide}
pub use Rattle.hn_rules.specs.Laws.{HashIsOfLeaves}
pub use Rattle.hn_rules.specs.Nodes.{leaves_of}
pub use Rattle.hn_rules.specs.Passing.{after_passing}
pub use Rattle.hn_rules.specs.Router.{IsRouter}
pub use Rattle.hn_rules.specs.Undue.{at_moment}
pub use Rattle.hn_rules.specs.declared.done.Done.{Done}
pub use Rattle.hn_rules.specs.declared.done.Note.{Note}
pub use Rattle.hn_rules.specs.declared.done.Outgoing.{Outgoing}
pub use Rattle.hn_rules.specs.declared.done.Publication.{Publication}
pub use Rattle.hn_rules.specs.declared.running.Origin.{Origin}
pub use Rattle.hn_rules.specs.declared.state.State.{State}
pub use Rattle.hn_store.specs.Nodes.{Nodes}
pub use Rattle.hn_store.specs.declared.stored.HeldNode.{HeldNode}
pub use Rattle.hn_world.specs.Authentic.{AuthenticUnlessInjected}
pub use Rattle.hn_world.specs.Beside.{with_beside}
pub use Rattle.hn_world.specs.Existing.{StepExists}
pub use Rattle.hn_world.specs.Laws.{WorldIsSound}
pub use Rattle.hn_world.specs.Leaves.{Agrees, EqualHashesAgree}
pub use Rattle.hn_world.specs.Limits.{table_limit}
pub use Rattle.hn_world.specs.Mail.{copies_of, copies_of_send, copies_on, copy_for, gets, on_link, on_link_at}
pub use Rattle.hn_world.specs.Names.{is_named, is_of, is_on, link_of, link_place, member_named, router_place}
pub use Rattle.hn_world.specs.Planned.{IsPlanned}
pub use Rattle.hn_world.specs.Refusal.{copy_at, named_member, refusal}
pub use Rattle.hn_world.specs.Replay.{AreAttached, Goes, IsReplayed, IsSoundMember, IsSoundWorld, Replays, empty_world}
pub use Rattle.hn_world.specs.Routed.{named_by, place_by, routed}
pub use Rattle.hn_world.specs.Step.{RouterActs, ActsAt, DoesAt, DoesElse, FitsAt, IsStep, IsWorldEventInRange, RouterBegins, Step, Stops, acted, attached_to, beside, entered, stopped, taken, with_member}
pub use Rattle.hn_world.specs.Waiting.{bytes_of_copies, first_waiting}
pub use Rattle.hn_world.specs.Within.{AreWithinLimits}
pub use Rattle.hn_world.specs.declared.copies.MailCopy.{MailCopy}
pub use Rattle.hn_world.specs.declared.copies.Target.{Target}
pub use Rattle.hn_world.specs.declared.event.Traced.{Traced}
pub use Rattle.hn_world.specs.declared.event.WEvent.{WEvent}
pub use Rattle.hn_world.specs.declared.member.Attachment.{Attachment}
pub use Rattle.hn_world.specs.declared.member.Member.{Member}
pub use Rattle.hn_world.specs.declared.parts.Parts.{Parts}
pub use Rattle.std.proofs.Common.{All, find, ◌==◌}
pub use Rattle.std.specs.Prelude.{is_some}
