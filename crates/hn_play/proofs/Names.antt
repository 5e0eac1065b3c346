-- The names that proofs of this crate cite most, handed on from one place. Declares nothing.
pub use Rattle.hn_advert.specs.Advert.{IsAdvert, advert_bytes}
pub use Rattle.hn_base.proofs.Results.{same_error}
pub use Rattle.hn_base.specs.declared.ids.EpId.{EpId}
pub use Rattle.hn_base.specs.declared.name.Name.{Name}
pub use Rattle.hn_io.specs.declared.fault.IoFault.TheVariants.{Failed, NoMemory}
pub use Rattle.hn_play.specs.Carrying.{Breaks, Carries}
pub use Rattle.hn_play.specs.Delivery.{ComesTo, ComesToSome, Delivers, EventEnds, EventNotes, IsReplaced, Replaces, injection_for}
pub use Rattle.hn_play.specs.Ended.{Ended, EndsLeaving, EndsWith, IsAnswered, IsAnsweredWith, IsStopped, Leaves, stopping}
pub use Rattle.hn_play.specs.Events.{CopyEnds, Flow, HasWaiting, Passes, Round, Ticks, TreatmentEnds}
pub use Rattle.hn_play.specs.Following.{Follows, Sets}
pub use Rattle.hn_play.specs.Process.{EachProcess, Process, ThenProcess, Times}
pub use Rattle.hn_play.specs.Sending.{IsDue, TickEnds, TurnEnds, ended_sending, ending_all, ra_line}
pub use Rattle.hn_play.specs.Stage.{Route, Stage, stage_of, stream_words, telling}
pub use Rattle.hn_play.specs.Told.{Told}
pub use Rattle.hn_play.specs.Writing.{EndsAt, EndsWriting}
pub use Rattle.hn_play.specs.declared.carrying.Carried.{Carried}
pub use Rattle.hn_play.specs.declared.carrying.Carried.TheVariants.{Other}
pub use Rattle.hn_play.specs.declared.end.Stop.{Stop}
pub use Rattle.hn_play.specs.declared.end.Stop.TheVariants.{Cut, Refused, WireFailed}
pub use Rattle.hn_senders.specs.Senders.{shape_of}
pub use Rattle.hn_senders.specs.declared.senders.Sending.{Sending}
pub use Rattle.hn_senders.specs.declared.senders.Shape.{Shape}
pub use Rattle.hn_world.specs.Names.{member_named}
pub use Rattle.hn_world.specs.Refusal.{copy_at, refusal}
pub use Rattle.hn_world.specs.SeenWorld.{SeenWorld}
pub use Rattle.hn_world.specs.Waiting.{first_waiting}
pub use Rattle.hn_world.specs.declared.copies.MailCopy.{MailCopy}
pub use Rattle.hn_world.specs.declared.event.WEvent.{WEvent}
pub use Rattle.hn_world.specs.declared.event.WorldFault.{WorldFault}
pub use Rattle.hn_world.specs.declared.member.Member.{Member}
pub use Rattle.hn_world.specs.declared.parts.Parts.{Parts}
pub use Rattle.std.proofs.Common.{append-nil}
