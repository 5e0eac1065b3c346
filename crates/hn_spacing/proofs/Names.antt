-- The names that proofs of this crate cite most, handed on from one place. Declares nothing.
pub use Rattle.hn_base.specs.declared.ids.EpId.{EpId}
pub use Rattle.hn_base.specs.declared.name.Name.{Name}
pub use Rattle.hn_play.specs.Delivery.{DeliveryEnds, EventEnds, EventNotes}
pub use Rattle.hn_lab.specs.Play.{LinesDone, StopsAt}
pub use Rattle.hn_play.specs.Process.{EachProcess, Nothing, ThenProcess, Unless}
pub use Rattle.hn_senders.specs.Senders.{IsSenderAt, sends_at}
pub use Rattle.hn_play.specs.Sending.{Solicits, Turns, ended_sending, ending_all, ra_line, starting}
pub use Rattle.hn_play.specs.Stage.{Stage}
pub use Rattle.hn_play.specs.Tells.{TellsLines}
pub use Rattle.hn_play.specs.Told.{Told}
pub use Rattle.hn_play.specs.declared.end.Stop.{Stop}
pub use Rattle.hn_play.specs.declared.end.Stop.TheVariants.{Cut, Refused, WireFailed}
pub use Rattle.hn_senders.specs.declared.senders.Sending.{Sending}
pub use Rattle.hn_senders.specs.declared.senders.Shape.{Shape}
pub use Rattle.hn_radv.specs.Sender.{PlainSender, sent, solicited}
pub use Rattle.hn_rules.specs.declared.done.Note.{Note}
pub use Rattle.hn_script.specs.declared.line.Line.{Line}
pub use Rattle.hn_spacing.specs.Spacing.{BeginsSending, IsRaOf}
pub use Rattle.hn_world.specs.declared.event.WEvent.{WEvent}
pub use Rattle.hn_world.specs.declared.parts.Parts.{Parts}
pub use Rattle.std.proofs.Common.{append-nil}
pub use Rattle.std.specs.List.{slice_set}
pub use Rattle.std.specs.Prelude.{position}
