-- The names that proofs of this crate cite most, handed on from one place. Declares nothing.
pub use Rattle.hn_addr.specs.Addresses.{IsAddressStill, IsChoice}
pub use Rattle.hn_addr.specs.Laws.{StillAddressesStay}
pub use Rattle.hn_advert.specs.Advert.{IsAdvert, advert_bytes}
pub use Rattle.hn_advert.specs.declared.advert.Advert.{Advert}
pub use Rattle.hn_audit.specs.Laws.{SettledSeeEachOther}
pub use Rattle.hn_audit.specs.Quiet.{IsQuietByRules}
pub use Rattle.hn_audit.specs.Reached.{IsReached, IsRunning}
pub use Rattle.hn_audit.specs.Set.{is_in_set}
pub use Rattle.hn_audit.specs.Settled.{IsSettledByRules}
pub use Rattle.hn_base.proofs.AscendingLists.{Contains-cases, Contains-head, Contains-tail, nothing_in}
pub use Rattle.hn_base.proofs.DecidingTests.{some_there}
pub use Rattle.hn_base.proofs.Elements.{all_of, found_passes, in_filter}
pub use Rattle.hn_base.proofs.Keys.{same_node}
pub use Rattle.hn_base.proofs.Results.{same_error}
pub use Rattle.hn_base.proofs.SomeExists.{some_by, some_then}
pub use Rattle.hn_base.specs.declared.ids.EpId.{EpId}
pub use Rattle.hn_base.specs.declared.ids.NodeId.{NodeId}
pub use Rattle.hn_base.specs.declared.letter.Letter.{Letter}
pub use Rattle.hn_base.specs.declared.name.Name.{Name}
pub use Rattle.hn_base.specs.declared.version.Version.{Version}
pub use Rattle.hn_data.specs.Said.{HasVersion}
pub use Rattle.hn_io.specs.declared.fault.IoFault.{IoFault}
pub use Rattle.hn_io.specs.declared.fault.IoFault.TheVariants.{Failed, NoMemory}
pub use Rattle.hn_lab.specs.AddressReports.{AreAddressesStill, IsAddressed, IsAddressedLine}
pub use Rattle.hn_lab.specs.AuditReports.{IsAuditLine, IsAudited, audit_line}
pub use Rattle.hn_lab.specs.Choosing.{Chooses, MakesChoice, MayHappen, TakesWords, chosen_event, decided_event}
pub use Rattle.hn_lab.specs.Existing.{ComesToAnEnd, GoesOn, IsFit, IsOn, ScriptHasAPlay, stop_by}
pub use Rattle.hn_lab.specs.Lab.{HasDonePlay, HasRefusal, IsBrokenPlay, IsLabOf, IsLabRun, IsWholePlay, Plays, StatusOfScript}
pub use Rattle.hn_lab.specs.Laws.{AdvertIsUnique, AtMostOnePlay, CutTextsAreFronts, IsKnownRoute, IsUnbroken, ResultsAreUnique}
pub use Rattle.hn_lab.specs.Line.{Delivered, EndsAs, EndsBy, LineEnds, Noted, OtherEnds, event_of, injection, receiver, report_of, seeded}
pub use Rattle.hn_lab.specs.Output.{IsCutText}
pub use Rattle.hn_lab.specs.Play.{IsCut, IsCutPlay, IsPlay, LineSaid, LinesDone, StopsAt}
pub use Rattle.hn_lab.specs.Report.{IsAbout, IsReport, ReportEnds, Tells, unless_report}
pub use Rattle.hn_lab.specs.Syncing.{Exchanges, SyncEnds, Syncs}
pub use Rattle.hn_lab.specs.UlaReports.{ArePrefixesStill, HasGenerated, HaveGenerated, IsUlaCount, IsUlasLine, IsUlasTold}
pub use Rattle.hn_lab.specs.declared.report.About.{About}
pub use Rattle.hn_lab.specs.declared.report.Report.{Report}
pub use Rattle.hn_play.specs.Carrying.{Carries}
pub use Rattle.hn_play.specs.Delivery.{ComesTo, DeliveryEnds, EventEnds, EventNotes, Happens, Replaces, injection_for}
pub use Rattle.hn_play.specs.Electing.{unless_elects}
pub use Rattle.hn_play.specs.Ended.{EndsLeaving, IsAnsweredLeaving, Leaves}
pub use Rattle.hn_play.specs.Events.{CopyEnds, Flow, HasWaiting, Passes, Round, Runs, Ticks, TreatmentEnds, drawn, is_lost}
pub use Rattle.hn_play.specs.Following.{Follows, Sets}
pub use Rattle.hn_play.specs.Process.{EachProcess, Nothing, Process, ThenProcess, Times, Unless, Until}
pub use Rattle.hn_play.specs.Sending.{IsAsked, IsSolicited, IsTurn, MayTurn, Solicits, TickEnds, TurnEnds, Turns, drawing, ended_sending, ending_all, line_if, ra_line, sending_now, starting}
pub use Rattle.hn_play.specs.Sending.{with_this}
pub use Rattle.hn_play.specs.Stage.{Mail, OverWire, Route, Stage, begun, route_of, stage_of, stream_words, telling}
pub use Rattle.hn_play.specs.Tells.{IsOneLine, Reports, TellsLines, TellsSome, note_lines}
pub use Rattle.hn_play.specs.Told.{Told, bytes_of, told}
pub use Rattle.hn_play.specs.Writing.{EndsAt, Gets}
pub use Rattle.hn_play.specs.declared.carrying.Carried.{Carried}
pub use Rattle.hn_play.specs.declared.carrying.Carried.TheVariants.{Lost, Other, Same}
pub use Rattle.hn_play.specs.declared.end.End.{End}
pub use Rattle.hn_play.specs.declared.end.End.TheVariants.{Done}
pub use Rattle.hn_play.specs.declared.end.Stop.{Stop}
pub use Rattle.hn_play.specs.declared.end.Stop.TheVariants.{Cut, Refused, WireFailed}
pub use Rattle.hn_play.specs.declared.playing.Playing.{Playing}
pub use Rattle.hn_radv.specs.Sender.{PlainSender, is_due, solicited}
pub use Rattle.hn_report.specs.AdvertReports.{IsAdvertLine, advert_line}
pub use Rattle.hn_report.specs.PrefixReports.{AreUsedLines, IsElectLine, elect_line, used_lines}
pub use Rattle.hn_report.specs.RouterReports.{Compares, compare_line, hash_line, mail_report, show_line}
pub use Rattle.hn_report.specs.UlaLines.{ula_line}
pub use Rattle.hn_router.specs.Laws.{AdvertExists, RouterHasOneAdvert}
pub use Rattle.hn_rules.specs.Laws.{EntriesAreAsKnown, OwnAddressesAreSaid, OwnVersionIsSaid, ViewIsNetwork}
pub use Rattle.hn_rules.specs.Router.{IsRouter}
pub use Rattle.hn_rules.specs.Seen.{seen_by}
pub use Rattle.hn_rules.specs.declared.done.Note.{Note}
pub use Rattle.hn_rules.specs.declared.state.State.{State}
pub use Rattle.hn_script.specs.Laws.{IsLimited}
pub use Rattle.hn_script.specs.Line.{IsOfVersion}
pub use Rattle.hn_script.specs.declared.line.Line.{Line}
pub use Rattle.hn_script.specs.declared.script.Script.{Script}
pub use Rattle.hn_senders.specs.Senders.{IsSenderAt, sender_endpoints, sends_at, shape_of}
pub use Rattle.hn_senders.specs.declared.senders.Sending.{Sending}
pub use Rattle.hn_senders.specs.declared.senders.Shape.{Shape}
pub use Rattle.hn_streams.specs.Output.{AppendsFront}
pub use Rattle.hn_streams.specs.Refusal.{refused_line}
pub use Rattle.hn_sync.specs.Exchange.{unless_exchange}
pub use Rattle.hn_ula.specs.Ula.{Decides, IsOwnOf, IsUlaStill}
pub use Rattle.hn_wire.specs.Wires.{Sends}
pub use Rattle.hn_wire.specs.declared.datagram.Datagram.{Datagram}
pub use Rattle.hn_world.specs.Asked.{unless_running, unless_runs}
pub use Rattle.hn_world.specs.Existing.{IsOfBytesAt}
pub use Rattle.hn_world.specs.Laws.{StepIsUnique, WorldHasItsTrace, WorldHasItsVersion, WorldIsSound}
pub use Rattle.hn_world.specs.Names.{is_named, member_named}
pub use Rattle.hn_world.specs.Receivers.{is_away, running_names}
pub use Rattle.hn_world.specs.Refusal.{refusal}
pub use Rattle.hn_world.specs.Replay.{Goes, IsReplayed, IsSoundMember}
pub use Rattle.hn_world.specs.Routed.{routed}
pub use Rattle.hn_world.specs.SeenWorld.{world_parts}
pub use Rattle.hn_world.specs.Step.{FitsAt, IsWorldEventInRange, Step}
pub use Rattle.hn_world.specs.Waiting.{first_waiting}
pub use Rattle.hn_world.specs.declared.copies.MailCopy.{MailCopy}
pub use Rattle.hn_world.specs.declared.event.Traced.{Traced}
pub use Rattle.hn_world.specs.declared.event.WEvent.{WEvent}
pub use Rattle.hn_world.specs.declared.event.WorldFault.{WorldFault}
pub use Rattle.hn_world.specs.declared.member.Member.{Member}
pub use Rattle.hn_world.specs.declared.parts.Parts.{Parts}
pub use Rattle.std.proofs.Common.{All, append-nil, ◌==◌}
pub use Rattle.std.specs.Prelude.{Contains, IsTrue, codes, position, string_bytes, ◌↔◌}
