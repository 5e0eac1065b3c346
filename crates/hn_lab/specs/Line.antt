-- How each line of a script ends.
use Rattle.std.specs.Prelude.{ℕ, ◌+◌, ◌*◌, ◌^◌, Bool, true, false, List, [], ◌∷◌, Option, None, Some}
use Rattle.std.specs.Option.{option_map, option_and_then}
use Rattle.std.specs.List.{slice_get}
use Rattle.rand_core.specs.Pcg32Seed.{pcg32_seed}
use Rattle.rand_pcg.specs.Pcg.{pcg32_of_seed}
use Rattle.hn_base.specs.declared.addr.Addr.{Addr}
use Rattle.hn_base.specs.declared.ids.EpId.{EpId}
use Rattle.hn_base.specs.declared.name.Name.{Name}
use Rattle.hn_io.specs.Pcg.{pcg_word}
use Rattle.hn_rules.specs.declared.done.Note.{Note}
use Rattle.hn_script.specs.declared.line.Line.{Line}
use Rattle.hn_script.specs.declared.line.Line.TheVariants as line
use Rattle.hn_script.specs.declared.line.How.{How}
use Rattle.hn_script.specs.declared.line.How.TheVariants.{Uni, Far}
use Rattle.hn_world.specs.declared.event.WEvent.{WEvent}
use Rattle.hn_world.specs.declared.event.WEvent.TheVariants as event
use Rattle.hn_world.specs.declared.parts.Parts.{Parts}
use Rattle.hn_world.specs.Refusal.{copy_at}
use Rattle.hn_play.specs.Stage.{Stage}
use Rattle.hn_play.specs.Process.{Process, Unless, ThenProcess}
use Rattle.hn_addr.specs.Addresses.{IsChoice}
use Rattle.hn_ula.specs.Ula.{Decides}
use Rattle.hn_lab.specs.declared.report.About.TheVariants as about
use Rattle.hn_lab.specs.declared.report.Report.{Report}
use Rattle.hn_lab.specs.declared.report.Report.TheVariants as report
use Rattle.hn_lab.specs.Choosing.{chosen_event, decided_event, Chooses}
use Rattle.hn_play.specs.Delivery.{EventNotes, EventEnds, DeliveryEnds}
use Rattle.hn_play.specs.Events.{Flow, Runs}
use Rattle.hn_play.specs.Electing.{unless_elects}
use Rattle.hn_lab.specs.Report.{ReportEnds}
use Rattle.hn_play.specs.Sending.{Solicits, starting}
use Rattle.hn_lab.specs.Syncing.{SyncEnds}
use Rattle.hn_play.specs.Tells.{TellsLines, note_lines}
use Rattle.hn_report.specs.UlaLines.{ula_line}
use Rattle.hn_play.specs.Following.{Sets, Follows}

-- an event, and a line for each of its notes
abbrev pub Noted : WEvent → Option Name → Process
Noted event name stop before after =
    (notes : List Note) × ThenProcess (EventNotes event notes) (TellsLines (note_lines name notes)) stop before after

-- a delivery, and a line for each of its notes
abbrev pub Delivered : ℕ → Option Name → Process
Delivered copy name stop before after =
    (notes : List Note) × ThenProcess (DeliveryEnds copy notes) (TellsLines (note_lines name notes)) stop before after

-- a seed begins the words anew
abbrev pub seeded : ℕ → Stage → Stage
seeded seed p = record p { words = pcg_word (pcg32_of_seed (pcg32_seed 16 seed)) }

-- the router that a copy goes to
abbrev pub receiver : Parts → ℕ → Option Name
receiver w copy = option_map (λ m. m.name) (option_and_then (λ c. slice_get w.members c.to.place) (copy_at w copy))

-- The source of an injected datagram: fe80::, or 2001:db8::1 for one from far away; the port is that of HNCP.
abbrev pub source_of : How → Addr
source_of Far = record { ip = 0x20010db8 * 2 ^ 96 + 1; port = 8231 }
source_of _ = record { ip = 0xfe80 * 2 ^ 112; port = 8231 }

abbrev pub injection : Name → EpId → How → List ℕ → WEvent
injection name endpoint Uni bytes = event.Inject name endpoint (source_of Uni) false bytes
injection name endpoint how bytes = event.Inject name endpoint (source_of how) true bytes

-- the event that a line is, if it is one of which no note comes up
abbrev pub event_of : Line → Option WEvent
event_of (line.Router name id) = Some (event.Router name id)
event_of (line.Link name) = Some (event.Link name)
event_of (line.Attach name endpoint link) = Some (event.Attach name endpoint link)
event_of (line.Detach name endpoint) = Some (event.Detach name endpoint)
event_of (line.External name prefix valid preferred) = Some (event.External name prefix valid preferred)
event_of (line.Withdraw name prefix) = Some (event.Withdraw name prefix)
event_of (line.Caps name caps) = Some (event.Caps name caps)
event_of (line.Private name bits) = Some (event.Private name bits)
event_of (line.Stop name) = Some (event.Stop name)
event_of (line.Start name) = Some (event.Start name)
event_of (line.Time moment) = Some (event.Time moment)
event_of (line.Tick name) = Some (event.Tick name)
event_of (line.Drop copy) = Some (event.Drop copy)
event_of _ = None

-- the line of a script that an event is, where there is one
abbrev pub line_of : WEvent → Option Line
line_of (event.Router name id) = Some (line.Router name id)
line_of (event.Link name) = Some (line.Link name)
line_of (event.Attach name endpoint link) = Some (line.Attach name endpoint link)
line_of (event.Detach name endpoint) = Some (line.Detach name endpoint)
line_of (event.External name prefix valid preferred) = Some (line.External name prefix valid preferred)
line_of (event.Withdraw name prefix) = Some (line.Withdraw name prefix)
line_of (event.Caps name caps) = Some (line.Caps name caps)
line_of (event.Private name bits) = Some (line.Private name bits)
line_of (event.Stop name) = Some (line.Stop name)
line_of (event.Start name) = Some (line.Start name)
line_of (event.Time moment) = Some (line.Time moment)
line_of (event.Tick name) = Some (line.Tick name)
line_of (event.Deliver copy) = Some (line.Deliver copy)
line_of (event.Drop copy) = Some (line.Drop copy)
line_of _ = None

-- the report that a line is, if it is one
abbrev pub report_of : Line → Option Report
report_of (line.Show name) = Some (report.Router name about.Show)
report_of (line.Hash name) = Some (report.Router name about.Hash)
report_of (line.Used name) = Some (report.Router name about.Used)
report_of (line.Prefixes name) = Some (report.Router name about.Prefixes)
report_of (line.Elect name endpoint letter) = Some (report.Router name (about.Elect endpoint letter))
report_of (line.Advert name endpoint) = Some (report.Router name (about.Advert endpoint))
report_of (line.Audit name) = Some (report.Router name about.Audit)
report_of (line.Addresses name) = Some (report.Router name about.Addresses)
report_of (line.Addressed name) = Some (report.Router name about.Addressed)
report_of (line.Ulas name) = Some (report.Router name about.Ulas)
report_of (line.Compare left right) = Some (report.Compare left right)
report_of line.Mail = Some report.Mail
report_of _ = None

-- a line by which something is done in the world, over neither a wire nor a sink
abbrev pub is_act : Line → Bool
is_act (line.Inject name endpoint how bytes) = true
is_act (line.Address name) = true
is_act (line.Ula name) = true
is_act (line.Sync left right) = true
is_act (line.Radv name endpoint) = true
is_act (line.Solicit name endpoint) = true
is_act _ = false

-- how each other line ends
abbrev pub OtherEnds : Line → Process
OtherEnds (line.Seed seed) stop before after = Sets (seeded seed) stop before after
OtherEnds (line.Loss percent) stop before after = Sets (λ p. record p { loss = percent }) stop before after
OtherEnds (line.Run end step) stop before after = Runs end step stop before after
OtherEnds (line.Deliver copy) stop before after = Delivered copy (receiver before.world copy) stop before after
OtherEnds line.Flow stop before after = Flow stop before after
OtherEnds (line.Inject name endpoint how bytes) stop before after = Noted (injection name endpoint how bytes) (Some name) stop before after
OtherEnds (line.Address name) stop before after = Chooses name IsChoice (chosen_event name) (λ made. []) stop before after
OtherEnds (line.Ula name) stop before after = Chooses name Decides (decided_event name) (λ made. ula_line name made ∷ []) stop before after
OtherEnds (line.Sync left right) stop before after = SyncEnds left right stop before after
OtherEnds (line.Radv name e) stop before after = ThenProcess (Unless (unless_elects name e before.world)) (Sets (starting name e)) stop before after
OtherEnds (line.Solicit name e) stop before after = ThenProcess (Unless (unless_elects name e before.world)) (Solicits name e) stop before after
OtherEnds _ stop before after = ⊥

-- a line that is no event
abbrev pub EndsAs : Line → Option Report → Process
EndsAs line (Some report) stop before after = ReportEnds report stop before after
EndsAs line None stop before after = OtherEnds line stop before after

abbrev pub EndsBy : Line → Option WEvent → Process
EndsBy line (Some event) stop before after = ThenProcess (EventEnds event) (Follows event) stop before after
EndsBy line None stop before after = EndsAs line (report_of line) stop before after

-- how a line ends
abbrev pub LineEnds : Line → Process
LineEnds line stop before after = EndsBy line (event_of line) stop before after
