-- The lines of a script keep what stays over turns and other lines, and so does a play.
use Rattle.hn_base.proofs.Names.{◌≡◌, ◌∙◌, inl, inr, ℕ, false, List, [], ◌∷◌, ◌++◌, Option, None, Some, refl, sym, ap, subst, AllByRecursion}
use Rattle.hn_spacing.proofs.Names.{Name, Note, Line, WEvent, Parts, Stop, Refused, WireFailed, Cut, EventNotes, EventEnds, DeliveryEnds, LinesDone, StopsAt, Unless, ThenProcess, Solicits, starting}
use Rattle.hn_spacing.proofs.Names.{ended_sending, ending_all, Stage, TellsLines}
use Rattle.hn_addr.specs.Addresses.{IsChoice}
use Rattle.hn_script.specs.declared.line.Line.TheVariants as line
use Rattle.hn_ula.specs.Ula.{Decides}
use Rattle.hn_world.specs.declared.event.WEvent.TheVariants as event
use Rattle.hn_world.specs.declared.member.Member.{Member}
use Rattle.hn_lab.specs.declared.report.About.{About}
use Rattle.hn_lab.specs.declared.report.About.TheVariants as about
use Rattle.hn_lab.specs.declared.report.Report.{Report}
use Rattle.hn_lab.specs.declared.report.Report.TheVariants as report
use Rattle.hn_report.specs.AddressLines.{address_line}
use Rattle.hn_lab.specs.Choosing.{chosen_event, decided_event}
use Rattle.hn_lab.specs.Line.{Noted, Delivered, OtherEnds, EndsAs, EndsBy, LineEnds, event_of, report_of, receiver, injection, seeded}
use Rattle.hn_play.specs.Following.{Sets, Follows}
use Rattle.hn_lab.specs.Play.{LineSaid}
use Rattle.hn_report.specs.PrefixReports.{use_line, prefix_line}
use Rattle.hn_lab.specs.Report.{IsAbout, IsReport, ReportEnds, unless_report}
use Rattle.hn_play.specs.Electing.{unless_elects}
use Rattle.hn_play.specs.Notes.{note_line}
use Rattle.hn_streams.specs.Refusal.{refused_line}
use Rattle.hn_play.specs.Tells.{TellsSome, Reports, note_lines}
use Rattle.hn_report.specs.UlaLines.{ula_line}
use Rattle.hn_spacing.proofs.InvariantsOfPlays.{IsInvariant}
use Rattle.hn_spacing.proofs.KeptByProcesses.{Keeps, keeps_at, keeps_nothing, keeps_unless, keeps_then}
use Rattle.hn_spacing.proofs.KeptByEvents.{keeps_noting, keeps_event, keeps_delivery, keeps_flow, keeps_run, keeps_choice, keeps_sync}
use Rattle.hn_spacing.proofs.NoRaLines.{begins_ra, AreNoRaLines, no_ra_map}

-- ---- what reports and notes tell are other lines

one_line : (line other : List ℕ) (lines : List (List ℕ)) → begins_ra other ≡ false → line ≡ other → lines ≡ line ∷ [] → AreNoRaLines lines
one_line line other lines no_ra is are = subst AreNoRaLines (sym are) (ap begins_ra is ∙ no_ra, tt)

about_no_ra : (what : About) (name : Name) (w : Parts) (m : Member) (lines : List (List ℕ)) → IsAbout what name w m lines → AreNoRaLines lines
about_no_ra about.Show name w m lines h = one_line h.0 _ lines refl h.1 h.2
about_no_ra about.Hash name w m lines h = one_line h.0 _ lines refl h.1 h.2
about_no_ra about.Used name w m lines h = subst AreNoRaLines (sym h.lines_are) (refl, no_ra_map (use_line name) (λ d. refl) h.used)
about_no_ra about.Prefixes name w m lines h = subst AreNoRaLines (sym h) (refl, no_ra_map (prefix_line name) (λ c. refl) m.router.held.assigned)
about_no_ra (about.Elect e letter) name w m lines h = one_line h.0 _ lines refl h.1.line_is h.2
about_no_ra (about.Advert e) name w m lines h = one_line h.0 _ lines refl h.1.line_is h.2
about_no_ra about.Audit name w m lines h = one_line h.0 _ lines refl h.1.line_is h.2
about_no_ra about.Addresses name w m lines h = subst AreNoRaLines (sym h) (refl, no_ra_map (address_line name) (λ a. refl) m.router.addresses)
about_no_ra about.Addressed name w m lines h = one_line h.0 _ lines refl h.1.line_is h.2
about_no_ra about.Ulas name w m lines h = one_line h.0 _ lines refl h.1.line_is h.2

report_no_ra : (of : Report) (w : Parts) (lines : List (List ℕ)) → IsReport of w lines → AreNoRaLines lines
report_no_ra (report.Router name what) w lines h = about_no_ra what name w h.0 lines h.2
report_no_ra (report.Compare left right) w lines h = one_line h.0 _ lines refl h.1.is_line.line_is h.2
report_no_ra report.Mail w lines h = one_line h.0 _ lines refl h.1 h.2

notes_no_ra : (name : Option Name) (notes : List Note) → AreNoRaLines (note_lines name notes)
notes_no_ra None notes = tt
notes_no_ra (Some name) notes = no_ra_map (note_line name) (λ n. refl) notes

module _ (Holds : Stage → Type 0) (MayBe : Line → Type 0) (invariant : IsInvariant Holds MayBe) where
  -- ---- forms of lines

  report_ends : (of : Report) → Keeps Holds (ReportEnds of)
  report_ends of = keeps_at Holds (λ p. Reports (unless_report of p.world) (IsReport of p.world))
      (λ p. keeps_then Holds (Unless (unless_report of p.world)) (TellsSome (IsReport of p.world)) (keeps_unless Holds (unless_report of p.world))
      (λ c q a h. invariant.tells h.0 (report_no_ra of p.world h.0 h.1) c q a h.2))

  noted : (event : WEvent) (name : Option Name) → Keeps Holds (Noted event name)
  noted event name c p a h =
      keeps_then Holds (EventNotes event h.0) (TellsLines (note_lines name h.0)) (keeps_noting Holds MayBe invariant event h.0)
      (invariant.tells (note_lines name h.0) (notes_no_ra name h.0)) c p a h.1

  delivered : (copy : ℕ) (name : Option Name) → Keeps Holds (Delivered copy name)
  delivered copy name c p a h =
      keeps_then Holds (DeliveryEnds copy h.0) (TellsLines (note_lines name h.0)) (keeps_delivery Holds MayBe invariant copy h.0)
      (invariant.tells (note_lines name h.0) (notes_no_ra name h.0)) c p a h.1

  sets : (change : Stage → Stage) → ((p : Stage) → Holds p → Holds (change p)) → Keeps Holds (Sets change)
  sets change keeps c p a h holds = subst Holds (sym h.1) (keeps p holds)

  never : Keeps Holds (λ stop p a. ⊥)
  never c p a h = absurd h

  -- ---- each line

  other_ends : (l : Line) → MayBe l → Keeps Holds (OtherEnds l)
  other_ends (line.Seed seed) may = sets (seeded seed) (λ p. invariant.stays p (seeded seed p) refl refl)
  other_ends (line.Loss percent) may = sets (λ p. record p { loss = percent }) (λ p. invariant.stays p (record p { loss = percent }) refl refl)
  other_ends (line.Run end step) may = keeps_run Holds MayBe invariant end step
  other_ends (line.Deliver copy) may = keeps_at Holds (λ p. Delivered copy (receiver p.world copy)) (λ p. delivered copy (receiver p.world copy))
  other_ends line.Flow may = keeps_flow Holds MayBe invariant
  other_ends (line.Inject name endpoint how bytes) may = noted (injection name endpoint how bytes) (Some name)
  other_ends (line.Address name) may = keeps_choice Holds MayBe invariant name IsChoice (chosen_event name) (λ made. []) (λ made. tt)
  other_ends (line.Ula name) may = keeps_choice Holds MayBe invariant name Decides (decided_event name) (λ made. ula_line name made ∷ []) (λ made. (refl, tt))
  other_ends (line.Sync left right) may = keeps_sync Holds MayBe invariant left right
  other_ends (line.Radv name e) may = keeps_at Holds (λ p. ThenProcess (Unless (unless_elects name e p.world)) (Sets (starting name e)))
      (λ p. keeps_then Holds (Unless (unless_elects name e p.world)) (Sets (starting name e)) (keeps_unless Holds (unless_elects name e p.world))
      (sets (starting name e) (invariant.starting name e may)))
  other_ends (line.Solicit name e) may = keeps_at Holds (λ p. ThenProcess (Unless (unless_elects name e p.world)) (Solicits name e))
      (λ p. keeps_then Holds (Unless (unless_elects name e p.world)) (Solicits name e) (keeps_unless Holds (unless_elects name e p.world)) (invariant.solicits name e))
  other_ends _ may = never

  follows : (event : WEvent) → Keeps Holds (Follows event)
  follows (event.Tick name) = invariant.turns name
  follows (event.Detach name e) = sets (ended_sending name e) (invariant.ended_sending name e)
  follows (event.Stop name) = sets (ending_all name) (invariant.ending_all name)
  follows (event.Start name) = sets (ending_all name) (invariant.ending_all name)
  follows _ = keeps_nothing Holds

  ends_as : (l : Line) (of : Option Report) → MayBe l → Keeps Holds (EndsAs l of)
  ends_as l (Some of) may = report_ends of
  ends_as l None may = other_ends l may

  ends_by : (l : Line) (event : Option WEvent) → MayBe l → Keeps Holds (EndsBy l event)
  ends_by l (Some event) may = keeps_then Holds (EventEnds event) (Follows event) (keeps_event Holds MayBe invariant event) (follows event)
  ends_by l None may = ends_as l (report_of l) may

  line_ends : (l : Line) → MayBe l → Keeps Holds (LineEnds l)
  line_ends l may = ends_by l (event_of l) may

  -- ---- a play

  refusal : (number code : ℕ) → Keeps Holds (TellsLines (refused_line number code ∷ []))
  refusal number code = invariant.tells (refused_line number code ∷ []) (refl, tt)

  pub keeps_said : (number : ℕ) (l : Line) → MayBe l → Keeps Holds (LineSaid number l)
  keeps_said number l may None p a h holds = line_ends l may None p a h holds
  keeps_said number l may (Some (Refused code)) p a h holds = refusal number code None h.0 a h.2 (line_ends l may (Some (Refused code)) p h.0 h.1 holds)
  keeps_said number l may (Some WireFailed) p a h holds = line_ends l may (Some WireFailed) p a h holds
  keeps_said number l may (Some (Cut fault)) p a (inl h) holds = line_ends l may (Some (Cut fault)) p a h holds
  keeps_said number l may (Some (Cut fault)) p a (inr h) holds = refusal number h.0 (Some (Cut fault)) h.1 a h.3 (line_ends l may (Some (Refused h.0)) p h.1 h.2 holds)

  pub keeps_done : (lines : List (ℕ × Line)) → AllByRecursion (λ l. MayBe l.1) lines → (p a : Stage) → LinesDone lines p a → Holds p → Holds a
  keeps_done [] may p a h holds = subst Holds (sym h) holds
  keeps_done (l ∷ lines) may p a h holds = keeps_done lines may.1 h.0 a h.2 (keeps_said l.0 l.1 may.0 None p h.0 h.1 holds)

  -- of the lines before one that is stopped, and of that one
  front_may : (front rest : List (ℕ × Line)) (l : ℕ × Line) → AllByRecursion (λ k. MayBe k.1) (front ++ l ∷ rest) → AllByRecursion (λ k. MayBe k.1) front × MayBe l.1
  front_may [] rest l may = (tt, may.0)
  front_may (k ∷ front) rest l may = let more = front_may front rest l may.1 in ((may.0, more.0), more.1)

  pub keeps_stopped : (number : ℕ) (stop : Stop) (lines : List (ℕ × Line)) → AllByRecursion (λ l. MayBe l.1) lines → (p a : Stage) → StopsAt number stop lines p a → Holds p → Holds a
  keeps_stopped number stop lines may p a h holds =
      let both = front_may h.front h.rest (number, h.line) (subst (AllByRecursion (λ (k : ℕ × Line). MayBe k.1)) h.lines_are may) in
      keeps_said number h.line both.1 (Some stop) h.between a h.said (keeps_done h.front both.0 p h.between h.done holds)
