-- By mail each line ends, and lines have a play: it cannot be that they have none.
use Rattle.hn_base.proofs.Names.{◌≡◌, ◌-◌, ◌*◌, ◌/◌, ◌%◌, ◌<◌, ◌^◌, ℕ, List, [], ◌∷◌, Option, None, Some, refl, ap, inl, arith, All, div_below, pow_pos, IsByte}
use Rattle.hn_lab.proofs.Names.{EpId, Name, Version, some_then, Note, IsLimited, Line, WEvent, End, Sending, DeliveryEnds, EventEnds, EventNotes, ComesToAnEnd, GoesOn, IsFit, IsOn}
use Rattle.hn_lab.proofs.Names.{ScriptHasAPlay}
use Rattle.hn_lab.proofs.Names.{stop_by, IsUnbroken, EndsAs, EndsBy, Follows, LineEnds, Noted, OtherEnds, Sets, event_of, injection, receiver, report_of, seeded, begun, IsPlay, Process}
use Rattle.hn_lab.proofs.Names.{ThenProcess}
use Rattle.hn_lab.proofs.Names.{IsReport, unless_elects, unless_report, refused_line, Report, Solicits, ended_sending, ending_all, starting, Stage, Mail, telling, TellsLines, note_lines}
use Rattle.hn_lab.proofs.Names.{ula_line}
use Rattle.std.specs.Prelude.{bit_or, bit_xor}
use Rattle.std.proofs.lemmas.Nat.{or_of_32}
use Rattle.rand_pcg.specs.Lcg.{Lcg, state_after}
use Rattle.rand_pcg.specs.Pcg.{multiplier_64}
use Rattle.hn_io.specs.Pcg.{pcg_word}
use Rattle.hn_rules.specs.Given.{IsPrivateLength}
use Rattle.hn_script.specs.Laws.{HasFittingValues, IsPrivateLink, ScriptIsLimited, ValuesFit}
use Rattle.hn_script.specs.declared.line.How.{How}
use Rattle.hn_script.specs.declared.line.How.TheVariants.{Uni, Multi, Far}
use Rattle.hn_script.specs.declared.line.Line.TheVariants as line
use Rattle.hn_world.specs.Replay.{Replays}
use Rattle.hn_world.specs.declared.event.WEvent.TheVariants as event
use Rattle.hn_play.specs.declared.end.End.TheVariants as end
use Rattle.hn_lab.specs.Existing.{HasAPlay, PlayExists}
use Rattle.hn_lab.proofs.SomeChoices.{ChoiceLaws, EventFits, ends_address, ends_sync, ends_ula}
use Rattle.hn_lab.proofs.SomeEnds.{ends_after, ends_nothing, ends_report, ends_then, fit_told}
use Rattle.hn_lab.proofs.SomeEvents.{EndsNoted, ends_delivery, ends_event, ends_event_whatever, ends_flow, weaker}
use Rattle.hn_lab.proofs.SomeReports.{ReportLaws, some_report}
use Rattle.hn_lab.proofs.SomeTurns.{TurnLaws, ends_runs, ends_solicits, ends_turns}

-- the laws on which it rests
pub record PlayLaws : Type 0 where
  pub turns : TurnLaws
  pub reports : ReportLaws
  pub choices : ChoiceLaws

-- ---- words of a generator have 32 bits

not_more : (n k : ℕ) → 0 < k → n < 2 ^ 32 → n / k < 2 ^ 32
not_more n k some less = div_below n k (2 ^ 32) some (omega (arith, some, less))

rest_small : (n : ℕ) → n % 2 ^ 32 < 2 ^ 32
rest_small n = omega arith

rotated_small : (n a b : ℕ) → n < 2 ^ 32 → bit_or (n / 2 ^ a) (n * 2 ^ b % 2 ^ 32) < 2 ^ 32
rotated_small n a b small = or_of_32 (n / 2 ^ a) (n * 2 ^ b % 2 ^ 32) (not_more n (2 ^ a) (pow_pos a) small) (rest_small (n * 2 ^ b))

word_small : (g : Lcg) (place : ℕ) → pcg_word g place < 2 ^ 32
unfolding pcg_word
word_small g place =
    let s = state_after 64 multiplier_64 g.increment place g.state in
    rotated_small (bit_xor (s / 2 ^ 18) s / 2 ^ 27 % 2 ^ 32) (s / 2 ^ 59 % 32) ((32 - s / 2 ^ 59 % 32) % 32) (rest_small (bit_xor (s / 2 ^ 18) s / 2 ^ 27))

-- ---- what is set, and notes

ends_sets : (change : Stage → Stage) (p : Stage) → IsOn 0 p (change p) → ComesToAnEnd 0 (Sets change) p
ends_sets change p on = λ none. none (record { code = None; stage = change p }) ((refl, refl), on)

beside_on : (p : Stage) (senders : List Sending) → IsFit p → IsOn 0 p (record p { senders = senders })
beside_on p senders fit = record { fit = record { mail = fit.mail; replayed = fit.replayed; room = fit.room; words = fit.words }; grows = omega arith }

-- a line for each note comes up
ends_with_notes : (process : List Note → Process) (name : Option Name) (p : Stage) → EndsNoted 1 process p
    → ComesToAnEnd 0 (λ stop b a. (notes : List Note) × ThenProcess (process notes) (TellsLines (note_lines name notes)) stop b a) p
ends_with_notes process name p ends = some_then ends (λ e h. by_code e.notes e.code e.stage h.0 h.1)
  where
    by_code : (notes : List Note) (code : Option ℕ) (m : Stage) → process notes (stop_by code) p m → GoesOn 1 code p m
        → ComesToAnEnd 0 (λ stop b a. (notes : List Note) × ThenProcess (process notes) (TellsLines (note_lines name notes)) stop b a) p
    by_code notes (Some code) m ended goes = λ none. none (record { code = Some code; stage = m }) ((notes, inl ended), tt)
    by_code notes None m ended on = λ none.
        let told = fit_told (note_lines name notes) m on.fit _ refl in
        let first = on.grows in
        let second = told.grows in
        none (record { code = None; stage = telling (note_lines name notes) m }) ((notes, (m, ended, refl)), record { fit = told.fit; grows = omega (arith, first, second) })

-- ---- events

private_fits : (bits : Option ℕ) → IsPrivateLink bits → IsPrivateLength bits
private_fits None fits = tt
private_fits (Some bits) fits = fits

line_event_fits : (l : Line) → IsLimited l → HasFittingValues l → EventFits (event_of l)
line_event_fits (line.Router name id) limited fits = (fits, tt, tt)
line_event_fits (line.Link name) limited fits = (tt, tt, tt)
line_event_fits (line.Attach name e link) limited fits = ((limited, fits), fits, tt)
line_event_fits (line.Detach name e) limited fits = (tt, tt, tt)
line_event_fits (line.External name prefix valid preferred) limited fits = (tt, record { prefix_is = fits.0; valid_fits = fits.1; preferred_fits = fits.2 }, tt)
line_event_fits (line.Withdraw name prefix) limited fits = (tt, tt, tt)
line_event_fits (line.Caps name caps) limited fits = (tt, tt, tt)
line_event_fits (line.Private name bits) limited fits = (tt, private_fits bits fits, tt)
line_event_fits (line.Stop name) limited fits = (tt, tt, tt)
line_event_fits (line.Start name) limited fits = (tt, tt, tt)
line_event_fits (line.Time moment) limited fits = (limited, tt, tt)
line_event_fits (line.Tick name) limited fits = (tt, tt, tt)
line_event_fits (line.Drop copy) limited fits = (tt, tt, tt)
line_event_fits _ limited fits = tt

module _ (laws : PlayLaws) where
  -- what follows an event
  ends_follows : (happened : WEvent) (p : Stage) → IsFit p → ComesToAnEnd 0 (Follows happened) p
  ends_follows (event.Tick name) p fit = ends_turns laws.turns name p fit
  ends_follows (event.Detach name e) p fit = ends_sets (ended_sending name e) p (beside_on p _ fit)
  ends_follows (event.Stop name) p fit = ends_sets (ending_all name) p (beside_on p _ fit)
  ends_follows (event.Start name) p fit = ends_sets (ending_all name) p (beside_on p _ fit)
  ends_follows _ p fit = ends_nothing p fit

  -- ---- the other lines

  module _ (p : Stage) (fit : IsFit p) where
    injection_fits : (name : Name) (e : EpId) (how : How) (bytes : List ℕ) → All IsByte bytes → EventFits (Some (injection name e how bytes))
    injection_fits name e Uni bytes are = (tt, tt, are)
    injection_fits name e Multi bytes are = (tt, tt, are)
    injection_fits name e Far bytes are = (tt, tt, are)

    ends_inject : (name : Name) (e : EpId) (how : How) (bytes : List ℕ) → All IsByte bytes → ComesToAnEnd 0 (Noted (injection name e how bytes) (Some name)) p
    ends_inject name e how bytes are =
        let fits = injection_fits name e how bytes are in
        ends_with_notes (EventNotes (injection name e how bytes)) (Some name) p (ends_event laws.turns.events (injection name e how bytes) p fit fits.0 fits.1 fits.2)

    ends_other : (l : Line) → event_of l ≡ None → report_of l ≡ None → IsLimited l → HasFittingValues l → ComesToAnEnd 0 (OtherEnds l) p
    ends_other (line.Seed seed) none unreported limited fits = ends_sets (seeded seed) p (record {
      fit = record { mail = fit.mail; replayed = fit.replayed; room = fit.room; words = λ place. word_small _ place };
      grows = omega arith;
    })
    ends_other (line.Loss percent) none unreported limited fits = ends_sets (λ q. record q { loss = percent }) p (record {
      fit = record { mail = fit.mail; replayed = fit.replayed; room = fit.room; words = fit.words };
      grows = omega arith;
    })
    ends_other (line.Run end step) none unreported limited fits = ends_runs laws.turns end step limited.0 p fit
    ends_other (line.Deliver copy) none unreported limited fits = ends_with_notes (DeliveryEnds copy) (receiver p.world copy) p (ends_delivery laws.turns.events copy p fit)
    ends_other line.Flow none unreported limited fits = ends_flow laws.turns.events p fit
    ends_other (line.Inject name e how bytes) none unreported limited fits = ends_inject name e how bytes fits
    ends_other (line.Address name) none unreported limited fits = ends_address laws.choices name (λ made. []) p fit
    ends_other (line.Ula name) none unreported limited fits = ends_ula laws.choices name (λ made. ula_line name made ∷ []) p fit
    ends_other (line.Sync left right) none unreported limited fits = ends_sync laws.choices left right p fit
    ends_other (line.Radv name e) none unreported limited fits =
        ends_after (unless_elects name e p.world) (Sets (starting name e)) p fit (λ accepted. ends_sets (starting name e) p (beside_on p _ fit))
    ends_other (line.Solicit name e) none unreported limited fits = ends_after (unless_elects name e p.world) (Solicits name e) p fit (λ accepted. ends_solicits laws.turns name e p fit)
    ends_other _ none unreported limited fits = absurd cc

  -- ---- a line, and lines

  ends_line : (l : Line) (p : Stage) → IsFit p → IsLimited l → HasFittingValues l → ComesToAnEnd 0 (LineEnds l) p
  ends_line l p fit limited fits = by_event (event_of l) refl (line_event_fits l limited fits)
    where
      by_report : event_of l ≡ None → (o : Option Report) → report_of l ≡ o → ComesToAnEnd 0 (EndsAs l o) p
      by_report none None is = ends_other p fit l none is limited fits
      by_report none (Some of) is = ends_report (unless_report of p.world) (IsReport of p.world) p fit (some_report laws.reports p.world fit.replayed of)

      by_event : (o : Option WEvent) → event_of l ≡ o → EventFits o → ComesToAnEnd 0 (EndsBy l o) p
      by_event None is _ = by_report is (report_of l) refl
      by_event (Some happens) is event_fits =
          ends_then 0 (EventEnds happens) (Follows happens) p
          (weaker p (EventEnds happens) (ends_event_whatever laws.turns.events happens p fit event_fits.0 event_fits.1 event_fits.2)) (λ m done on. ends_follows happens m on.fit)

  pub lines_have_a_play : PlayExists
  lines_have_a_play [] p fit limited fits = λ none. none (record { end = end.Done; stage = p }) (tt, refl)
  lines_have_a_play (l ∷ ls) p fit limited fits = some_then (ends_line l.1 p fit limited.0 fits.0) (λ e h. by_code (λ m fit'. lines_have_a_play ls m fit' limited.1 fits.1) e.code e.stage h.0 h.1)
    where
      later : (how : End) (m a : Stage) → LineEnds l.1 None p m → IsUnbroken how → IsPlay ls how m a → IsPlay (l ∷ ls) how p a
      later end.Done m a ended unbroken play = (m, ended, play)
      later (end.Refused number code) m a ended unbroken play = record {
        front = l ∷ play.front;
        line = play.line;
        rest = play.rest;
        between = play.between;
        lines_are = ap (λ (rest : List (ℕ × Line)). l ∷ rest) play.lines_are;
        done = (m, ended, play.done);
        said = play.said;
      }
      later end.WireFailed m a ended unbroken play = absurd unbroken

      by_code : ((m : Stage) → IsFit m → HasAPlay ls m) → (code : Option ℕ) (m : Stage) → LineEnds l.1 (stop_by code) p m → GoesOn 0 code p m → HasAPlay (l ∷ ls) p
      by_code rest None m ended on =
          some_then (rest m on.fit) (λ played is none. none played (is.0, later played.end m played.stage ended is.0 is.1))
      by_code rest (Some code) m ended goes = λ none.
          none (record { end = end.Refused l.0 code; stage = telling (refused_line l.0 code ∷ []) m }) (
            tt,
            record { front = []; line = l.1; rest = ls; between = p; lines_are = refl; done = refl; said = (m, ended, refl) },
          )

-- ---- a script

pub fit_begun : (version : Version) → IsFit (begun Mail version)
unfolding Replays
fit_begun version = record { mail = refl; replayed = refl; room = omega arith; words = λ place. omega arith }

pub script_has_a_play : PlayExists → ScriptIsLimited → ValuesFit → ScriptHasAPlay
script_has_a_play exists limited fit script bytes is = exists script.lines (begun Mail script.version) (fit_begun script.version) (limited script bytes is) (fit bytes script is)
