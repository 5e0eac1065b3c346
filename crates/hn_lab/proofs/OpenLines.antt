-- Lines that are added to an open play.
use Rattle.hn_base.proofs.Names.{◌≡◌, ℕ, List, [], ◌∷◌, Option, None, Some, IsSome, inl, inr, refl, subst, true}
use Rattle.hn_lab.proofs.Names.{EpId, Name, Note, Line, WEvent, Refused, Report, EventNotes, EventEnds, Sets, OtherEnds, Follows, EndsAs, EndsBy, LineEnds, event_of, report_of, seeded}
use Rattle.hn_lab.proofs.Names.{Process, Unless, ThenProcess, EachProcess, ReportEnds, MayTurn, TurnEnds, starting, ended_sending, ending_all, sender_endpoints, Stage, Mail}
use Rattle.hn_script.specs.declared.line.Line.TheVariants as line
use Rattle.hn_world.specs.declared.event.WEvent.TheVariants as event
use Rattle.hn_lab.specs.Laws.{MailDelivers}
use Rattle.hn_lab.specs.Open.{is_plain}

-- a process is never refused
abbrev NotRefused : Process → Type 0
NotRefused P = (code : ℕ) (p a : Stage) → P (Some (Refused code)) p a → ⊥

-- where it is refused, nothing changed
abbrev SameRefused : Process → Type 0
SameRefused P = (code : ℕ) (p a : Stage) → p.route ≡ Mail → P (Some (Refused code)) p a → a ≡ p

-- ---- what follows an event is not refused

turn_goes : (name : Name) (e : EpId) → NotRefused (MayTurn name e)
turn_goes name e code p a (inl (idle, none, same)) = absurd cc
turn_goes name e code p a (inr turn) = turn.ends

turns_go : (name : Name) (es : List EpId) → NotRefused (EachProcess (TurnEnds name) es)
turns_go name [] code p a h = h
turns_go name (e ∷ es) code p a (inl (inl h)) = h
turns_go name (e ∷ es) code p a (inl (inr (m, same, turn))) = turn_goes name e code m a turn
turns_go name (e ∷ es) code p a (inr (m, first, rest)) = turns_go name es code m a rest

sets_go : (change : Stage → Stage) → NotRefused (Sets change)
sets_go change code p a (none, same) = absurd cc

follows_go : (event : WEvent) → NotRefused (Follows event)
follows_go (event.Tick name) code p a h = turns_go name (sender_endpoints name p.senders) code p a h
follows_go (event.Detach name e) code p a h = sets_go (ended_sending name e) code p a h
follows_go (event.Stop name) code p a h = sets_go (ending_all name) code p a h
follows_go (event.Start name) code p a h = sets_go (ending_all name) code p a h
follows_go _ code p a h = h

-- ---- what is refused where it begins

then_same : (P Q : Process) → SameRefused P → NotRefused Q → SameRefused (ThenProcess P Q)
then_same P Q same goes code p a mail (inl h) = same code p a mail h
then_same P Q same goes code p a mail (inr (m, first, second)) = absurd (goes code m a second)

unless_same : (unless : Option ℕ) → SameRefused (Unless unless)
unless_same unless code p a mail (is, same) = same

notes_same : (event : WEvent) (notes : List Note) → SameRefused (EventNotes event notes)
notes_same event notes code p a mail (is, same) = same

event_same : (event : WEvent) → SameRefused (EventEnds event)
event_same event code p a mail (notes, h) = notes_same event notes code p a mail h

report_same : (r : Report) → SameRefused (ReportEnds r)
report_same r code p a mail (inl (is, same)) = same
report_same r code p a mail (inr (m, first, (lines, are, tells))) = absurd tells

other_same : MailDelivers → (l : Line) → is_plain l ≡ true → SameRefused (OtherEnds l)
other_same delivers (line.Seed seed) plain code p a mail h = absurd (sets_go (seeded seed) code p a h)
other_same delivers (line.Loss percent) plain code p a mail h = absurd (sets_go (λ q. record q { loss = percent }) code p a h)
other_same delivers (line.Deliver copy) plain code p a mail (notes, inl h) = (delivers copy notes (Some (Refused code)) p a mail h).1
other_same delivers (line.Deliver copy) plain code p a mail (notes, inr (m, first, tells)) = absurd tells
other_same delivers (line.Inject name e how bytes) plain code p a mail (notes, inl (is, same)) = same
other_same delivers (line.Inject name e how bytes) plain code p a mail (notes, inr (m, first, tells)) = absurd tells
other_same delivers (line.Radv name e) plain code p a mail (inl (is, same)) = same
other_same delivers (line.Radv name e) plain code p a mail (inr (m, first, second)) = absurd (sets_go (starting name e) code m a second)
other_same delivers (line.Solicit name e) plain code p a mail (inl (is, same)) = same
other_same delivers (line.Solicit name e) plain code p a mail (inr (m, first, (none, rest))) = absurd cc
other_same delivers (line.Run end step) plain code p a mail h = absurd cc
other_same delivers line.Flow plain code p a mail h = absurd cc
other_same delivers (line.Address name) plain code p a mail h = absurd cc
other_same delivers (line.Ula name) plain code p a mail h = absurd cc
other_same delivers (line.Sync left right) plain code p a mail h = absurd cc
other_same delivers _ plain code p a mail h = absurd h

as_same : MailDelivers → (l : Line) (r : Option Report) → is_plain l ≡ true → SameRefused (EndsAs l r)
as_same delivers l (Some r) plain code p a mail h = report_same r code p a mail h
as_same delivers l None plain code p a mail h = other_same delivers l plain code p a mail h

by_same : MailDelivers → (l : Line) (event : Option WEvent) → is_plain l ≡ true → SameRefused (EndsBy l event)
by_same delivers l (Some event) plain code p a mail h = then_same (EventEnds event) (Follows event) (event_same event) (follows_go event) code p a mail h
by_same delivers l None plain code p a mail h = as_same delivers l (report_of l) plain code p a mail h

pub line_same : MailDelivers → (l : Line) → is_plain l ≡ true → SameRefused (LineEnds l)
line_same delivers l plain code p a mail h = by_same delivers l (event_of l) plain code p a mail h

-- ---- reports

-- a report is no event
pub report_no_event : (l : Line) (e : WEvent) → IsSome (report_of l) → event_of l ≡ Some e → ⊥
report_no_event (line.Show name) e some is = absurd cc
report_no_event (line.Hash name) e some is = absurd cc
report_no_event (line.Used name) e some is = absurd cc
report_no_event (line.Prefixes name) e some is = absurd cc
report_no_event (line.Elect name endpoint letter) e some is = absurd cc
report_no_event (line.Advert name endpoint) e some is = absurd cc
report_no_event (line.Audit name) e some is = absurd cc
report_no_event (line.Addresses name) e some is = absurd cc
report_no_event (line.Addressed name) e some is = absurd cc
report_no_event (line.Ulas name) e some is = absurd cc
report_no_event (line.Compare left right) e some is = absurd cc
report_no_event line.Mail e some is = absurd cc
report_no_event _ e some is = absurd cc

-- and it is plain
pub report_is_plain : (l : Line) → IsSome (report_of l) → is_plain l ≡ true
report_is_plain (line.Run end step) some = absurd cc
report_is_plain line.Flow some = absurd cc
report_is_plain (line.Sync left right) some = absurd cc
report_is_plain (line.Address name) some = absurd cc
report_is_plain (line.Ula name) some = absurd cc
report_is_plain _ some = refl

pub run_is_no_report : (l : Line) (end step : ℕ) → l ≡ line.Run end step → IsSome (report_of l) → ⊥
run_is_no_report l end step is some =
    let none : IsSome (report_of (line.Run end step)) = subst (λ (x : Line). IsSome (report_of x)) is some in
    absurd cc
