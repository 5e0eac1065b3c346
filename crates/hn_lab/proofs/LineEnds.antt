-- How a report ends, and what is done in the world.
use Rattle.hn_base.proofs.Names.{◌≡◌, ◌≢◌, ℕ, List, [], Option, None, Some, Result, Ok, Err, inl, refl, sym, subst, IfOk}
use Rattle.hn_lab.proofs.Names.{◌↔◌, IsTrue, NoMemory, Line, WorldFault, Cut, Report, IsAnsweredLeaving, OtherEnds, event_of, report_of, Unless, unless_report, IsReport, ReportEnds, Stage}
use Rattle.hn_lab.proofs.Names.{TellsSome}
use Rattle.hn_script.specs.declared.line.Line.TheVariants as line
use Rattle.hn_world.specs.declared.event.WorldFault.TheVariants as fault
use Rattle.hn_lab.specs.Line.{is_act}
use Rattle.hn_play.proofs.RunStops.{then_on}

-- what is not refused
accepted : {A : Type 0} (unless : Option ℕ) (lines : A) → ((code : ℕ) → (Ok lines ≡ Err (fault.Refused code)) ↔ (unless ≡ Some code)) → unless ≡ None
accepted None lines refused = refl
accepted (Some code) lines refused = let same = (refused code).1 refl in absurd cc

-- the answer to a report ends it: its lines are left to tell, or it is refused
pub report_answered : (r : Report) (answer : Result (List (List ℕ)) WorldFault) (p : Stage) → IfOk answer (IsReport r p.world)
    → ((code : ℕ) → (answer ≡ Err (fault.Refused code)) ↔ (unless_report r p.world ≡ Some code)) → IsAnsweredLeaving (ReportEnds r) answer p p
report_answered r (Ok lines) p are refused = λ stop end tells.
    then_on (Unless (unless_report r p.world)) (TellsSome (IsReport r p.world)) stop p p end (accepted (unless_report r p.world) lines refused, refl) (lines, are, tells)
report_answered r (Err (fault.Refused code)) p are refused = inl ((refused code).0 refl, refl)
report_answered r (Err fault.NoMemory) p are refused = tt

-- what is done in the world may be cut where it begins
pub act_cut : (l : Line) (p : Stage) → IsTrue (is_act l) → OtherEnds l (Some (Cut NoMemory)) p p
act_cut (line.Inject name endpoint how bytes) p is = ([], inl refl)
act_cut (line.Address name) p is = inl refl
act_cut (line.Ula name) p is = inl refl
act_cut (line.Sync left right) p is = inl refl
act_cut (line.Radv name endpoint) p is = inl refl
act_cut (line.Solicit name endpoint) p is = inl refl
act_cut _ p is = absurd cc

-- a line that is neither an event of which no note comes up, nor a report, nor one of these, is one
pub acts : (l : Line) → event_of l ≡ None → report_of l ≡ None → ((end step : ℕ) → l ≢ line.Run end step) → ((seed : ℕ) → l ≢ line.Seed seed) → ((percent : ℕ) → l ≢ line.Loss percent)
    → ((copy : ℕ) → l ≢ line.Deliver copy) → l ≢ line.Flow → IsTrue (is_act l)
acts (line.Run end step) event report run seed loss deliver flow = absurd (run end step refl)
acts (line.Seed n) event report run seed loss deliver flow = absurd (seed n refl)
acts (line.Loss n) event report run seed loss deliver flow = absurd (loss n refl)
acts (line.Deliver copy) event report run seed loss deliver flow = absurd (deliver copy refl)
acts line.Flow event report run seed loss deliver flow = absurd (flow refl)
acts (line.Inject name endpoint how bytes) event report run seed loss deliver flow = refl
acts (line.Address name) event report run seed loss deliver flow = refl
acts (line.Ula name) event report run seed loss deliver flow = refl
acts (line.Sync left right) event report run seed loss deliver flow = refl
acts (line.Radv name endpoint) event report run seed loss deliver flow = refl
acts (line.Solicit name endpoint) event report run seed loss deliver flow = refl
acts _ event report run seed loss deliver flow = absurd cc

-- what is done by a line is done by the same line
pub act_of : (l same : Line) (r : Result (List (List ℕ)) WorldFault) (p a : Stage) → l ≡ same → IsAnsweredLeaving (OtherEnds same) r p a → IsAnsweredLeaving (OtherEnds l) r p a
act_of l same r p a is done = subst (λ (x : Line). IsAnsweredLeaving (OtherEnds x) r p a) (sym is) done
