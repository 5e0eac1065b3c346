-- Events of a play.
use Rattle.hn_base.proofs.Names.{◌≡◌, ◌∙◌, ◌+◌, ℕ, List, [], ◌∷◌, ◌++◌, length, Option, None, Some, Result, Err, inl, refl, ap, length-append}
use Rattle.hn_play.proofs.Names.{NoMemory, WEvent, WorldFault, refusal, EventNotes, EventEnds, Stop, Refused, Cut, Ended, IsAnswered, IsAnsweredWith, stopping, Process, Stage}
use Rattle.hn_world.specs.declared.event.WorldFault.TheVariants as fault
use Rattle.hn_play.proofs.RunAnswers.{ends_so}
use Rattle.hn_world.specs.declared.event.Traced.{Traced}

-- stages with the same parts
pub same_stage : (p q : Stage) → q.world ≡ p.world → q.loss ≡ p.loss → q.words ≡ p.words → q.route ≡ p.route → q.senders ≡ p.senders → q.text ≡ p.text → q ≡ p
same_stage p q world loss words route senders text =
    λ k. record { world = world k; loss = loss k; words = words k; route = route k; senders = senders k; text = text k }

-- one more event in a trace
pub one_more : (t : Traced) (old new : List Traced) → new ≡ old ++ t ∷ [] → length new ≡ length old + 1
one_more t old new is = ap length is ∙ length-append old (t ∷ [])

-- a world does not let an event happen
pub not_applied : (event : WEvent) (why : WorldFault) (before after : Stage)
    → ((code : ℕ) → why ≡ fault.Refused code → (refusal before.world event ≡ Some code) × (after ≡ before))
    → IsAnsweredWith (λ notes. EventNotes event notes None) (EventEnds event) (Err why) before after
not_applied event (fault.Refused code) before after refused = ([], refused code refl)
not_applied event fault.NoMemory before after refused = tt

-- the answer to an event, as that of a play
pub event_ends : {A : Type 0} (event : WEvent) (process : Process) (answer : Result A WorldFault) (r : Result A Stop) (p a : Stage) → r ≡ stopping answer
    → a.text ≡ p.text → a.route ≡ p.route → ((stop : Option Stop) (at : Stage) → EventEnds event stop p at → process stop p at)
    → IsAnswered (EventEnds event) answer p a → Ended process r p a
event_ends event process answer r p a same told stays so =
    ends_so (EventEnds event) process p p a (λ code h. so (Some (Refused code)) a h) (λ _. EventEnds event None) (λ _. process) answer r same told
    (so (Some (Cut NoMemory)) p ([], refl)) (inl stays) (λ _ h. so None a h)
