-- A line of a script ends in one way.
use Rattle.hn_base.proofs.Names.{◌≡◌, ◌∙◌, ℕ, [], ◌∷◌, Option, None, Some, refl, sym, ap, subst}
use Rattle.hn_lab.proofs.Names.{IsChoice, Name, Line, Decides, WEvent, StepIsUnique, Report, chosen_event, decided_event, EventNotes, EventEnds, DeliveryEnds, IsKnownRoute, ResultsAreUnique}
use Rattle.hn_lab.proofs.Names.{Noted}
use Rattle.hn_lab.proofs.Names.{Delivered, Sets, OtherEnds, Follows, EndsAs, EndsBy, LineEnds, event_of, report_of, receiver, injection, seeded, Unless, ThenProcess, unless_elects, Solicits}
use Rattle.hn_lab.proofs.Names.{starting, ended_sending, ending_all, Stage, TellsLines, note_lines, ula_line}
use Rattle.hn_script.specs.declared.line.Line.TheVariants as line
use Rattle.hn_world.specs.declared.event.WEvent.TheVariants as event
use Rattle.hn_lab.proofs.LawAlike.{grows_none, AreOne, IsSole, sole_at, sole_nothing, sole_unless, sole_then, noting_then}
use Rattle.hn_lab.proofs.LawChoosings.{sole_choice}
use Rattle.hn_lab.proofs.LawEvents.{noting_event, sole_event, noting_delivery, sole_flow, sole_run}
use Rattle.hn_lab.proofs.LawReports.{sole_report}
use Rattle.hn_lab.proofs.LawSendings.{sole_turns, sole_solicits}
use Rattle.hn_lab.proofs.LawSyncs.{sole_sync}
use Rattle.hn_lab.proofs.LawTells.{sole_tells}

-- ---- forms of lines

-- what is set is neither the route nor the text
sole_sets : (change : Stage → Stage) → ((p : Stage) → (change p).route ≡ p.route) → ((p : Stage) → (change p).text ≡ p.text) → IsSole (Sets change)
sole_sets change route text = record {
  one = λ c d p a b told h k. AreOne (h.0 ∙ sym k.0) (h.1 ∙ sym k.1);
  keeps = λ p a told h. subst (λ (s : Stage). IsKnownRoute s.route) (sym h.1) (subst IsKnownRoute (sym (route p)) told);
  grows = λ c p a h. grows_none p a (ap (λ (s : Stage). s.text) h.1 ∙ text p);
}

sole_noted : StepIsUnique → (event : WEvent) (name : Option Name) → IsSole (Noted event name)
sole_noted steps event name =
    noting_then (EventNotes event) (λ notes. TellsLines (note_lines name notes)) (noting_event steps event) (λ notes. sole_tells (note_lines name notes))

sole_delivered : StepIsUnique → (copy : ℕ) (name : Option Name) → IsSole (Delivered copy name)
sole_delivered steps copy name =
    noting_then (DeliveryEnds copy) (λ notes. TellsLines (note_lines name notes)) (noting_delivery steps copy) (λ notes. sole_tells (note_lines name notes))

-- a line that ends in no way
sole_never : IsSole (λ stop p a. ⊥)
sole_never = record {
  one = λ c d p a b told h k. absurd h;
  keeps = λ p a told h. absurd h;
  grows = λ c p a h. absurd h;
}

-- ---- each line

sole_other : ResultsAreUnique → (l : Line) → IsSole (OtherEnds l)
sole_other unique (line.Seed seed) = sole_sets (seeded seed) (λ p. refl) (λ p. refl)
sole_other unique (line.Loss percent) = sole_sets (λ p. record p { loss = percent }) (λ p. refl) (λ p. refl)
sole_other unique (line.Run end step) = sole_run unique.steps unique.adverts unique.readings end step
sole_other unique (line.Deliver copy) = sole_at (λ p. Delivered copy (receiver p.world copy)) (λ p. sole_delivered unique.steps copy (receiver p.world copy))
sole_other unique line.Flow = sole_flow unique.steps
sole_other unique (line.Inject name endpoint how bytes) = sole_noted unique.steps (injection name endpoint how bytes) (Some name)
sole_other unique (line.Address name) = sole_choice unique.steps name IsChoice (chosen_event name) (λ made. []) unique.choices
sole_other unique (line.Ula name) = sole_choice unique.steps name Decides (decided_event name) (λ made. ula_line name made ∷ []) unique.decisions
sole_other unique (line.Sync left right) = sole_sync unique.exchanges left right
sole_other unique (line.Radv name e) =
    sole_at (λ p. ThenProcess (Unless (unless_elects name e p.world)) (Sets (starting name e)))
    (λ p. sole_then (Unless (unless_elects name e p.world)) (Sets (starting name e)) (sole_unless (unless_elects name e p.world)) (sole_sets (starting name e) (λ q. refl) (λ q. refl)))
sole_other unique (line.Solicit name e) =
    sole_at (λ p. ThenProcess (Unless (unless_elects name e p.world)) (Solicits name e))
    (λ p. sole_then (Unless (unless_elects name e p.world)) (Solicits name e) (sole_unless (unless_elects name e p.world)) (sole_solicits name e))
sole_other unique _ = sole_never

-- what follows an event
sole_follows : ResultsAreUnique → (event : WEvent) → IsSole (Follows event)
sole_follows unique (event.Tick name) = sole_turns unique.adverts unique.readings name
sole_follows unique (event.Detach name e) = sole_sets (ended_sending name e) (λ p. refl) (λ p. refl)
sole_follows unique (event.Stop name) = sole_sets (ending_all name) (λ p. refl) (λ p. refl)
sole_follows unique (event.Start name) = sole_sets (ending_all name) (λ p. refl) (λ p. refl)
sole_follows unique _ = sole_nothing

sole_as : ResultsAreUnique → (l : Line) (r : Option Report) → IsSole (EndsAs l r)
sole_as unique l (Some r) = sole_report unique r
sole_as unique l None = sole_other unique l

sole_by : ResultsAreUnique → (l : Line) (event : Option WEvent) → IsSole (EndsBy l event)
sole_by unique l (Some event) = sole_then (EventEnds event) (Follows event) (sole_event unique.steps event) (sole_follows unique event)
sole_by unique l None = sole_as unique l (report_of l)

pub sole_line : ResultsAreUnique → (l : Line) → IsSole (LineEnds l)
sole_line unique l = sole_by unique l (event_of l)
