-- After refused input only the moment is another, and no moment at which something is next due is kept.
use Rattle.hn_base.proofs.Names.{◌≡◌, ◌∙◌, ℕ, List, [], ◌∷◌, inl, inr, refl, sym, ap, IsLinkLocal}
use Rattle.hn_router.proofs.Names.{IsTrue, ListHasNoFirstFault, Running, Origin, State, Done, begun_at, noted, at_moment, PlainEvent, Arrive, Tick, is_refused, IsDueAfter, IsEvent}
use Rattle.hn_tlv.specs.Grammar.{FirstFault}
use Rattle.hn_rules.specs.declared.done.Note.{Note}
use Rattle.hn_rules.specs.declared.done.Note.TheVariants as note
use Rattle.hn_router.specs.Act.{Happened}
use Rattle.hn_router.specs.Laws.{RefusedInputStays}

-- whether an event is refused does not depend on the moment
pub refused_then : (event : PlainEvent) (now : ℕ) (s : State) → is_refused event (at_moment now s) ≡ is_refused event s
refused_then Tick now s = refl
refused_then _ now s = refl

-- a note was taken, and nothing else happened
abbrev IsNoted : ℕ → State → Running → Type 0
IsNoted now s after = (note : Note) × (after ≡ noted note (begun_at now s))

refused_noted : (now : ℕ) (event : PlainEvent) (s : State) (after : Running) → IsTrue (is_refused event s) → IsEvent event (begun_at now s) after → IsNoted now s after
refused_noted now event s after refused (inl (then, is)) = (note.Refused, is)
refused_noted now event s after refused (inr (accepted, holds)) =
    let same : is_refused event (at_moment now s) ≡ is_refused event s = refused_then event now s in
    absurd cc

far_noted : (now : ℕ) (from : Origin) (bytes : List ℕ) (s : State) (after : Running) → ¬ (IsLinkLocal from.from.ip) → IsEvent (Arrive from bytes) (begun_at now s) after → IsNoted now s after
far_noted now from bytes s after far (inl (then, is)) = (note.Refused, is)
far_noted now from bytes s after far (inr (accepted, inl is)) = (note.Far, is.gives)
far_noted now from bytes s after far (inr (accepted, inr (inl is))) = (note.Malformed is.place is.why, is.gives)
far_noted now from bytes s after far (inr (accepted, inr (inr is))) = absurd (far is.near)

malformed_noted : ListHasNoFirstFault → (now : ℕ) (from : Origin) (bytes : List ℕ) (place why : ℕ) (s : State) (after : Running)
    → FirstFault bytes place why → IsEvent (Arrive from bytes) (begun_at now s) after → IsNoted now s after
malformed_noted none now from bytes place why s after fault (inl (then, is)) = (note.Refused, is)
malformed_noted none now from bytes place why s after fault (inr (accepted, inl is)) = (note.Far, is.gives)
malformed_noted none now from bytes place why s after fault (inr (accepted, inr (inl is))) = (note.Malformed is.place is.why, is.gives)
malformed_noted none now from bytes place why s after fault (inr (accepted, inr (inr is))) = absurd (none bytes place why fault (is.tlvs, is.list))

-- so only the moment changes, and no moment at which something is next due is kept
noted_stays : (now : ℕ) (event : PlainEvent) (s next : State) (after : Running) (due : ℕ) → IsNoted now s after → IsDueAfter event (begun_at now s) after due → next ≡ record after.state { due = due }
    → next ≡ record s { moment = now; due = 0 }
noted_stays now event s next after due (note, is) is_due is_next =
    let zero : due ≡ 0 = by_note is_due in
    is_next ∙ (λ i. record (is i).state { due = zero i })
  where
    by_note : IsDueAfter event (begun_at now s) after due → due ≡ 0
    by_note (inl ((tick, same, none), next)) =
        let some : ◌≡◌ {A = List Note} (note ∷ []) [] = sym (ap (λ (r : Running). r.done.notes) is) ∙ ap (λ (d : Done). d.notes) none in
        absurd cc
    by_note (inr (busy, zero)) = zero

pub input_stays : ListHasNoFirstFault → RefusedInputStays
unfolding Happened
input_stays none = record {
  refused = λ now event s next done (after, holds, (due, is_due, is_next), is_done) refused. noted_stays now event s next after due (refused_noted now event s after refused holds) is_due is_next;
  far = λ now from bytes s next done (after, holds, (due, is_due, is_next), is_done) far.
      noted_stays now (Arrive from bytes) s next after due (far_noted now from bytes s after far holds) is_due is_next;
  malformed = λ now from bytes place why s next done (after, holds, (due, is_due, is_next), is_done) fault.
      noted_stays now (Arrive from bytes) s next after due (malformed_noted none now from bytes place why s after fault holds) is_due is_next;
}
