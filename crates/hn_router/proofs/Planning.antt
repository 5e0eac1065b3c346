-- What was planned is what happens.
use Rattle.hn_base.proofs.Names.{◌≡◌, ℕ, Option, refl, subst, Drew, Took, Then}
use Rattle.hn_router.proofs.Names.{State, Running, IsRefresh, PlainEvent, plain_event, IsEdit, IsEventRule, IsDueAfter, IsEvent, begun_at}
use Rattle.hn_router.specs.declared.event.Event.{Event}
use Rattle.hn_router.specs.declared.event.Event.TheVariants as event
use Rattle.hn_router.specs.Act.{Happened, HasRun}
use Rattle.hn_router.proofs.Shift.{took_shifted}

-- an event beside an arrival and a tick runs its edit, and then a refresh
pub edit_runs : (given : Event) → ((endpoint : _) (from : _) (multicast : _) (bytes : _) → given ≡ event.Arrive endpoint from multicast bytes → ⊥)
    → (given ≡ event.Tick → ⊥) → (r a : Running) → Then (IsEdit (plain_event given)) IsRefresh r a → IsEventRule (plain_event given) r a
edit_runs (event.Arrive endpoint from multicast bytes) arrives ticks r a holds = absurd (arrives endpoint from multicast bytes refl)
edit_runs event.Tick arrives ticks r a holds = absurd (ticks refl)
edit_runs _ arrives ticks r a holds = holds

pub has_run : (now : ℕ) (event : PlainEvent) (told told_after : Option (ℕ → ℕ)) (s : State) (begun after : Running) → begun ≡ begun_at now s
    → HasRun event told told_after begun after → IsEvent event (begun_at now s) after
unfolding HasRun
has_run now event told told_after s begun after is ran = subst (λ (r : Running). IsEvent event r after) is ran.holds

pub has_happened : (now : ℕ) (event : PlainEvent) (s : State) (after : Running) (due : ℕ) → IsEvent event (begun_at now s) after
    → IsDueAfter event (begun_at now s) after due → Happened now event s (record after.state { due = due }) after.done
unfolding Happened
has_happened now event s after due ran is_due = (after, ran, (due, is_due, refl), refl)

pub took_words : (now : ℕ) (event : PlainEvent) (told told_after : Option (ℕ → ℕ)) (s : State) (begun after : Running) → begun ≡ begun_at now s
    → HasRun event told told_after begun after → Took told after.done.words told_after
unfolding HasRun
took_words now event told told_after s begun after is ran =
    took_shifted told told_after after.done.words (subst (λ (r : Running). Drew told r.done.words told_after after.done.words) is ran.drew)
