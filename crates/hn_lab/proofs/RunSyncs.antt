-- An exchange in a play.
use Rattle.hn_base.proofs.Names.{◌≡◌, ◌∙◌, ℕ, Option, None, Some, Ok, Err, inl, inr, refl, ap}
use Rattle.hn_lab.proofs.Names.{Name, unless_exchange, WorldFault, Refused, IsAnsweredLeaving, Stage, Syncs, SyncEnds}
use Rattle.hn_world.specs.declared.event.WorldFault.TheVariants as fault

-- what is not refused first, if a refusal is an error
pub not_first : {A : Type 0} (unless : Option ℕ) (answer : A) → ((code : ℕ) → unless ≡ Some code → Ok answer ≡ Err (fault.Refused code)) → unless ≡ None
not_first None answer refused = refl
not_first (Some code) answer refused = let same = refused code refl in absurd cc

-- a world does not let an exchange go on to its end: it is refused, then or later, or memory ended
pub not_synced : (a b : Name) (why : WorldFault) (before after : Stage)
    → ((code : ℕ) → unless_exchange a b before.world ≡ Some code → (why ≡ fault.Refused code) × (after ≡ before))
    → ((code : ℕ) → unless_exchange a b before.world ≡ None → why ≡ fault.Refused code → Syncs a b (Some code) before after)
    → IsAnsweredLeaving (SyncEnds a b) (Err why) before after
not_synced a b fault.NoMemory before after first later = tt
not_synced a b (fault.Refused code) before after first later = by_first (unless_exchange a b before.world) refl
  where
    by_first : (unless : Option ℕ) → unless_exchange a b before.world ≡ unless → SyncEnds a b (Some (Refused code)) before after
    by_first None is = inr (before, (is, refl), later code is refl)
    by_first (Some other) is =
        let refused = first other is in
        let same : other ≡ code = cc in
        inl (is ∙ ap Some same, refused.1)
