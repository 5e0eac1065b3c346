-- Where nothing is due in an interval, nothing is until something is.
use Rattle.hn_base.proofs.Names.{◌≡◌, ◌+◌, ℕ, ◌<◌, ◌⊎◌, Bool, true, false, inl, inr, refl}
use Rattle.hn_timers.specs.Interval.{Interval}
use Rattle.hn_timers.specs.Due.{IsIntervalDue, IsIntervalUndue}

module _ (i : Interval) (now later : ℕ) (still : IsIntervalUndue now i) (none : (m : ℕ) → IsIntervalDue i m → now < m → later < m) where
  waits : (done : Bool) → i.done ≡ done → (done ≡ true) ⊎ (now < i.fire) → (i.done ≡ true) ⊎ (later < i.fire)
  waits true is h = inl is
  waits false is (inl h) = absurd cc
  waits false is (inr h) = inr (none i.fire (inl (is, refl)) h)

  pub stays : IsIntervalUndue later i
  stays = record {
    waits = waits i.done refl still.waits;
    lasts = none (i.begin + i.len) (inr refl) still.lasts;
  }
