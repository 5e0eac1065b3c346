-- Something is due by 2^49.
use Rattle.hn_base.proofs.Names.{ℕ, ◌^◌, ◌<◌, ◌≤◌, arith, ◌⊎◌, inl, inr, cases_lt}
use Rattle.hn_rules.specs.Due.{IsNextDue}
use Rattle.hn_rules.specs.declared.state.State.{State}

pub due_soon : (s : State) (due : ℕ) → s.moment ≤ 2 ^ 48 → (s.moment < due → IsNextDue s due) → due ≤ 2 ^ 49
due_soon s due soon next = go (cases_lt s.moment due)
  where
    go : (s.moment < due) ⊎ (due ≤ s.moment) → due ≤ 2 ^ 49
    go (inl later) = (next later).at_most
    go (inr past) = omega (arith, past, soon)
