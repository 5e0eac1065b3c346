-- Words that a draw took.
use Rattle.hn_base.proofs.Names.{◌≡◌, ◌+◌, ℕ, List, [], length, Some, ap, arith, same_Some, Begins, IsAt, Took}
use Rattle.std.proofs.Math.Nat.{zero-add}

-- the words that a draw took are the first to come, and those after them are to come then
pub taken : (words : List ℕ) (before after : ℕ → ℕ) → Took (Some before) words (Some after)
    → Begins words before × (after ≡ (λ place. before (length words + place)))
taken words before after took =
    let at : IsAt (Some before) before [] = record { begins = λ i less. absurd (omega arith); rest = ap Some (simp zero-add) } in
    let then_at = took [] before at in
    (then_at.begins, same_Some after (λ place. before (length words + place)) then_at.rest)
