use Rattle.hn_base.proofs.Names.{◌≡◌, ◌+◌, ◌%◌, ◌^◌, ◌<◌, ℕ, true}
use Rattle.hn_rules.proofs.Names.{is_taken}
use Rattle.hn_rules.proofs.state.State.first_free.Given as goal

abbrev pub invariant-loop-taken : goal.invariant-loop-taken
invariant-loop-taken l =
    (l.id ≡ (l.word + l._taken) % 2 ^ 32) × ((j : ℕ) → j < l._taken → is_taken ((l.word + j) % 2 ^ 32) l.self ≡ true)
